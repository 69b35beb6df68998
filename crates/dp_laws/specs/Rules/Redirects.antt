-- Where the arcs into a layer are redirected when nodes are taken out of it.
use Rattle.std.specs.Prelude.{ℕ, ℤ, ◌+ℤ◌, List, map, slice_get, Option, Some, None, option_and_then}
use Rattle.dp_laws.specs.declared.arc.DdArc.{DdArc}
use Rattle.dp_laws.specs.Diagrams.Nodes.{DdNode}

-- the place of the new target, and by how much it is lengthened
pub record Redirect : Type 0 where
  pub place : ℕ
  pub longer : ℤ

-- the arc with a new target, or without one
abbrev pub redirected_by : DdArc → Option Redirect → DdArc
redirected_by arc None = record { decision = arc.decision; target = None; gain = arc.gain; longer = arc.longer }
redirected_by arc (Some l) = record { decision = arc.decision; target = Some l.place; gain = arc.gain; longer = arc.longer +ℤ l.longer }

-- the arc as the redirect of its target says, by the redirects of the places of the layer; one into a struck node has no target
abbrev pub redirected : List (Option Redirect) → DdArc → DdArc
redirected redirects arc = redirected_by arc (option_and_then (λ i. option_and_then (λ l. l) (slice_get redirects i)) arc.target)

-- the layer above with its arcs redirected
abbrev pub with_redirected : List (Option Redirect) → List DdNode → List DdNode
with_redirected redirects above = map (λ (node : DdNode). record node { arcs = map (redirected redirects) node.arcs }) above
