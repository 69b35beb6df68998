-- The search for an arc to an inexact node.
use Rattle.std.proofs.Common.{◌≡◌, ℕ, suc, zero, ◌+◌, Bool, true, false, ◌||◌, List, [], ◌∷◌, drop, slice_get, Option, Some, None, option_map, option_and_then, refl, sym, ◌∙◌, ap, arith}
use Rattle.dp_laws.specs.declared.arc.DdArc.{DdArc}
use Rattle.dp_laws.specs.Diagrams.Nodes.{DdNode}
use Rattle.dp_laws.specs.Diagrams.Cutsets.{leads_out, leaves}
use Rattle.dp_laws.proofs.Diagrams.Places.{same-Some}

drop-next : (xs : List DdArc) (i : ℕ) (x : DdArc) → slice_get xs i ≡ Some x → drop i xs ≡ x ∷ drop (suc i) xs
drop-next [] i x e = absurd (let none : None ≡ Some x = e in cc)
drop-next (y ∷ ys) zero x e = ap (λ z. z ∷ ys) (same-Some y x e)
drop-next (y ∷ ys) (suc i) x e = drop-next ys i x e

-- the arcs from a place on lead out exactly where all do
abbrev pub AreSearched : List DdNode → Option DdNode → ℕ → Type 0
AreSearched next o i = option_map (λ (n : DdNode). leaves next (drop i n.arcs)) o ≡ option_map (λ (n : DdNode). leaves next n.arcs) o

pub found-out : (next : List DdNode) (o : Option DdNode) (i : ℕ) (arc : DdArc) (b : Bool) → option_and_then (λ (n : DdNode). slice_get n.arcs i) o ≡ Some arc → AreSearched next o i → b ≡ leads_out next arc.target → b ≡ true → option_map (λ (n : DdNode). leaves next n.arcs) o ≡ Some true
found-out next None i arc b at h is t = absurd (let none : None ≡ Some arc = at in cc)
found-out next (Some n) i arc b at h is t =
    let split : drop i n.arcs ≡ arc ∷ drop (suc i) n.arcs = drop-next n.arcs i arc at in
    sym h ∙ (ap (λ as_. Some (leaves next as_)) split ∙ ap (λ v. Some (v || leaves next (drop (suc i) n.arcs))) (sym is ∙ t))

pub none-out : (next : List DdNode) (o : Option DdNode) (i : ℕ) (arc : DdArc) (b : Bool) → option_and_then (λ (n : DdNode). slice_get n.arcs i) o ≡ Some arc → AreSearched next o i → b ≡ leads_out next arc.target → b ≡ false → AreSearched next o (i + 1)
none-out next None i arc b at h is t = refl
none-out next (Some n) i arc b at h is t =
    let split : drop i n.arcs ≡ arc ∷ drop (suc i) n.arcs = drop-next n.arcs i arc at in
    let next_i : suc i ≡ i + 1 = omega arith in
    let here : Some (leaves next (drop i n.arcs)) ≡ Some (leaves next (drop (suc i) n.arcs)) = ap (λ as_. Some (leaves next as_)) split ∙ ap (λ v. Some (v || leaves next (drop (suc i) n.arcs))) (sym is ∙ t) in
    ap (λ j. Some (leaves next (drop j n.arcs))) (sym next_i) ∙ (sym here ∙ h)
