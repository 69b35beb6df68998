-- The numbers of a compiled diagram are small enough for its suffixes.
use Rattle.std.proofs.Common.{◌≡◌, ℕ, zero, suc, ◌+◌, ◌-◌, ◌*◌, ◌<◌, ◌≤◌, nat_lt, ℤ, ◌+ℤ◌, ◌≤ℤ◌, Bool, true, false, cond, List, [], ◌∷◌, length, map, slice_get, Option, Some, None, refl, sym, ap, subst, arith}
use Rattle.std.proofs.lemmas.Int.{ints}
use Rattle.std.proofs.lemmas.Bool.{and_parts}
use Rattle.dp_model.specs.Dp.{Dp}
use Rattle.dp_model.specs.Laws.{IsLawful}
use Rattle.dp_model.specs.Lists.{Each}
use Rattle.dp_model.specs.Prefixes.{IsPrefix}
use Rattle.dp_model.specs.Reached.{reached}
use Rattle.dp_model.proofs.Members.{each-has, each-of-all}
use Rattle.dp_laws.specs.declared.arc.DdArc.{DdArc}
use Rattle.dp_laws.specs.Restricted.Beam.{is_reduced}
use Rattle.dp_laws.specs.Diagrams.Nodes.{DdNode}
use Rattle.dp_laws.specs.Diagrams.Seen.{suffix_from}
use Rattle.dp_laws.specs.Rules.Expanding.{new_layer}
use Rattle.dp_laws.specs.Rules.Pruning.{prune_redirects}
use Rattle.dp_laws.specs.Rules.Reducing.{merge_redirects}
use Rattle.dp_laws.specs.Rules.Compiling.{expand, prune, merge_rest, is_wide, built, compiled, first_of_layers, with_suffixes, start_layer}
use Rattle.dp_laws.specs.Rules.Within.{IsBetween, IsLayerWithin, ReachesWithin, LeadsWithin, IsArcWithin, AreWithin, IsSuffixWithin}
use Rattle.dp_laws.proofs.Rules.Expanded.{with_arcs_of}
use Rattle.dp_laws.proofs.Rules.Redirecting.{followed_node}
use Rattle.dp_laws.proofs.Rules.Within.{expand-within, prune-within, merge-within, start-within, suffixes-small}
use Rattle.layer_nodes.specs.Ending.{MayAdd, MayFollow, IsThere, MayLead}
use Rattle.layer_build.specs.Ended.{ended}
use Rattle.relaxed_dd.specs.Numbers.{AreLayersWithin}

-- an arc is within for nodes of the same values

abbrev KeepsValue : (DdNode → DdNode) → Type 0
KeepsValue f = (x : DdNode) → (f x).value ≡ x.value

reaches-same : (f : DdNode → DdNode) → KeepsValue f → (reach : ℤ) (next : List DdNode) (i : ℕ) → ReachesWithin reach (slice_get next i) → ReachesWithin reach (slice_get (map f next) i)
reaches-same f keeps reach [] i h = h
reaches-same f keeps reach (x ∷ next) zero h = subst (λ v. reach ≤ℤ v) (sym (keeps x)) h
reaches-same f keeps reach (x ∷ next) (suc i) h = reaches-same f keeps reach next i h

leads-same : (f : DdNode → DdNode) → KeepsValue f → (reach : ℤ) (next : List DdNode) (o : Option ℕ) → LeadsWithin reach next o → LeadsWithin reach (map f next) o
leads-same f keeps reach next None h = tt
leads-same f keeps reach next (Some i) h = reaches-same f keeps reach next i h

-- arcs of a layer into the next one
abbrev pub LeadInto : ℕ → List DdNode → List DdNode → Type 0
LeadInto k layer next = Each (λ (node : DdNode). Each (IsArcWithin k next node) node.arcs) layer

pub into-same : (f : DdNode → DdNode) → KeepsValue f → (k : ℕ) (layer next : List DdNode) → LeadInto k layer next → LeadInto k layer (map f next)
into-same f keeps k layer next h = each-of-all (λ (node : DdNode). Each (IsArcWithin k (map f next) node) node.arcs) layer (λ x has.
    let own = each-has (λ (node : DdNode). Each (IsArcWithin k next node) node.arcs) layer x h has in
    each-of-all (IsArcWithin k (map f next) x) x.arcs (λ arc listed.
    let a = each-has (IsArcWithin k next x) x.arcs arc own listed in
    record { gain = a.gain; longer = a.longer; leads = leads-same f keeps (x.value +ℤ (arc.gain +ℤ arc.longer)) next arc.target a.leads }))

-- One layer more.

built-within : (dp : Dp) → IsLawful dp → (first w : ℕ) (t : Option ℤ) (k : ℕ) (layer : List DdNode) → 1 ≤ w → k < dp.vars → IsLayerWithin dp k w layer → AreWithin dp k w (built dp first w t k layer)
built-within dp laws first w t k layer some low h =
    let two = prune dp (k + 1) t (expand dp k layer) in
    let within = prune-within dp laws k w t (expand dp k layer) (expand-within dp laws k w layer low h) in
    let split : (b : Bool) → is_wide dp first w (k + 1) two.next ≡ b → AreWithin dp k w (cond b (merge_rest dp (k + 1) w two) two) = λ b. elim b as (λ b. is_wide dp first w (k + 1) two.next ≡ b → AreWithin dp k w (cond b (merge_rest dp (k + 1) w two) two)) [
      | true ↦ λ e. merge-within dp laws k w two some (let more : nat_lt w (length two.next) ≡ true = (and_parts (is_reduced dp first (k + 1)) (nat_lt w (length two.next)) e).1 in grind arith) within
      | false ↦ λ e. within
    ] in
    split (is_wide dp first w (k + 1) two.next) refl

into-built : (dp : Dp) (first w : ℕ) (t : Option ℤ) (k : ℕ) (layer : List DdNode) (j : ℕ) (above : List DdNode) → LeadInto j above layer → LeadInto j above (built dp first w t k layer).above
into-built dp first w t k layer j above h =
    let next = new_layer dp k layer in
    let one = into-same (with_arcs_of dp k next) (λ x. refl) j above layer h in
    let two = prune dp (k + 1) t (expand dp k layer) in
    let pruned : LeadInto j above two.above = into-same (followed_node (prune_redirects dp (k + 1) t [] 0 next)) (λ x. refl) j above (expand dp k layer).above one in
    elim (is_wide dp first w (k + 1) two.next) as (λ v. LeadInto j above (cond v (merge_rest dp (k + 1) w two) two).above) [
      | true ↦ into-same (followed_node (merge_redirects dp (k + 1) w two.next)) (λ x. refl) j above two.above pruned
      | false ↦ pruned
    ]

-- the compiled layers, of which the first is the given one with arcs
record IsCompilation (dp : Dp) (first w : ℕ) (t : Option ℤ) (k m : ℕ) (layer : List DdNode) : Type 0 where
  head : List DdNode
  rest : List (List DdNode)
  is : compiled dp first w t k m layer ≡ head ∷ rest
  all : AreLayersWithin dp w k (head ∷ rest)
  into : (j : ℕ) (above : List DdNode) → LeadInto j above layer → LeadInto j above head

compiles-within : (dp : Dp) → IsLawful dp → (first w : ℕ) (t : Option ℤ) (k m : ℕ) (layer : List DdNode) → 1 ≤ w → k + m ≡ dp.vars → IsLayerWithin dp k w layer → IsCompilation dp first w t k m layer
compiles-within dp laws first w t k zero layer some e h = record { head = layer; rest = []; is = refl; all = h; into = λ j above l. l }
compiles-within dp laws first w t k (suc m) layer some e h =
    let two = built dp first w t k layer in
    let b = built-within dp laws first w t k layer some (omega arith) h in
    let c = compiles-within dp laws first w t (k + 1) m two.next some (omega arith) b.next in
    record {
      head = two.above;
      rest = c.head ∷ c.rest;
      is = ap (λ ls. two.above ∷ ls) c.is;
      all = (b.above, (c.into k two.above b.arcs, c.all));
      into = λ j above l. into-built dp first w t k layer j above l;
    }

pub compiled-within : (dp : Dp) → IsLawful dp → (p : List ℕ) (w : ℕ) (t : Option ℤ) → IsPrefix dp p → length p ≤ dp.vars → 1 ≤ w
    → AreLayersWithin dp w (length p) (compiled dp (length p) w t (length p) (dp.vars - length p) (start_layer (reached dp p)))
compiled-within dp laws p w t prefix short some =
    let c = compiles-within dp laws (length p) w t (length p) (dp.vars - length p) (start_layer (reached dp p)) some (omega arith) (start-within dp laws p w prefix short some) in
    subst (AreLayersWithin dp w (length p)) (sym c.is) c.all

pub compiled-length : (dp : Dp) (first w : ℕ) (t : Option ℤ) (k m : ℕ) (layer : List DdNode) → length (compiled dp first w t k m layer) ≡ m + 1
compiled-length dp first w t k zero layer = refl
compiled-length dp first w t k (suc m) layer = let ih = compiled-length dp first w t (k + 1) m (built dp first w t k layer).next in omega arith

-- Suffixes.

ended-within : (dp : Dp) (k : ℕ) (next : List DdNode) (x : DdNode) (o : Option ℤ) → IsSuffixWithin dp k x o → IsSuffixWithin dp k (ended dp k next x) o
ended-within dp k next x None h = tt
ended-within dp k next x (Some s) h = h

each-ended : (dp : Dp) (k : ℕ) (next layer : List DdNode) → Each (λ (node : DdNode). IsSuffixWithin dp k node (suffix_from dp k next node.arcs)) layer → Each (λ (node : DdNode). IsSuffixWithin dp k node node.suffix) (map (ended dp k next) layer)
each-ended dp k next [] h = tt
each-ended dp k next (x ∷ layer) h = (ended-within dp k next x (suffix_from dp k next x.arcs) h.0, each-ended dp k next layer h.1)

pub suffixes-within : (dp : Dp) (w k : ℕ) (ls : List (List DdNode)) → AreLayersWithin dp w k ls → k + length ls ≡ dp.vars + 1 → Each (λ (node : DdNode). IsSuffixWithin dp k node node.suffix) (first_of_layers (with_suffixes dp k ls))
suffixes-within dp w k [] h e = tt
suffixes-within dp w k (layer ∷ []) h e =
    let last : dp.vars ≡ k = omega arith in
    each-ended dp k [] layer (subst (λ k. Each (λ (node : DdNode). IsSuffixWithin dp k node (suffix_from dp k [] node.arcs)) layer) last ((suffixes-small dp).last w layer (subst (λ k. IsLayerWithin dp k w layer) (sym last) h)))
suffixes-within dp w k (layer ∷ next ∷ rest) h e =
    let below = suffixes-within dp w (k + 1) (next ∷ rest) h.1.1 (omega arith) in
    let f = ended dp (k + 1) (first_of_layers (with_suffixes dp (k + 1 + 1) rest)) in
    each-ended dp k (map f next) layer ((suffixes-small dp).above k layer (map f next) (omega arith) (into-same f (λ x. refl) k layer next h.1.0) below)

-- Sums fit.

abbrev pub suffixes_of : List DdNode → List (Option ℤ)
suffixes_of next = map (λ (node : DdNode). node.suffix) next

follows : (dp : Dp) (k : ℕ) (x : DdNode) (o : Option ℤ) → dp.vars ≤ 1024 → k ≤ dp.vars → IsBetween (k + 1) (2 * k + 1) x.value → IsSuffixWithin dp k x o → MayFollow o
follows dp k x None small low value h = tt
follows dp k x (Some s) small low value h = let a = value.low in let b = h.0 in let c = h.1 in record { low = omega (arith, ints); high = omega (arith, ints) }

there-within : (dp : Dp) (k : ℕ) (next : List DdNode) (i : ℕ) (reach : ℤ) → dp.vars ≤ 1024 → k ≤ dp.vars → Each (λ (node : DdNode). IsBetween (k + 1) (2 * k + 1) node.value) next → Each (λ (node : DdNode). IsSuffixWithin dp k node node.suffix) next
    → ReachesWithin reach (slice_get next i) → IsThere (slice_get (suffixes_of next) i)
there-within dp k [] i reach small low values suffixes h = h
there-within dp k (x ∷ next) zero reach small low values suffixes h = follows dp k x x.suffix small low values.0 suffixes.0
there-within dp k (x ∷ next) (suc i) reach small low values suffixes h = there-within dp k next i reach small low values.1 suffixes.1 h

lead-within : (dp : Dp) (k : ℕ) (next : List DdNode) (o : Option ℕ) (reach : ℤ) → dp.vars ≤ 1024 → k ≤ dp.vars → Each (λ (node : DdNode). IsBetween (k + 1) (2 * k + 1) node.value) next → Each (λ (node : DdNode). IsSuffixWithin dp k node node.suffix) next
    → LeadsWithin reach next o → MayLead (suffixes_of next) o
lead-within dp k next None reach small low values suffixes h = tt
lead-within dp k next (Some i) reach small low values suffixes h = there-within dp k next i reach small low values suffixes h

may-add : (k : ℕ) (next : List DdNode) (x : DdNode) (arc : DdArc) → k < 1024 → IsArcWithin k next x arc → MayAdd arc
may-add k next x arc small h = let a = h.longer.low in let b = h.longer.high in record { gain = h.gain; longer = record { low = omega (arith, ints); high = omega (arith, ints) } }

values-same : (f : DdNode → DdNode) → KeepsValue f → (k : ℕ) (next : List DdNode) → Each (λ (node : DdNode). IsBetween (k + 1) (2 * k + 1) node.value) next → Each (λ (node : DdNode). IsBetween (k + 1) (2 * k + 1) node.value) (map f next)
values-same f keeps k [] h = tt
values-same f keeps k (x ∷ next) h = (subst (IsBetween (k + 1) (2 * k + 1)) (sym (keeps x)) h.0, values-same f keeps k next h.1)

-- what the suffixes of a layer need, where the next one has its own
pub record MaySum (layer next : List DdNode) : Type 0 where
  pub arcs : Each (λ (node : DdNode). Each MayAdd node.arcs) layer
  pub leads : Each (λ (node : DdNode). Each (λ (arc : DdArc). MayLead (suffixes_of next) arc.target) node.arcs) layer

first-within : (dp : Dp) (w k : ℕ) (next : List DdNode) (rest : List (List DdNode)) → AreLayersWithin dp w k (next ∷ rest) → IsLayerWithin dp k w next
first-within dp w k next [] h = h
first-within dp w k next (n ∷ rest) h = h.0

pub may-sum : (dp : Dp) (w k : ℕ) (layer next : List DdNode) (rest : List (List DdNode)) → dp.vars ≤ 1024 → AreLayersWithin dp w k (layer ∷ next ∷ rest) → k + 2 + length rest ≡ dp.vars + 1
    → MaySum layer (first_of_layers (with_suffixes dp (k + 1) (next ∷ rest)))
may-sum dp w k layer next rest small h e =
    let f = ended dp (k + 1) (first_of_layers (with_suffixes dp (k + 1 + 1) rest)) in
    let below = suffixes-within dp w (k + 1) (next ∷ rest) h.1.1 (omega arith) in
    let values = values-same f (λ x. refl) (k + 1) next (first-within dp w (k + 1) next rest h.1.1).values in
    let into = into-same f (λ x. refl) k layer next h.1.0 in
    record {
      arcs = each-of-all (λ (node : DdNode). Each MayAdd node.arcs) layer (λ x has.
          let own = each-has (λ (node : DdNode). Each (IsArcWithin k (map f next) node) node.arcs) layer x into has in
          each-of-all MayAdd x.arcs (λ arc listed. may-add k (map f next) x arc (omega arith) (each-has (IsArcWithin k (map f next) x) x.arcs arc own listed)));
      leads = each-of-all (λ (node : DdNode). Each (λ (arc : DdArc). MayLead (suffixes_of (map f next)) arc.target) node.arcs) layer (λ x has.
          let own = each-has (λ (node : DdNode). Each (IsArcWithin k (map f next) node) node.arcs) layer x into has in
          each-of-all (λ (arc : DdArc). MayLead (suffixes_of (map f next)) arc.target) x.arcs (λ arc listed.
          let a = each-has (IsArcWithin k (map f next) x) x.arcs arc own listed in
          lead-within dp (k + 1) (map f next) arc.target (x.value +ℤ (arc.gain +ℤ arc.longer)) small (omega arith) values below a.leads));
    }
