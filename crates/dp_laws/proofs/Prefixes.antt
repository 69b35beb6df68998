-- The members of the layers are prefixes with their own rows and values.
use Rattle.std.proofs.Common.{◌≡◌, ℕ, zero, suc, ◌+◌, ◌<◌, ℤ, ◌+ℤ◌, List, [], ◌∷◌, ◌++◌, length, filter, Option, IsTrue, refl, sym, ◌∙◌, ap, subst, length-append, append_assoc, append-nil, add-zero, arith}
use Rattle.dp_model.specs.Dp.{Dp, IsAllowed}
use Rattle.dp_model.specs.Decisions.{below, begins}
use Rattle.dp_model.specs.Lists.{Each}
use Rattle.dp_model.specs.Prefixes.{IsPrefix, state_of, value_of}
use Rattle.dp_model.specs.Reached.{Reached, reached}
use Rattle.dp_model.proofs.Members.{Has-below-from, Has-filter-from, Has-map-from, each-of-all, Each-append}
use Rattle.dp_model.proofs.Paths.{IsPrefix-then, state_of-then, value_of-then}
use Rattle.dp_model.proofs.RowLemmas.{begins-is, begins-append}
use Rattle.dp_laws.specs.Restricted.Extensions.{extended, extensions, candidates, all_joined}
use Rattle.dp_laws.specs.Restricted.Beam.{expanded, whole_layer, layer_below}
use Rattle.dp_laws.specs.Restricted.Members.{IsMember, LayersHavePrefixes}
use Rattle.dp_laws.proofs.Restricted.Keeping.{each-all_joined, each-in_order, each-pruned, each-cut}

begins-then : (p q : List ℕ) (d : ℕ) → IsTrue (begins p q) → IsTrue (begins p (q ++ d ∷ []))
begins-then p q d h =
    let split = begins-is p q h in
    let longer : q ++ d ∷ [] ≡ p ++ (split.0 ++ d ∷ []) = ap (λ l. l ++ d ∷ []) split.1 ∙ simp append_assoc in
    subst (λ l. IsTrue (begins p l)) (sym longer) (begins-append p (split.0 ++ d ∷ []))

-- a member with an allowed decision is a member of the next depth
pub extended-member : (dp : Dp) (p : List ℕ) (k : ℕ) (r : Reached) (d : ℕ) → IsMember dp p k r → IsAllowed dp k r.row d → IsMember dp p (k + 1) (extended dp k r d)
extended-member dp p k r d h allowed =
    let here : IsAllowed dp (length r.decisions) (state_of dp r.decisions) d = subst (λ n. IsAllowed dp n (state_of dp r.decisions) d) (sym h.deep) (subst (λ s. IsAllowed dp k s d) h.row allowed) in
    let long = length-append r.decisions (d ∷ []) in let deep = h.deep in
    record {
      prefix = IsPrefix-then dp r.decisions d h.prefix here;
      begins = begins-then p r.decisions d h.begins;
      deep = omega arith;
      row = ap (λ s. dp.step k s d) h.row ∙ (ap (λ n. dp.step n (state_of dp r.decisions) d) (sym h.deep) ∙ sym (state_of-then dp r.decisions d));
      value = ap (λ v. v +ℤ dp.gain k r.row d) h.value ∙ (ap (λ s. value_of dp r.decisions +ℤ dp.gain k s d) h.row ∙ (ap (λ n. value_of dp r.decisions +ℤ dp.gain n (state_of dp r.decisions) d) (sym h.deep) ∙ sym (value_of-then dp r.decisions d)));
    }

pub extensions-members : (dp : Dp) (p : List ℕ) (k : ℕ) (r : Reached) → k < dp.vars → IsMember dp p k r → Each (IsMember dp p (k + 1)) (extensions dp k r)
extensions-members dp p k r short h =
    each-of-all (IsMember dp p (k + 1)) (extensions dp k r) (λ new has.
    let from = Has-map-from (extended dp k r) (filter (dp.allowed k r.row) (below (dp.choices k))) new has in
    let choice = Has-filter-from (dp.allowed k r.row) (below (dp.choices k)) from.0 from.1 in
    let allowed : IsAllowed dp k r.row from.0 = record { layer = short; choice = Has-below-from (dp.choices k) from.0 choice.0; test = choice.1 } in
    subst (IsMember dp p (k + 1)) from.2 (extended-member dp p k r from.0 h allowed))

pub candidates-members : (dp : Dp) (p : List ℕ) (k : ℕ) (layer : List Reached) → k < dp.vars → Each (IsMember dp p k) layer → Each (IsMember dp p (k + 1)) (candidates dp k layer)
candidates-members dp p k [] short h = tt
candidates-members dp p k (r ∷ layer) short h =
    Each-append (IsMember dp p (k + 1)) (extensions dp k r) (candidates dp k layer) (extensions-members dp p k r short h.0) (candidates-members dp p k layer short h.1)

pub expanded-members : (dp : Dp) (p : List ℕ) (k : ℕ) (layer : List Reached) → k < dp.vars → Each (IsMember dp p k) layer → Each (IsMember dp p (k + 1)) (expanded dp k layer)
expanded-members dp p k layer short h =
    each-in_order (IsMember dp p (k + 1)) dp (k + 1) (all_joined [] (candidates dp k layer)) (each-all_joined (IsMember dp p (k + 1)) [] (candidates dp k layer) tt (candidates-members dp p k layer short h))

pub whole_layer-members : (dp : Dp) (p : List ℕ) (k : ℕ) (t : Option ℤ) (layer : List Reached) → k < dp.vars → Each (IsMember dp p k) layer → Each (IsMember dp p (k + 1)) (whole_layer dp k t layer)
whole_layer-members dp p k t layer short h = each-pruned (IsMember dp p (k + 1)) dp (k + 1) t (expanded dp k layer) (expanded-members dp p k layer short h)

pub reached-member : (dp : Dp) (p : List ℕ) → IsPrefix dp p → IsMember dp p (length p) (reached dp p)
reached-member dp p h = record {
  prefix = h;
  begins = subst (λ l. IsTrue (begins p l)) (append-nil p) (begins-append p []);
  deep = refl;
  row = refl;
  value = refl;
}

pub layers-prefixes : (dp : Dp) → LayersHavePrefixes dp
layers-prefixes dp p w t zero h short = (subst (λ n. IsMember dp p n (reached dp p)) (sym (add-zero (length p))) (reached-member dp p h), tt)
layers-prefixes dp p w t (suc m) h short =
    let above = layers-prefixes dp p w t m h (omega arith) in
    let next : length p + m + 1 ≡ length p + suc m = omega arith in
    subst (λ n. Each (IsMember dp p n) (layer_below dp (reached dp p) w t (suc m))) next
    (each-cut (IsMember dp p (length p + m + 1)) dp w (length p) (length p + m + 1) (whole_layer dp (length p + m) t (layer_below dp (reached dp p) w t m))
    (whole_layer-members dp p (length p + m) t (layer_below dp (reached dp p) w t m) (omega arith) above))
