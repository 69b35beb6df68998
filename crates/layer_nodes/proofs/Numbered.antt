-- Ways that are numbered by their keys.
use Rattle.std.proofs.Common.{◌≡◌, ◌≢◌, ℕ, ◌+◌, ◌<◌, List, length, set, Some, ◌⊎◌, inl, inr, sym, ap, ◌∙◌, arith}
use Rattle.std.proofs.lemmas.List.{get_or-set_same, get_or-set_other}
use Rattle.layer_candidates.specs.declared.key.Key.{Key}
use Rattle.layer_nodes.specs.declared.routing.Route.{Route}
use Rattle.layer_nodes.specs.Expanding.{key_in, number_at, IsNumbered}
use Rattle.layer_nodes.specs.Routing.{nowhere}

same-or : (a b : ℕ) → (a ≡ b) ⊎ (a ≢ b)
same-or a b = grind arith

-- the number of another way stays
pub number-other : (routes : List Route) (way p : ℕ) (route : Route) → p ≢ way → number_at (set routes way route) p ≡ number_at routes p
number-other routes way p route n = ap (λ (r : Route). r.target) (get_or-set_other routes way p route nowhere n)

-- one key more
pub numbered-more : (keys : List Key) (routes : List Route) (i : ℕ) (route : Route) → route.target ≡ Some i → (key_in keys i).place < length routes → ((j : ℕ) → j < i → IsNumbered i keys routes (key_in keys j).place)
    → (j : ℕ) → j < i + 1 → IsNumbered (i + 1) keys (set routes (key_in keys i).place route) (key_in keys j).place
numbered-more keys routes i route leads room done j less = go (same-or (key_in keys j).place (key_in keys i).place)
  where
    go : ((key_in keys j).place ≡ (key_in keys i).place) ⊎ ((key_in keys j).place ≢ (key_in keys i).place) → IsNumbered (i + 1) keys (set routes (key_in keys i).place route) (key_in keys j).place
    go (inl e) = record {
      number = i;
      is = ap (number_at (set routes (key_in keys i).place route)) e ∙ (ap (λ (r : Route). r.target) (get_or-set_same routes (key_in keys i).place route nowhere room) ∙ leads);
      within = omega arith;
      same = sym e;
    }
    go (inr n) =
        let low : j < i = last (same-or j i) in
        let was = done j low in
        let old = was.within in
        record {
          number = was.number;
          is = number-other routes (key_in keys i).place (key_in keys j).place route n ∙ was.is;
          within = omega arith;
          same = was.same;
        }
      where
        last : (j ≡ i) ⊎ (j ≢ i) → j < i
        last (inl e) = absurd (n (ap (λ m. (key_in keys m).place) e))
        last (inr m) = grind arith
