-- Subproblems at places.
use Rattle.std.proofs.Common.{◌≡◌, ◌≢◌, ℕ, zero, suc, ◌+◌, ◌<◌, ◌≤◌, nat_eq, false, cond, not, List, [], ◌∷◌, ◌++◌, length, set, get_or, Option, Some, None, Ok, Err, refl, sym, ◌∙◌, ap, ap₂, subst, arith}
use Rattle.std.proofs.lemmas.Bool.{eq-eqb}
use Rattle.std.proofs.lemmas.Bool.Decides.{nat_tests}
use Rattle.std.proofs.lemmas.Cmp.{ranked}
use Rattle.std.proofs.lemmas.List.Sorted.{IsNonDecreasingBy-from_default}
use Rattle.std.specs.List.Sorted.{IsSearchInRange, IsBinarySearchResult, IsNonDecreasingBy}
use Rattle.std.specs.Ordering.{nat_cmp, ordering_index}
use Rattle.std.specs.Prelude.{option_map}
use Rattle.dp_model.specs.Lists.{Each}
use Rattle.dp_model.specs.Solution.{Solution}
use Rattle.dp_model.specs.Subproblem.{SubView}
use Rattle.dp_model.proofs.Members.{Each-then, Each-append}
use Rattle.dp_laws.specs.Pairs.{EachTwo}
use Rattle.dp_laws.proofs.Restricted.Permutations.{each-at, two-append}
use Rattle.fringe.specs.Tickets.{Ticketed, without}
use Rattle.journal_replay.specs.declared.state.Place.{Place}
use Rattle.journal_replay.specs.Places.{AreInOrder, IsPlaceOf, PlaceIs, listed_beside, listed_in, no_place}
use Rattle.journal_replay.specs.Replay.{Replayed, listed_at, taken_off}

abbrev pub under : ℕ → SubView → Ticketed
under ticket held = record { ticket = ticket; subproblem = held.subproblem }

-- of places none of which has the ticket

beside-none : (t ticket : ℕ) (sub : Option SubView) (os : List Ticketed) → ticket ≢ t → listed_at t (listed_beside ticket sub os) ≡ listed_at t os
beside-none t ticket None os other = refl
beside-none t ticket (Some held) os other = (let no : nat_eq ticket t ≡ false = grind (arith, nat_tests) in ap (λ b. cond b (Some (under ticket held)) (listed_at t os)) no)

beside-stays : (t ticket : ℕ) (sub : Option SubView) (os : List Ticketed) → ticket ≢ t → without t (listed_beside ticket sub os) ≡ listed_beside ticket sub (without t os)
beside-stays t ticket None os other = refl
beside-stays t ticket (Some held) os other = (let no : nat_eq ticket t ≡ false = grind (arith, nat_tests) in ap (λ b. cond (not b) (under ticket held ∷ without t os) (without t os)) no)

pub none-at : (t : ℕ) (ps : List Place) → Each (λ p. p.ticket ≢ t) ps → listed_at t (listed_in ps) ≡ None
none-at t [] h = refl
none-at t (p ∷ ps) h = beside-none t p.ticket p.sub (listed_in ps) h.0 ∙ none-at t ps h.1

pub none-out : (t : ℕ) (ps : List Place) → Each (λ p. p.ticket ≢ t) ps → without t (listed_in ps) ≡ listed_in ps
none-out t [] h = refl
none-out t (p ∷ ps) h = beside-stays t p.ticket p.sub (listed_in ps) h.0 ∙ ap (listed_beside p.ticket p.sub) (none-out t ps h.1)

-- of places that rise

each-get : (P : Place → Type 0) (ps : List Place) (i : ℕ) → i < length ps → Each P ps → P (get_or ps i no_place)
each-get P [] i less h = absurd (omega arith)
each-get P (p ∷ ps) zero less h = h.0
each-get P (p ∷ ps) (suc i) less h = each-get P ps i (omega arith) h.1

later-differ : (t : ℕ) (p : Place) (ps : List Place) → p.ticket ≡ t → Each (λ q. p.ticket < q.ticket) ps → Each (λ q. q.ticket ≢ t) ps
later-differ t p ps is h = Each-then (λ (q : Place). p.ticket < q.ticket) (λ q. q.ticket ≢ t) ps (λ q less. let differ : q.ticket ≢ t = omega arith in differ) h

beside-at : (t ticket : ℕ) (sub : Option SubView) (os : List Ticketed) → ticket ≡ t → listed_at t os ≡ None → listed_at t (listed_beside ticket sub os) ≡ option_map (under t) sub
beside-at t ticket None os is none = none
beside-at t ticket (Some held) os is none = ap (λ b. cond b (Some (under ticket held)) (listed_at t os)) (eq-eqb ticket t is) ∙ ap (λ m. Some (under m held)) is

beside-out : (t ticket : ℕ) (sub : Option SubView) (os : List Ticketed) → ticket ≡ t → without t os ≡ os → without t (listed_beside ticket sub os) ≡ os
beside-out t ticket None os is stays = stays
beside-out t ticket (Some held) os is stays = ap (λ b. cond (not b) (under ticket held ∷ without t os) (without t os)) (eq-eqb ticket t is) ∙ stays

-- what stands at a place
pub at-place : (t i : ℕ) (ps : List Place) → EachTwo (λ a b. a.ticket < b.ticket) ps → i < length ps → (get_or ps i no_place).ticket ≡ t → listed_at t (listed_in ps) ≡ option_map (under t) (get_or ps i no_place).sub
at-place t i [] rise less is = absurd (omega arith)
at-place t zero (p ∷ ps) rise less is = beside-at t p.ticket p.sub (listed_in ps) is (none-at t ps (later-differ t p ps is rise.0))
at-place t (suc i) (p ∷ ps) rise less is =
    let before = each-get (λ q. p.ticket < q.ticket) ps i (omega arith) rise.0 in
    let other : p.ticket ≢ t = omega arith in
    beside-none t p.ticket p.sub (listed_in ps) other ∙ at-place t i ps rise.1 (omega arith) is

-- without what stands at a place
pub place-out : (t i : ℕ) (ps : List Place) → EachTwo (λ a b. a.ticket < b.ticket) ps → i < length ps → (get_or ps i no_place).ticket ≡ t
    → without t (listed_in ps) ≡ listed_in (set ps i (record { ticket = t; sub = None }))
place-out t i [] rise less is = absurd (omega arith)
place-out t zero (p ∷ ps) rise less is = beside-out t p.ticket p.sub (listed_in ps) is (none-out t ps (later-differ t p ps is rise.0))
place-out t (suc i) (p ∷ ps) rise less is =
    let before = each-get (λ q. p.ticket < q.ticket) ps i (omega arith) rise.0 in
    let other : p.ticket ≢ t = omega arith in
    beside-stays t p.ticket p.sub (listed_in ps) other ∙ ap (listed_beside p.ticket p.sub) (place-out t i ps rise.1 (omega arith) is)

-- a place keeps its ticket

each-set : (P : Place → Type 0) (ps : List Place) (i : ℕ) (p : Place) → P p → Each P ps → Each P (set ps i p)
each-set P [] i p one h = tt
each-set P (q ∷ ps) zero p one h = (one, h.1)
each-set P (q ∷ ps) (suc i) p one h = (h.0, each-set P ps i p one h.1)

rise-set : (t i : ℕ) (ps : List Place) (sub : Option SubView) → i < length ps → (get_or ps i no_place).ticket ≡ t → EachTwo (λ a b. a.ticket < b.ticket) ps
    → EachTwo (λ a b. a.ticket < b.ticket) (set ps i (record { ticket = t; sub = sub }))
rise-set t i [] sub less is rise = tt
rise-set t zero (p ∷ ps) sub less is rise = (Each-then (λ (q : Place). p.ticket < q.ticket) (λ q. t < q.ticket) ps (λ q k. omega arith) rise.0, rise.1)
rise-set t (suc i) (p ∷ ps) sub less is rise =
    let before = each-get (λ q. p.ticket < q.ticket) ps i (omega arith) rise.0 in
    (each-set (λ q. p.ticket < q.ticket) ps i (record { ticket = t; sub = sub }) (omega arith) rise.0, rise-set t i ps sub (omega arith) is rise.1)

pub order-set : (next t i : ℕ) (ps : List Place) (sub : Option SubView) → i < length ps → (get_or ps i no_place).ticket ≡ t → AreInOrder next ps → AreInOrder next (set ps i (record { ticket = t; sub = sub }))
order-set next t i ps sub less is h =
    let given = each-get (λ q. q.ticket < next) ps i less h.given in
    record { rise = rise-set t i ps sub less is h.rise; given = each-set (λ q. q.ticket < next) ps i (record { ticket = t; sub = sub }) (omega arith) h.given }

-- a place more

beside-append : (ticket : ℕ) (sub : Option SubView) (os more : List Ticketed) → listed_beside ticket sub (os ++ more) ≡ listed_beside ticket sub os ++ more
beside-append ticket None os more = refl
beside-append ticket (Some held) os more = refl

pub place-more : (ps : List Place) (p : Place) → listed_in (ps ++ p ∷ []) ≡ listed_in ps ++ listed_in (p ∷ [])
place-more [] p = refl
place-more (q ∷ ps) p = ap (listed_beside q.ticket q.sub) (place-more ps p) ∙ beside-append q.ticket q.sub (listed_in ps) (listed_in (p ∷ []))

pub order-more : (least next : ℕ) (ps : List Place) (p : Place) → AreInOrder least ps → least ≤ p.ticket → p.ticket < next → AreInOrder next (ps ++ p ∷ [])
order-more least next ps p h above given = record {
  rise = two-append (λ a b. a.ticket < b.ticket) ps (p ∷ []) h.rise (tt, tt)
      (Each-then (λ (q : Place). q.ticket < least) (λ q. Each (λ b. q.ticket < b.ticket) (p ∷ [])) ps (λ q k. (omega arith, tt)) h.given);
  given = Each-append (λ q. q.ticket < next) ps (p ∷ []) (Each-then (λ (q : Place). q.ticket < least) (λ q. q.ticket < next) ps (λ q k. omega arith) h.given) (given, tt);
}

pub order-least : (least next : ℕ) (ps : List Place) → least ≤ next → AreInOrder least ps → AreInOrder next ps
order-least least next ps le h = record { rise = h.rise; given = Each-then (λ (q : Place). q.ticket < least) (λ q. q.ticket < next) ps (λ q k. omega arith) h.given }

-- a binary search

two-get : (ps : List Place) → EachTwo (λ a b. a.ticket < b.ticket) ps → (i j : ℕ) → i < j → j < length ps → (get_or ps i no_place).ticket < (get_or ps j no_place).ticket
two-get [] rise i j less within = absurd (omega arith)
two-get (p ∷ ps) rise i zero less within = absurd (omega arith)
two-get (p ∷ ps) rise zero (suc j) less within = each-get (λ q. p.ticket < q.ticket) ps j (omega arith) rise.0
two-get (p ∷ ps) rise (suc i) (suc j) less within = two-get ps rise.1 i j (omega arith) (omega arith)

module _ (t : ℕ) (ps : List Place) (rise : EachTwo (λ a b. a.ticket < b.ticket) ps) where
  comparisons-rise : IsNonDecreasingBy (λ p. ordering_index (nat_cmp p.ticket t)) ps
  comparisons-rise = IsNonDecreasingBy-from_default (λ p. ordering_index (nat_cmp p.ticket t)) ps no_place (λ i j le within.
      let keys : (get_or ps i no_place).ticket ≤ (get_or ps j no_place).ticket = grind (arith, two-get ps rise i j, λ (same : i ≡ j). ap (λ k. (get_or ps k no_place).ticket) same) in
      grind (arith, nat_tests))

  pub found-at : (at : ℕ) → IsSearchInRange (Ok at) (length ps) → IsBinarySearchResult (λ p. nat_cmp p.ticket t) ps (Ok at) → IsPlaceOf t ps at
  found-at at within equal = record { there = within; has = ranked _ t _ (sym (equal no_place)) }

  pub found-none : (at : ℕ) → IsSearchInRange (Err at) (length ps) → IsBinarySearchResult (λ p. nat_cmp p.ticket t) ps (Err at) → Each (λ p. p.ticket ≢ t) ps
  found-none at within parted = each-at (λ p. p.ticket ≢ t) ps (λ j d less same.
      let before : j < at → (get_or ps j d).ticket < t = λ lt. ranked _ t _ (sym ((parted comparisons-rise).0 j d (omega arith) lt)) in
      let after : at ≤ j → t < (get_or ps j d).ticket = λ le. ranked _ t _ (sym ((parted comparisons-rise).1 j d le less)) in
      grind (arith, before, after))

-- states

pub at-none : (t : ℕ) (ps : List Place) → PlaceIs t ps None → None ≡ listed_at t (listed_in ps)
at-none t ps h = sym (none-at t ps h)

pub at-some : (t next at : ℕ) (ps : List Place) (p : Place) → AreInOrder next ps → IsPlaceOf t ps at → p ≡ get_or ps at no_place → option_map (under t) p.sub ≡ listed_at t (listed_in ps)
at-some t next at ps p order place is = ap (λ (q : Place). option_map (under t) q.sub) is ∙ sym (at-place t at ps order.rise place.there place.has)

-- without the one at a place
pub off-state : (t next at : ℕ) (best : Option Solution) (ps qs : List Place) → AreInOrder next ps → IsPlaceOf t ps at → qs ≡ set ps at (record { ticket = t; sub = None })
    → ◌≡◌ {A = Replayed} (record { incumbent = best; listed = listed_in qs; next_ticket = next }) (taken_off t (record { incumbent = best; listed = listed_in ps; next_ticket = next }))
off-state t next at best ps qs order place is =
    ap (λ (l : List Ticketed). record { incumbent = best; listed = l; next_ticket = next }) (ap listed_in is ∙ sym (place-out t at ps order.rise place.there place.has))

pub none-state : (t next : ℕ) (best : Option Solution) (ps : List Place) → PlaceIs t ps None
    → ◌≡◌ {A = Replayed} (record { incumbent = best; listed = listed_in ps; next_ticket = next }) (taken_off t (record { incumbent = best; listed = listed_in ps; next_ticket = next }))
none-state t next best ps h = ap (λ (l : List Ticketed). record { incumbent = best; listed = l; next_ticket = next }) (sym (none-out t ps h))

-- a place with its ticket, whatever is listed there
pub order-at : (t next at : ℕ) (ps : List Place) (p : Place) (sub : Option SubView) → AreInOrder next ps → IsPlaceOf t ps at → p ≡ get_or ps at no_place → AreInOrder next (set ps at (record { ticket = p.ticket; sub = sub }))
order-at t next at ps p sub order place is =
    let ticket : t ≡ p.ticket = sym (ap (λ (q : Place). q.ticket) is ∙ place.has) in
    subst (λ k. AreInOrder next (set ps at (record { ticket = k; sub = sub }))) ticket (order-set next t at ps sub place.there place.has order)

pub set-at : (t at : ℕ) (ps : List Place) (p : Place) (sub : Option SubView) → IsPlaceOf t ps at → p ≡ get_or ps at no_place → sub ≡ None
    → set ps at (record { ticket = p.ticket; sub = sub }) ≡ set ps at (record { ticket = t; sub = None })
set-at t at ps p sub place is none = ap₂ (λ k s. set ps at (record { ticket = k; sub = s })) (ap (λ (q : Place). q.ticket) is ∙ place.has) none

-- with one more
pub more-state : (best : Option Solution) (next more : ℕ) (held : SubView) (ps qs : List Place) → qs ≡ ps ++ record { ticket = next; sub = Some held } ∷ [] → more ≡ next + 1
    → ◌≡◌ {A = Replayed} (record { incumbent = best; listed = listed_in qs; next_ticket = more })
    (record { incumbent = best; listed = listed_in ps ++ record { ticket = next; subproblem = held.subproblem } ∷ []; next_ticket = next + 1 })
more-state best next more held ps qs is one_more =
    ap₂ (λ (l : List Ticketed) (n : ℕ). record { incumbent = best; listed = l; next_ticket = n }) (ap listed_in is ∙ place-more ps (record { ticket = next; sub = Some held })) one_more
