-- What is stored, after one more, after one less and with more slots.
use Rattle.std.proofs.Common.{◌≡◌, ◌≢◌, ℕ, ◌+◌, ◌<◌, ◌≤◌, ℤ, List, ◌∷◌, ◌++◌, length, map, set, slice_get, replicate, true, false, Option, Some, None, inl, inr, refl, sym, ◌∙◌, ap, ap₂, subst, arith, Contains, IsPermutation}
use Rattle.std.proofs.lemmas.Bool.{cases_eq}
use Rattle.std.proofs.lemmas.List.{length-set}
use Rattle.std.proofs.lemmas.List.Sorted.{Contains-permutation}
use Rattle.row_region.specs.Region.{RegionView, HasTaken}
use Rattle.fringe.specs.Tickets.{Ticketed}
use Rattle.fringe.specs.Fringe.{is_same}
use Rattle.fringe.proofs.Rows.{different-turned}
use Rattle.fringe.specs.declared.rank.Rank.{Rank}
use Rattle.fringe.specs.Index.{IndexView, HasEntered}
use Rattle.fringe.specs.Ranks.{RanksView}
use Rattle.fringe.specs.Slots.{IsOpen, IsSlotSet, AreIndexed, IsIndexed, in_slot, rank_of, is_same_in, key_of, own_fold}
use Rattle.fringe.specs.Stored.{IsFringeStore}
use Rattle.fringe.proofs.Entries.{entered_more, entered_here}
use Rattle.fringe.proofs.Filters.{Contains-cons}
use Rattle.fringe.proofs.Keys.{key_free, set_of}
use Rattle.fringe.proofs.Openeds.{was, filled, apart_filled}

open_filled : (words : ℕ) (old new : List (Option Ticketed)) (s : ℕ) (o : Ticketed) → IsSlotSet old new s (Some o) → IsOpen words old
    → ((t : ℕ) (p : Ticketed) → in_slot old t ≡ Some p → p.ticket ≢ o.ticket)
    → ((t : ℕ) → is_same_in (length o.subproblem.decisions) o.subproblem.row (in_slot old t) ≡ false)
    → length o.subproblem.row ≡ words → IsOpen words new
open_filled words old new s o set held fresh alone cells = record {
  apart = apart_filled old new s o set held.apart fresh;
  different = λ t u a b at bt same.
      let other : (v : ℕ) (q : Ticketed) → in_slot old v ≡ Some q → is_same (length o.subproblem.decisions) o.subproblem.row q ≡ false =
      λ v q k. subst (λ x. is_same_in (length o.subproblem.decisions) o.subproblem.row x ≡ false) k (alone v) in
      elim (cases_eq t s) as (λ _. t ≡ u) [
        | inl ts ↦ elim (cases_eq u s) as (λ _. t ≡ u) [
          | inl us ↦ ts ∙ sym us
          | inr un ↦ absurd (
              let k = other u b (was old new s (Some o) u b set un bt) in
              let e : is_same (length o.subproblem.decisions) o.subproblem.row b ≡ true = subst (λ (q : Ticketed). is_same (length q.subproblem.decisions) q.subproblem.row b ≡ true) (filled old new s o t a set ts at) same in cc)
        ]
        | inr tn ↦ elim (cases_eq u s) as (λ _. t ≡ u) [
          | inl us ↦ absurd (
              let k = different-turned o a (other t a (was old new s (Some o) t a set tn at)) in
              let e : is_same (length a.subproblem.decisions) a.subproblem.row o ≡ true = subst (λ (q : Ticketed). is_same (length a.subproblem.decisions) a.subproblem.row q ≡ true) (filled old new s o u b set us bt) same in cc)
          | inr un ↦ held.different t u a b (was old new s (Some o) t a set tn at) (was old new s (Some o) u b set un bt) same
        ]
      ];
  cells = λ t a at. elim (cases_eq t s) as (λ _. length a.subproblem.row ≡ words) [
    | inl ts ↦ ap (λ (q : Ticketed). length q.subproblem.row) (filled old new s o t a set ts at) ∙ cells
    | inr tn ↦ held.cells t a (was old new s (Some o) t a set tn at)
  ];
}

-- a slot was filled
pub stored_more : (words spare spare' : ℕ) (slots : List (Option Ticketed)) (keys taken keys' : RegionView) (ranks ranks' : RanksView) (index ready index' : IndexView) (s fold : ℕ) (o : Ticketed)
    → IsFringeStore words spare slots keys ranks index → spare' + 1 ≡ spare
    → HasTaken keys s taken → keys'.rows ≡ map key_of (set slots s (Some o)) → keys'.words ≡ taken.words → keys'.spare ≡ taken.spare
    → AreIndexed slots ready.nodes → index.room ≤ ready.room
    → HasEntered ready.nodes index'.nodes fold s → fold ≡ own_fold o → ready.room ≤ index'.room
    → IsPermutation (rank_of s o ∷ ranks.ranks) ranks'.ranks → ranks'.len ≡ ranks.len + 1 → ranks.room ≤ ranks'.room
    → ((t : ℕ) (p : Ticketed) → in_slot slots t ≡ Some p → p.ticket ≢ o.ticket)
    → ((t : ℕ) → is_same_in (length o.subproblem.decisions) o.subproblem.row (in_slot slots t) ≡ false)
    → length o.subproblem.row ≡ words → IsFringeStore words spare' (set slots s (Some o)) keys' ranks' index'
stored_more words spare spare' slots keys taken keys' ranks ranks' index ready index' s fold o h less has keyed width left entered room more fold-is room' moved rlen rroom fresh alone cells =
    let free = key_free slots s (ap (λ (rows : List (Option (List ℤ))). slice_get rows s) (sym h.keyed) ∙ has.was_free) in
    let slots' = set slots s (Some o) in
    let set = set_of slots s (Some o) free.0 in
    let b = h.ranks_room in let k = h.keys_room in let t = has.spare in record {
      held = open_filled words slots slots' s o set h.held fresh alone cells;
      keyed = keyed;
      width = width ∙ has.words ∙ h.width;
      ranked = λ t p at. elim (cases_eq t s) as (λ _. Contains ranks'.ranks (rank_of t p)) [
        | inl ts ↦ subst (λ (r : Rank). Contains ranks'.ranks r) (ap₂ rank_of (sym ts) (sym (filled slots slots' s o t p set ts at)))
            (Contains-permutation (rank_of s o ∷ ranks.ranks) ranks'.ranks (rank_of s o) moved (0, omega arith, refl))
        | inr tn ↦ Contains-permutation (rank_of s o ∷ ranks.ranks) ranks'.ranks (rank_of t p) moved (Contains-cons (rank_of s o) (rank_of t p) ranks.ranks (h.ranked t p (was slots slots' s (Some o) t p set tn at)))
      ];
      entered = λ t p at. elim (cases_eq t s) as (λ _. IsIndexed index'.nodes t (own_fold p)) [
        | inl ts ↦ subst (λ (q : Ticketed). IsIndexed index'.nodes t (own_fold q)) (sym (filled slots slots' s o t p set ts at))
            (subst (λ n. IsIndexed index'.nodes n (own_fold o)) (sym ts)
            (subst (λ n. IsIndexed index'.nodes s n) fold-is (entered_here ready.nodes index'.nodes fold s more)))
        | inr tn ↦ entered_more ready.nodes index'.nodes fold s t _ more (entered t p (was slots slots' s (Some o) t p set tn at))
      ];
      keys_room = omega arith;
      ranks_room = omega arith;
      index_room = λ some. (let l = length-set slots s (Some o) in let m = h.index_room (omega (arith, free.0)) in omega arith);
    }

-- with more slots
pub stored_longer : (words spare count : ℕ) (slots slots' : List (Option Ticketed)) (keys keys' : RegionView) (ranks : RanksView) (index index' : IndexView) → IsFringeStore words spare slots keys ranks index
    → ((s : ℕ) → in_slot slots' s ≡ in_slot slots s) → map key_of slots' ≡ map key_of slots ++ replicate count None → length slots' ≡ length slots + count
    → keys'.rows ≡ keys.rows ++ replicate count None → keys'.words ≡ keys.words → keys'.spare ≡ keys.spare + count
    → AreIndexed slots index'.nodes → length slots + count < index'.room → IsFringeStore words spare slots' keys' ranks index'
stored_longer words spare count slots slots' keys keys' ranks index index' h same keyed len rows width more entered room =
    let k = h.keys_room in record {
      held = record {
        apart = λ s t o p a b e. h.held.apart s t o p (sym (same s) ∙ a) (sym (same t) ∙ b) e;
        different = λ s t o p a b e. h.held.different s t o p (sym (same s) ∙ a) (sym (same t) ∙ b) e;
        cells = λ s o a. h.held.cells s o (sym (same s) ∙ a);
      };
      keyed = rows ∙ ap (λ (l : List (Option (List ℤ))). l ++ replicate count None) h.keyed ∙ sym keyed;
      width = width ∙ h.width;
      ranked = λ s o a. h.ranked s o (sym (same s) ∙ a);
      entered = λ s o a. entered s o (sym (same s) ∙ a);
      keys_room = omega arith;
      ranks_room = h.ranks_room;
      index_room = λ some. omega arith;
    }
