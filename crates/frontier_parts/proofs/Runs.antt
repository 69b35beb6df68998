-- What a search from start prefixes has settled at its end, and covers with a greater claim.
use Rattle.std.proofs.Common.{ℕ, ◌+ℤ◌, ℤ, Bool, true, false, ◌&&◌, List, [], ◌∷◌, length, Option, Some, None, IsTrue, ◌⊎◌, inl, inr, refl, sym, subst}
use Rattle.std.proofs.lemmas.Bool.{and_parts}
use Rattle.dp_model.specs.Cover.{Covers}
use Rattle.dp_model.specs.Decisions.{begins}
use Rattle.dp_model.specs.Dp.{Dp}
use Rattle.dp_model.specs.Lists.{OneOf}
use Rattle.dp_model.specs.Numbers.{AtMost, add_some}
use Rattle.dp_model.specs.Prefixes.{IsCompletion, state_of, value_of}
use Rattle.dp_model.proofs.RowLemmas.{begins-append}
use Rattle.dp_model.proofs.Members.{Has, one-of-has}
use Rattle.board_laws.specs.Starts.{CoversFrom}
use Rattle.bound_cover.specs.Covers.{CoverRow}
use Rattle.bound_cover.specs.Tests.{is_at_most, is_state_row}
use Rattle.bound_cover.specs.Verdicts.{covers_root}
use Rattle.bound_cover.proofs.Claims.{at-most-through}
use Rattle.frontier_parts.specs.CoversBelow.{IsCoverBelow}
use Rattle.frontier_parts.specs.Settled.{IsShown, IsSettled}

-- from the empty prefix it is the cover of a whole search
pub from_root : (dp : Dp) (inc : Option ℤ) (P : List (List ℕ)) → CoversFrom dp ([] ∷ []) inc P → Covers dp inc P
from_root dp inc P covers x h = covers x h (inl refl)

pub begun_by : (dp : Dp) (starts : List (List ℕ)) (p x : List ℕ) → Has p starts → IsCompletion dp p x → OneOf (λ (q : List ℕ). IsTrue (begins q x)) starts
begun_by dp starts p x has h =
    one-of-has (λ (q : List ℕ). IsTrue (begins q x)) starts p (subst (λ (y : List ℕ). IsTrue (begins p y)) (sym h.begins) (begins-append p h.rest)) has

-- nothing is open any more: each start prefix is settled with the incumbent
pub ran_settles : (dp : Dp) (starts : List (List ℕ)) (found before : Option ℤ) → IsShown dp found → CoversFrom dp starts found [] → (p : List ℕ) → Has p starts → IsSettled dp before (record { prefix = p; best = found })
ran_settles dp starts found before shown covers p has = record {
  shown = shown;
  held = λ x h. elim (covers x h.solution (begun_by dp starts p x has h)) as (λ _. AtMost (value_of dp x) found ⊎ AtMost (value_of dp x) before) [ inl low ↦ inl low | inr never ↦ absurd never ];
}

root_raised : (o : Option ℤ) (value : ℤ) (bound claim more : Option ℤ) → IsTrue (is_at_most claim more) → IsTrue (covers_root o value bound claim) → IsTrue (covers_root o value bound more)
root_raised None value bound claim more up h = h
root_raised (Some g) value bound claim more up h = at-most-through (add_some (value +ℤ g) bound) claim more h up

and_both : (a b : Bool) → IsTrue a → IsTrue b → IsTrue (a && b)
and_both true b h k = k
and_both false b h k = h

-- a cover with a claim is one with each greater claim
pub cover_raised : (dp : Dp) (claim more : Option ℤ) (p : List ℕ) (layers : List (List CoverRow)) (place : ℕ) → IsTrue (is_at_most claim more) → IsCoverBelow dp claim p layers place → IsCoverBelow dp more p layers place
cover_raised dp claim more p layers place up is =
    let gap = dp.gap (length p) is.row.words (state_of dp p) in
    let parts = and_parts (is_state_row dp (length p) is.row.words) (covers_root gap (value_of dp p) is.row.bound claim) is.test in
    record {
      long = is.long;
      passes = is.passes;
      row = is.row;
      at = is.at;
      test = and_both (is_state_row dp (length p) is.row.words) (covers_root gap (value_of dp p) is.row.bound more) parts.0 (root_raised gap (value_of dp p) is.row.bound claim more up parts.1);
    }
