-- What was enough for the value that a seat saw is enough for each board whose incumbent is no less.
use Rattle.std.proofs.Common.{ℕ, ℤ, List, Option, Some, None, ⊎_elim, inl, inr, refl, sym, subst, arith}
use Rattle.std.proofs.lemmas.Int.{ints}
use Rattle.std.specs.Int.Signed.{≤ℤ_refl}
use Rattle.turn.specs.Order.{NoLess}
use Rattle.dp_model.specs.Cover.{IsHeld}
use Rattle.dp_model.specs.Dp.{Dp}
use Rattle.dp_model.specs.Numbers.{AtMost, OptionAtMost}
use Rattle.dp_model.specs.Prefixes.{IsSolution, value_of}
use Rattle.dp_model.specs.Subproblem.{Subproblem}
use Rattle.dp_model.proofs.Members.{Each-then}
use Rattle.dp_laws.specs.Children.{AreChildren, StandDeep}
use Rattle.dp_laws.specs.Restricted.Beams.{wide}
use Rattle.dp_laws.proofs.Reaches.{at-most-raised}
use Rattle.board_laws.specs.Board.{BoardState, incumbent_value, reach, reach_of, slot_at}
use Rattle.board_laws.specs.Fates.{fates_on}
use Rattle.board_laws.specs.Finishing.{MayFinish}
use Rattle.board_laws.specs.declared.settings.Settings.{Settings}
use Rattle.board_laws.proofs.Running.{option-then}
use Rattle.board_laws.specs.Improving.{ImproveGives, after_offer}
use Rattle.board_laws.specs.declared.improved.Improved.{Improved}
use Rattle.board_laws.specs.declared.improved.Improved.TheVariants.{Yes, NotBetter, NoSolution}
use Rattle.board.specs.Moves.{out_at}
use Rattle.search_workers.specs.FinishLater.{MayFinishLater}
use Rattle.search_workers.proofs.Slots.{full_of}

pub at-most-of : (a b : Option ℤ) → NoLess a b → OptionAtMost a b
at-most-of None b h = tt
at-most-of (Some z) None h = h
at-most-of (Some z) (Some y) h = h

pub no-less-of : (a b : Option ℤ) → OptionAtMost a b → NoLess a b
no-less-of None b h = tt
no-less-of (Some z) None h = h
no-less-of (Some z) (Some y) h = h

-- an offer leaves an incumbent that is no less than the solution
pub offer-reaches : (dp : Dp) (b : BoardState) (x : List ℕ) (answer : Improved) → ImproveGives dp b x answer → IsSolution dp x → AtMost (value_of dp x) (incumbent_value (after_offer dp answer b x))
offer-reaches dp b x Yes gives is = ≤ℤ_refl (value_of dp x)
offer-reaches dp b x NotBetter gives is = gives.1
offer-reaches dp b x NoSolution gives is = absurd (gives is)

-- the reach is no less where the incumbent's value is
pub reach-later : (within : ℤ) (seen now : Option ℤ) → OptionAtMost seen now → OptionAtMost (reach_of within seen) (reach_of within now)
reach-later within None now h = tt
reach-later within (Some z) None h = h
reach-later within (Some z) (Some y) h = omega (arith, ints)

pub seen-later : (within : ℤ) (seen now : Option ℤ) → NoLess seen now → OptionAtMost (reach_of within seen) (reach_of within now)
seen-later within seen now less = reach-later within seen now (at-most-of seen now less)

held-later : (dp : Dp) (seen now : Option ℤ) (p : List ℕ) (bound : ℤ) → OptionAtMost seen now → IsHeld dp seen p bound → IsHeld dp now p bound
held-later dp seen now p bound n h x c = ⊎_elim (λ a. inl a) (λ a. inr (at-most-raised (value_of dp x) seen now n a)) (h x c)

-- children where all that is at most a number is left out are children where more is
children-later : (dp : Dp) (seen now : Option ℤ) (p : List ℕ) (cs : List Subproblem) → OptionAtMost seen now → AreChildren dp seen p cs → AreChildren dp now p cs
children-later dp seen now p cs n h = record {
  few = h.few;
  own = h.own;
  apart = h.apart;
  differ = h.differ;
  far = h.far;
  held = Each-then (λ c. IsHeld dp seen c.decisions c.bound) (λ c. IsHeld dp now c.decisions c.bound) cs (λ c x. held-later dp seen now c.decisions c.bound n x) h.held;
  matched = λ x c. ⊎_elim (λ a. inl (at-most-raised (value_of dp x) seen now n a)) (λ a. inr a) (h.matched x c);
}

-- what a worker proved against what it has seen is what a Finish asks where that is the incumbent's value
pub may-finish : (dp : Dp) (b : BoardState) (who : ℕ) (threshold : Option ℤ) (cs : List Subproblem) → MayFinishLater dp b.settings (out_at b who) (incumbent_value b) threshold cs → MayFinish dp b who threshold cs (fates_on dp b cs)
may-finish dp b who threshold cs m =
    let f = full_of (slot_at b who) m.decisions m.out_is in
    record {
      parent = f.parent;
      full = f.full;
      below = m.branched.below;
      children = subst (λ p. AreChildren dp (reach b) p cs) (sym f.decisions_are) m.branched.children;
      deep = subst (λ p. StandDeep (wide dp p b.settings.width threshold) cs) (sym f.decisions_are) m.branched.deep;
      fates = refl;
    }

-- the same against a value that is no less
pub later-seen : (dp : Dp) (settings : Settings) (out : Option (List ℕ)) (seen now threshold : Option ℤ) (cs : List Subproblem) → NoLess seen now → MayFinishLater dp settings out seen threshold cs → MayFinishLater dp settings out now threshold cs
later-seen dp settings out seen now threshold cs less m =
    let before = reach_of settings.within seen in
    let after = reach_of settings.within now in
    let low = seen-later settings.within seen now less in
    let h = m.branched in
    record {
      decisions = m.decisions;
      out_is = m.out_is;
      branched = record { below = option-then threshold before after h.below low; children = children-later dp before after m.decisions cs low h.children; deep = h.deep; size = h.size };
    }
