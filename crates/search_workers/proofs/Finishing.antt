-- What a Finish asks.
use Rattle.std.proofs.Common.{◌≡◌, ◌≤◌, ℤ, List, [], ◌∷◌, length, Option, Some, None, option_map, refl, sym, ap, subst, arith}
use Rattle.dp_model.specs.Dp.{Dp}
use Rattle.dp_model.specs.Subproblem.{Subproblem, SubView}
use Rattle.fringe.specs.Tickets.{Ticketed}
use Rattle.board_laws.specs.Board.{BoardState, full_slots, slot_at}
use Rattle.board_laws.specs.Fates.{fates_on}
use Rattle.board_laws.specs.Finishing.{MayFinish}
use Rattle.board_laws.specs.declared.fate.Fate.{Fate}
use Rattle.board.specs.Contents.{contents}
use Rattle.search_workers.specs.Branched.{IsBranched}
use Rattle.search_workers.proofs.Taking.{first_full}

-- what is out, with its ticket
record IsOut (slot : Option Ticketed) (c : Subproblem) : Type 0 where
  out : Ticketed
  full : slot ≡ Some out
  same : out.subproblem ≡ c

out_of : (slot : Option Ticketed) (c : Subproblem) → option_map (λ (o : Ticketed). o.subproblem) slot ≡ Some c → IsOut slot c
out_of None c is = absurd (cc)
out_of (Some o) c is = record { out = o; full = refl; same = cc }

pub out_full : (b : BoardState) (c : Subproblem) → option_map (λ (o : Ticketed). o.subproblem) (slot_at b 0) ≡ Some c → 1 ≤ length (full_slots b.slots)
out_full b c is = let at = out_of (slot_at b 0) c is in first_full b.slots at.out at.full

pub may_finish : (dp : Dp) (b : BoardState) (c : Subproblem) (threshold : Option ℤ) (cs : List Subproblem) (fs : List Fate) → option_map (λ (o : Ticketed). o.subproblem) (slot_at b 0) ≡ Some c
    → IsBranched dp b c.decisions threshold cs → fs ≡ fates_on dp b cs → MayFinish dp b 0 threshold cs fs
may_finish dp b c threshold cs fs is branched fates =
    let at = out_of (slot_at b 0) c is in
    let here = subst (λ p. IsBranched dp b p threshold cs) (ap (λ s. s.decisions) (sym at.same)) branched in
    record {
      parent = at.out;
      full = at.full;
      below = here.below;
      children = here.children;
      deep = here.deep;
      fates = fates;
    }

pub contents-long : (held : List SubView) → length (contents held) ≡ length held
contents-long [] = refl
contents-long (h ∷ held) = let rest = contents-long held in omega arith
