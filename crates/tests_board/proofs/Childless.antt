-- A finish without children, where no feasible solution is worth more than the incumbent.
use Rattle.std.proofs.Common.{◌≡◌, ℕ, List, [], Option, Some, None, inl, refl, arith}
use Rattle.std.specs.Prelude.{IsSome}
use Rattle.dp_model.specs.Dp.{Dp}
use Rattle.dp_model.specs.Numbers.{AtMost}
use Rattle.dp_model.specs.Prefixes.{IsSolution, value_of}
use Rattle.dp_laws.specs.Children.{StandDeep}
use Rattle.dp_laws.specs.Restricted.Beams.{wide}
use Rattle.dp_laws.proofs.Reaches.{at-most-raised}
use Rattle.fringe.specs.Tickets.{Ticketed}
use Rattle.board_laws.specs.Board.{BoardState, incumbent_value, reach, slot_at}
use Rattle.board_laws.specs.Finishing.{MayFinish}
use Rattle.board_laws.specs.GoodBoard.{IsBoard}
use Rattle.board_laws.proofs.Carrying.{reach-above}

some-is : (x : Option Ticketed) → IsSome x → (o : Ticketed) × (x ≡ Some o)
some-is None h = absurd (cc)
some-is (Some o) h = (o, refl)

no_child_deep : (depth : Option ℕ) → StandDeep depth []
no_child_deep None = refl
no_child_deep (Some depth) = tt

pub childless : (dp : Dp) (b : BoardState) (who : ℕ) → IsSome (slot_at b who) → ((x : List ℕ) → IsSolution dp x → AtMost (value_of dp x) (incumbent_value b)) → IsBoard dp b
    → MayFinish dp b who None [] []
childless dp b who full most g =
    let out = some-is (slot_at b who) full in
    record {
      parent = out.0;
      full = out.1;
      below = tt;
      children = record {
        few = omega arith;
        own = tt;
        apart = tt;
        differ = tt;
        far = tt;
        held = tt;
        matched = λ x c. inl (at-most-raised (value_of dp x) (incumbent_value b) (reach b) (reach-above b.settings.within (incumbent_value b) g.settings.distance.least) (most x c.solution));
      };
      deep = no_child_deep (wide dp out.0.subproblem.decisions b.settings.width None);
      fates = refl;
    }
