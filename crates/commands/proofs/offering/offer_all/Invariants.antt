use Rattle.std.proofs.Common.{◌≢◌, ℤ, length, map, Option, Some, IsSome}
use Rattle.dp_model.specs.Numbers.{OptionAtMost}
use Rattle.board_laws.specs.Board.{incumbent_value}
use Rattle.board_laws.specs.declared.cause.Cause.TheVariants.{Journal}
use Rattle.part_reports.specs.Reports.{AreTested, report_view}
use Rattle.answers.specs.Offers.{AreWorthAtMost}
use Rattle.commands.specs.Offers.{IsAfterOffers}
use Rattle.commands.proofs.offering.offer_all.Given as goal

abbrev pub invariant-loop-rest : goal.invariant-loop-rest
invariant-loop-rest g l =
    let dp = g.M.DpModel.meaning l.initial.kept.board.numbers in
    record {
      after : IsAfterOffers dp l.initial.kept l.kept;
      going : IsSome l.kept.tail → l.kept.board.board.cause ≢ Some Journal;
      tested : AreTested dp (map report_view l.rest);
      taken : (told : Option ℤ) → OptionAtMost (incumbent_value l.kept.board.board) told → AreWorthAtMost (map report_view l.rest) told → AreWorthAtMost (map report_view l.reports) told;
    }

abbrev pub decreases-loop-rest : goal.decreases-loop-rest
decreases-loop-rest g l = length l.rest
