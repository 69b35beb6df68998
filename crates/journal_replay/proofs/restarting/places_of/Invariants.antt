use Rattle.std.proofs.Common.{◌≡◌, drop, length, map}
use Rattle.journal_bytes.specs.Views.{listed_view}
use Rattle.journal_replay.proofs.Listing.{ListsOn}
use Rattle.journal_replay.proofs.restarting.places_of.Given as goal

abbrev pub invariant-loop-one : goal.invariant-loop-one
invariant-loop-one g l = record {
  on : ListsOn (g.M.DpModel.meaning (g.M.DpModel.numbers l.model)) l.least l.next l.places.items (map listed_view (drop l.one-index l.listed)) (map listed_view l.listed);
  cells : length l.spare ≡ (g.M.DpModel.meaning (g.M.DpModel.numbers l.model)).words;
}
