-- A search from the record of a part settles it.
use Rattle.std.proofs.Common.{◌≡◌, ℤ, ◌∷◌, sym, ◌∙◌, ap, subst}
use Rattle.dp_model.specs.Dp.{Dp}
use Rattle.dp_model.specs.Laws.{IsLawful}
use Rattle.dp_model.proofs.Members.{each-of-all}
use Rattle.board_laws.specs.declared.settings.Settings.{Settings}
use Rattle.board_laws.specs.Board.{incumbent_value}
use Rattle.board_laws.proofs.Restoring.{restored-boards-keep}
use Rattle.board_laws.proofs.Running.{runs-keep}
use Rattle.frontier_parts.specs.Settled.{IsSettled, IsSettledWithin}
use Rattle.frontier_parts.proofs.Searching.{boards_settle, held_shown}
use Rattle.journal_replay.specs.Parts.{starts_of}
use Rattle.journal_replay.specs.Replay.{replay_of, restored_from}
use Rattle.journal_replay.proofs.Joined.{sound-restore-good}
use Rattle.journal_replay.proofs.Restored.{accepted-restore}
use Rattle.part_records.specs.Parts.{PartsSettle}

pub parts-settled : (dp : Dp) → IsLawful dp → PartsSettle dp
parts-settled dp laws settings first more steps last are accepted sound run explored =
    let starts = starts_of first in
    let s = replay_of dp (first ∷ more) in
    let found = incumbent_value last in
    let board = (restored-boards-keep dp laws settings s.incumbent s.listed s.next_ticket are (accepted-restore dp laws (first ∷ more) accepted)).board in
    let good = sound-restore-good dp laws {starts = starts} settings (first ∷ more) are accepted sound in
    let kept = runs-keep dp laws (restored_from settings s) steps last run in
    let there = kept.keeps.board board in
    let settle = boards_settle dp starts last there (kept.keeps.good board good) explored in
    let shown = held_shown dp last.incumbent there.incumbent in
    let distance : last.settings.within ≡ settings.within = ap (λ (x : Settings). x.within) kept.follows.settings in
    record {
      exactly = λ zero b. record {
        shown = shown;
        each = each-of-all (λ p. IsSettled dp (incumbent_value b) (record { prefix = p; best = found })) starts (λ p has. settle.exactly (distance ∙ zero) (incumbent_value b) p has);
      };
      nearly = λ b same. record {
        shown = shown;
        each = each-of-all (λ p. IsSettledWithin dp b.settings.within (incumbent_value b) (record { prefix = p; best = found })) starts
            (λ p has. subst (λ (w : ℤ). IsSettledWithin dp w (incumbent_value b) (record { prefix = p; best = found })) (distance ∙ sym same) (settle.within (incumbent_value b) p has));
      };
    }
