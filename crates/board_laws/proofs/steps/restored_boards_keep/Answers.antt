use Rattle.board_laws.proofs.Restoring.{restored-boards-keep}
use Rattle.board_laws.proofs.steps.restored_boards_keep.Goals as goal

pub returns : goal.returns
returns c = restored-boards-keep
