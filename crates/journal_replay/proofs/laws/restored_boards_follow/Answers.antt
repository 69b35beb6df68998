use Rattle.journal_replay.proofs.Beside.{restored-boards-follow}
use Rattle.journal_replay.proofs.laws.restored_boards_follow.Goals as goal

pub returns : goal.returns
returns c = restored-boards-follow
