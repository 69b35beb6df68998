use Rattle.journal_replay.proofs.Beside.{first-boards-follow}
use Rattle.journal_replay.proofs.laws.first_boards_follow.Goals as goal

pub returns : goal.returns
returns c = first-boards-follow
