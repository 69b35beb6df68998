use Rattle.dp_laws.proofs.Reaches.{sound-follow}
use Rattle.dp_laws.proofs.children.sound_children_follow.Goals as goal

pub returns : goal.returns
returns c = sound-follow
