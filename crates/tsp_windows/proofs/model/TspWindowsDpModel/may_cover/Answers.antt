use Rattle.std.proofs.Common.{true≢false}
use Rattle.tsp_windows.proofs.model.TspWindowsDpModel.may_cover.Goals as goal

-- the answer is never false
pub returns : goal.returns
returns c = λ test. absurd (true≢false test)
