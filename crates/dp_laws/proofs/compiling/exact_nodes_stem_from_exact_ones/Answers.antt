use Rattle.dp_laws.proofs.Rules.Stems.{exact-stems}
use Rattle.dp_laws.proofs.compiling.exact_nodes_stem_from_exact_ones.Goals as goal

pub returns : goal.returns
returns c = exact-stems
