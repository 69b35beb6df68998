-- The diagram that is compiled for the row that waits next can be put in.
use Rattle.std.proofs.Common.{◌≡◌, ℕ, ◌<◌, ◌≤◌, ℤ, length, Option, Some, None, option_map, sym, subst}
use Rattle.dp_model.specs.Dp.{Dp}
use Rattle.dp_model.specs.Laws.{IsLawful, IsChained}
use Rattle.dp_model.specs.Reached.{reached}
use Rattle.dp_model.specs.Subproblem.{Subproblem, IsOwn}
use Rattle.dp_laws.specs.Diagrams.Nodes.{DdLayers}
use Rattle.dp_laws.specs.Diagrams.Seen.{IsDiagram}
use Rattle.dp_laws.specs.Rules.Compiling.{relaxed}
use Rattle.dp_laws.proofs.Rules.Diagrams.{compiled-is-diagram}
use Rattle.cover_book.specs.declared.waiting.WaitingRow.{WaitingRow}
use Rattle.cover_book.specs.Steps.{IsDiagramAt}

compiled : (dp : Dp) → IsLawful dp → IsChained dp → (claim : Option ℤ) (s : Subproblem) (w : ℕ) (d : DdLayers) → IsOwn dp s → 1 ≤ w → d ≡ relaxed dp (reached dp s.decisions) w claim → IsDiagram dp s.decisions w claim d
compiled dp laws chained claim s w d own wide is = subst (IsDiagram dp s.decisions w claim) (sym is) (compiled-is-diagram dp laws chained s.decisions w claim own.prefix own.shorter wide)

pub diagram-at : (dp : Dp) → IsLawful dp → IsChained dp → (claim : Option ℤ) (o : Option WaitingRow) (s : Subproblem) (w : ℕ) (d : DdLayers)
    → option_map (λ (r : WaitingRow). r.sub.subproblem) o ≡ Some s → IsOwn dp s → 1 ≤ w → d ≡ relaxed dp (reached dp s.decisions) w claim → IsDiagramAt dp claim o d
diagram-at dp laws chained claim None s w d at own wide is = absurd (let clash : None ≡ Some s = at in cc)
diagram-at dp laws chained claim (Some r) s w d at own wide is =
    let same : s ≡ r.sub.subproblem = (let e : Some r.sub.subproblem ≡ Some s = at in cc) in
    record {
      width = w;
      shorter = subst (λ (x : Subproblem). length x.decisions < dp.vars) same own.shorter;
      diagram = subst (λ (x : Subproblem). IsDiagram dp x.decisions w claim d) same (compiled dp laws chained claim s w d own wide is);
    }
