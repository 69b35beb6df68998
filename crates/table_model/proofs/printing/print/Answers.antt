use Rattle.std.proofs.Common.{◌≡◌, ◌≤◌, ◌^◌, ℕ, List, Vec, Global, length, sym, ap, subst, ◌∙◌}
use Rattle.std.specs.Prelude.{string_bytes}
use Rattle.table_model.specs.Printing.{text_of}
use Rattle.table_model.specs.Reading.{table_of_tree, table_text}
use Rattle.table_model.specs.Shown.{table_shown}
use Rattle.table_model.proofs.Lengths.{text_short}
use Rattle.table_model.proofs.RoundTrip.{table_back}
use Rattle.table_model.proofs.printing.print.Goals as goal

pub returns-clause-text : goal.returns-clause-text
returns-clause-text c = ap (λ (v : Vec ℕ Global). v.items) c.into_bytes.ensures.value ∙ c.in_ok-text.ensures.text

pub returns-clause-short : goal.returns-clause-short
returns-clause-short c =
    let m = c.args.model.now in
    let table = table_shown m in
    let short = text_short table (record { root_value = m.small; some = m.some; few = m.few; layers = m.layered }) in
    let same : c.into_bytes.result.items ≡ text_of table = ap (λ (v : Vec ℕ Global). v.items) c.into_bytes.ensures.value ∙ c.in_ok-text.ensures.text in
    subst (λ (l : List ℕ). length l ≤ 2 ^ 30) (sym same) short

pub returns-clause-reads_back : goal.returns-clause-reads_back
returns-clause-reads_back c =
    let m = c.args.model.now in
    let same : c.into_bytes.result.items ≡ string_bytes c.in_ok-text.text = ap (λ (v : Vec ℕ Global). v.items) c.into_bytes.ensures.value in
    ap table_text same
    ∙ ap table_of_tree c.in_ok-text.ensures.reads_back
    ∙ table_back (table_shown m) (record { root_value = m.small; some = m.some; few = m.few; layers = m.layered }) m.tested
