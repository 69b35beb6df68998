use Rattle.std.proofs.Common.{map, sym, ◌∙◌, ap}
use Rattle.std.proofs.lemmas.List.{drop_all}
use Rattle.journal_bytes.specs.Views.{record_view}
use Rattle.journal_bytes.proofs.Bases.{count_after, count-following}
use Rattle.journal_bytes.proofs.records.count_after.Goals as goal

pub returns : goal.returns
returns c =
    let l = c.loop-entry in
    let records = c.args.records.now in
    sym (ap (λ rest. count_after l.count (map record_view rest)) (drop_all l.entry-index records c.loop-entry-test.false)) ∙ (l.invariant.same ∙ count-following (map record_view records))
