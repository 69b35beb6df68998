use Rattle.std.proofs.Common.{◌∙◌, ◌+◌, ◌*◌, ap, sym, subst, arith, List, ℕ, length, map, sum_by, take}
use Rattle.journal_bytes.specs.declared.record.Listed.{Listed}
use Rattle.journal_bytes.specs.Sizes.{IsCount}
use Rattle.journal_bytes.specs.Spelling.{listed_size}
use Rattle.journal_bytes.specs.Views.{listed_view}
use Rattle.journal_bytes.proofs.Counts.{size_more}
use Rattle.journal_bytes.proofs.counting.listed_size.Goals as goal

pub loop-one-preserved : goal.loop-one-preserved
loop-one-preserved c =
    let l = c.loop-one in
    let listed = c.args.listed.now in
    let one = c.one-item.result in
    let so_far : ℕ = sum_by listed_size (map listed_view (take l.one-index listed)) in
    let more : IsCount (listed_size (listed_view one)) c.with_decisions.result = subst (λ (ds : List ℕ). IsCount (20 + 4 * length ds) c.with_decisions.result) c.deref.ensures.value c.with_decisions.ensures in
    subst (λ (n : ℕ). IsCount n c.plus-size.result) (ap (λ (x : Listed). so_far + listed_size (listed_view x)) c.one-item.is ∙ sym (size_more listed_view listed_size listed l.one-index one (omega arith)))
    (c.plus-size.ensures so_far (listed_size (listed_view one)) l.invariant more)
