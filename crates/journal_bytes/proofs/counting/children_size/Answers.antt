use Rattle.std.proofs.Common.{◌∙◌, ◌+◌, ◌*◌, ap, sym, subst, arith, List, ℕ, length, map, sum_by, take}
use Rattle.journal_bytes.specs.declared.record.Child.{Child}
use Rattle.journal_bytes.specs.Sizes.{IsCount}
use Rattle.journal_bytes.specs.Spelling.{child_size}
use Rattle.journal_bytes.specs.Views.{child_view}
use Rattle.journal_bytes.proofs.Counts.{size_more}
use Rattle.journal_bytes.proofs.counting.children_size.Goals as goal

pub loop-child-preserved : goal.loop-child-preserved
loop-child-preserved c =
    let l = c.loop-child in
    let children = c.args.children.now in
    let one = c.child-item.result in
    let so_far : ℕ = sum_by child_size (map child_view (take l.child-index children)) in
    let more : IsCount (child_size (child_view one)) c.with_decisions.result = subst (λ (ds : List ℕ). IsCount (20 + 4 * length ds) c.with_decisions.result) c.deref.ensures.value c.with_decisions.ensures in
    subst (λ (n : ℕ). IsCount n c.plus-size.result) (ap (λ (x : Child). so_far + child_size (child_view x)) c.child-item.is ∙ sym (size_more child_view child_size children l.child-index one (omega arith)))
    (c.plus-size.ensures so_far (child_size (child_view one)) l.invariant more)
