use Rattle.std.proofs.Common.{◌∙◌, ◌++◌, ap, sym, subst, arith, append_assoc, List, ℕ, map, take}
use Rattle.std.specs.List.{flat_map}
use Rattle.std.proofs.lemmas.List.Elements.{All-more}
use Rattle.journal_bytes.specs.declared.record.Child.{Child}
use Rattle.journal_bytes.specs.Spelling.{child_bytes, ChildFits}
use Rattle.journal_bytes.specs.Views.{child_view}
use Rattle.journal_bytes.proofs.Sizes.{bytes_more}
use Rattle.journal_bytes.proofs.writing.push_children.Goals as goal

pub loop-one-preserved : goal.loop-one-preserved
loop-one-preserved c =
    let l = c.loop-one in
    let children = c.args.children.now in
    let one = c.one-item.result in
    let so_far : List ℕ = flat_map child_bytes (map child_view (take l.one-index children)) in
    record {
      bytes = c.in_ok-push_child.ensures.bytes ∙ ap (λ (b : List ℕ). b ++ child_bytes (child_view one)) l.invariant.bytes ∙ append_assoc c.args.body.now.items so_far (child_bytes (child_view one))
          ∙ ap (λ (x : Child). c.args.body.now.items ++ (so_far ++ child_bytes (child_view x))) c.one-item.is
          ∙ ap (λ (b : List ℕ). c.args.body.now.items ++ b) (sym (bytes_more child_view child_bytes children l.one-index one (omega arith)));
      fits = All-more (λ x. ChildFits (child_view x)) children l.one-index one (omega arith) l.invariant.fits (subst (λ (x : Child). ChildFits (child_view x)) c.one-item.is c.in_ok-push_child.ensures.fits);
    }
