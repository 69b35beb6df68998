use Rattle.std.proofs.Common.{◌∙◌, ◌++◌, ap, sym, subst, arith, append_assoc, List, ℕ, map, take}
use Rattle.std.specs.List.{flat_map}
use Rattle.std.proofs.lemmas.List.Elements.{All-more}
use Rattle.journal_bytes.specs.declared.record.Listed.{Listed}
use Rattle.journal_bytes.specs.Spelling.{listed_bytes, ListedFits}
use Rattle.journal_bytes.specs.Views.{listed_view}
use Rattle.journal_bytes.proofs.Sizes.{bytes_more}
use Rattle.journal_bytes.proofs.writing.push_all_listed.Goals as goal

pub loop-one-preserved : goal.loop-one-preserved
loop-one-preserved c =
    let l = c.loop-one in
    let listed = c.args.listed.now in
    let one = c.one-item.result in
    let so_far : List ℕ = flat_map listed_bytes (map listed_view (take l.one-index listed)) in
    record {
      bytes = c.in_ok-push_listed.ensures.bytes ∙ ap (λ (b : List ℕ). b ++ listed_bytes (listed_view one)) l.invariant.bytes ∙ append_assoc c.args.body.now.items so_far (listed_bytes (listed_view one))
          ∙ ap (λ (x : Listed). c.args.body.now.items ++ (so_far ++ listed_bytes (listed_view x))) c.one-item.is
          ∙ ap (λ (b : List ℕ). c.args.body.now.items ++ b) (sym (bytes_more listed_view listed_bytes listed l.one-index one (omega arith)));
      fits = All-more (λ x. ListedFits (listed_view x)) listed l.one-index one (omega arith) l.invariant.fits (subst (λ (x : Listed). ListedFits (listed_view x)) c.one-item.is c.in_ok-push_listed.ensures.fits);
    }
