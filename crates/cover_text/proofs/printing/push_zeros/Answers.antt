use Rattle.std.proofs.Common.{◌≡◌, ◌+◌, ◌*◌, ◌++◌, ◌∙◌, refl, ap, subst, drop, replicate, pos}
use Rattle.std.specs.Prelude.{flat_map}
use Rattle.std.proofs.lemmas.List.{take_rest}
use Rattle.cover_text.specs.Printed.{printed_number}
use Rattle.cover_text.proofs.Zeros.{eight_pushed, eight_fit}
use Rattle.cover_text.proofs.printing.push_zeros.Goals as goal

pub eights-preserved : goal.eights-preserved
eights-preserved c =
    let zeros : drop (8 * c.eights.block) c.args.words.now ≡ replicate 8 (pos 0) ++ drop 8 (drop (8 * c.eights.block) c.args.words.now) = subst (λ words. words ≡ replicate 8 (pos 0) ++ drop 8 words) (take_rest c.args.words.now (8 * c.eights.block)) (c.if-not-begins_with_zeros.ensures refl) in (
      ap (λ out. out ++ flat_map printed_number (drop (8 * (c.eights.block + 1)) c.args.words.now)) c.in_ok-push_text.ensures.items
          ∙ (eight_pushed c.eights.block c.args.words.now c.eights.out.items zeros ∙ c.eights.invariant.0),
      (λ rest. c.eights.invariant.1 (eight_fit c.eights.block c.args.words.now zeros rest)),
    )
