-- The checks of the parts, one after another.
use Rattle.std.proofs.Common.{◌≡◌, ℕ, pos, List, ℤ, Option, ap, ◌∙◌, subst}
use Rattle.dp_model.specs.Dp.{Dp}
use Rattle.parts.specs.Part.{part_program, part_of_numbers, part_numbers}
use Rattle.bound_cover.specs.declared.cover.Verdict.{Verdict}
use Rattle.bound_cover.specs.Covers.{CoverRow}
use Rattle.bound_cover.specs.Verdicts.{verdict}
use Rattle.cover_join.specs.Joined.{PartAnswer}
use Rattle.cover_join.specs.Joining.{JoinError, refusal, part_fault}

-- the verdict on a part is that on its program
pub part_checked : {A : Type 0} (meaning : List ℤ → Dp) (numbers : A → List ℤ) (mine whole : A) (i j k l : ℕ) (v : Verdict) (best : Option ℤ) (x y : List ℕ) (layers : List (List CoverRow)) → mine ≡ whole → i ≡ j → k ≡ l → x ≡ y
    → v ≡ verdict (part_of_numbers meaning (part_numbers i k (numbers mine))) best (pos 0) x layers → v ≡ verdict (part_program (meaning (numbers whole)) j l) best (pos 0) y layers
part_checked meaning numbers mine whole i j k l v best x y layers m n o p is =
    subst (λ a. v ≡ verdict (part_program (meaning (numbers a)) j l) best (pos 0) y layers) m
    (subst (λ a. v ≡ verdict (part_program (meaning (numbers mine)) a l) best (pos 0) y layers) n
    (subst (λ a. v ≡ verdict (part_program (meaning (numbers mine)) i a) best (pos 0) y layers) o
    (subst (λ a. v ≡ verdict (part_program (meaning (numbers mine)) i k) best (pos 0) a layers) p is)))

pub part_told : (dp : Dp) (of i : ℕ) (p : PartAnswer) (v : Verdict) (found : Option JoinError) → v ≡ verdict (part_program dp i of) p.best (pos 0) p.assignment p.layers → found ≡ refusal i v → found ≡ part_fault dp of i p
unfolding part_fault
part_told dp of i p v found given is = is ∙ ap (refusal i) given
