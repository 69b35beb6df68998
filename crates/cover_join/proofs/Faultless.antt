-- What follows where texts have no fault.
use Rattle.std.proofs.Common.{◌≡◌, ℕ, suc, ◌+◌, ◌<◌, ◌^◌, pos, true, false, cond, nat_eq, List, [], ◌∷◌, length, map, ℤ, Option, Some, None, IsTrue, refl, sym, ap, ◌∙◌, subst, arith}
use Rattle.std.specs.Option.{option_or}
use Rattle.std.proofs.lemmas.Bool.Decides.{nat_tests}
use Rattle.dp_model.specs.Dp.{Dp}
use Rattle.dp_model.specs.Laws.{IsLawful}
use Rattle.parts.specs.Part.{part_program}
use Rattle.bound_cover.specs.declared.cover.CoverArc.{CoverArc}
use Rattle.bound_cover.specs.declared.cover.Verdict.{Verdict}
use Rattle.bound_cover.specs.declared.cover.Verdict.TheVariants as verdicts
use Rattle.bound_cover.specs.Covers.{CoverRow}
use Rattle.bound_cover.specs.Exploring.{layer_of}
use Rattle.bound_cover.specs.Verdicts.{verdict}
use Rattle.cover_text.specs.declared.cover_text.CoverText.{CoverText}
use Rattle.cover_text.specs.Texts.{CoverTextView, text_in}
use Rattle.cover_join.specs.Joined.{PartAnswer, best_answer, have_arcs, joined_cover, rough_cover, shifted, shifted_arc, shifted_row, whole_cover, AreAccepted}
use Rattle.cover_join.specs.Joining.{Fails, JoinError, answer_of, answers_in, texts_in, place_fault, places_fault, parts_told, refusal, part_fault, checks_fault, first_fault, joined_text}
use Rattle.cover_join.specs.declared.join_error.JoinError.TheVariants as causes
use Rattle.cover_join.proofs.Layers.{accepted-passed}
use Rattle.cover_join.proofs.Accepting.{joined-accepted}

or-none : {X : Type 0} (a b : Option X) → option_or a b ≡ None → (a ≡ None) × (b ≡ None)
or-none None b e = (refl, e)
or-none (Some x) b e = absurd (cc)

-- ---- the places

-- where no place has a fault there is one text for each part
places-counted : (first : CoverTextView) (of i : ℕ) (ts : List CoverTextView) → places_fault first of i ts ≡ None → i + length ts ≡ of
places-counted first of i [] none =
    elim (nat_eq i of) as (λ b. nat_eq i of ≡ b → cond b None (Some (causes.Order i)) ≡ None → i + 0 ≡ of) [
      | true ↦ λ e _. grind (arith, nat_tests)
      | false ↦ λ e n. absurd (cc)
    ] refl none
places-counted first of i (t ∷ ts) none =
    elim (nat_eq i of) as (λ b. cond b (Some (causes.Order i)) (option_or (place_fault first of i t) (places_fault first of (i + 1) ts)) ≡ None → i + suc (length ts) ≡ of) [
      | true ↦ λ n. absurd (cc)
      | false ↦ λ n. let more = places-counted first of (i + 1) ts (or-none (place_fault first of i t) (places_fault first of (i + 1) ts) n).1 in omega arith
    ] none

pub places_long : (first : CoverTextView) (of : ℕ) (ts : List CoverTextView) → places_fault first of 0 ts ≡ None → length ts ≡ of
places_long first of ts none = let count = places-counted first of 0 ts none in omega arith

-- ---- the checks

not-refused : (i : ℕ) (v : Verdict) → refusal i v ≡ None → v ≡ verdicts.Accepted
not-refused i verdicts.Accepted none = refl
not-refused i (verdicts.Refused why) none = absurd (cc)

checks-accepted : (dp : Dp) (of i : ℕ) (ps : List PartAnswer) → checks_fault dp of i ps ≡ None → AreAccepted dp of i ps
unfolding part_fault
checks-accepted dp of i [] none = tt
checks-accepted dp of i (p ∷ ps) none =
    let v : Verdict = verdict (part_program dp i of) p.best (pos 0) p.assignment p.layers in
    let both = or-none (refusal i v) (checks_fault dp of (i + 1) ps) none in
    (not-refused i v both.0, checks-accepted dp of (i + 1) ps both.1)

-- texts without a fault
pub record HasNoFault (dp : Dp) (of : ℕ) (first : CoverTextView) (ts : List CoverTextView) : Type 0 where
  pub long : length ts ≡ of
  pub accepted : AreAccepted dp of 0 (map answer_of ts)

pub no_fault : (dp : Dp) (first : CoverTextView) (ts : List CoverTextView) → first_fault dp first ts ≡ None → HasNoFault dp (parts_told first.part) first ts
unfolding first_fault
no_fault dp first ts none =
    let of = parts_told first.part in
    let both = or-none (places_fault first of 0 ts) (checks_fault dp of 0 (map answer_of ts)) none in
    record { long = places_long first of ts both.0; accepted = checks-accepted dp of 0 (map answer_of ts) both.1 }

length-answers : (ts : List CoverTextView) → length (map answer_of ts) ≡ length ts
length-answers [] = refl
length-answers (t ∷ ts) = ap suc (length-answers ts)

-- what is made of them is accepted
pub made_accepted : (dp : Dp) → IsLawful dp → (first : CoverTextView) (ts : List CoverTextView) → first_fault dp first (first ∷ ts) ≡ None
    → verdict dp (joined_text dp first ts).best (pos 0) (joined_text dp first ts).assignment (joined_text dp first ts).cover ≡ verdicts.Accepted
made_accepted dp laws first ts none =
    let held = no_fault dp first (first ∷ ts) none in
    let same : parts_told first.part ≡ length (answer_of first ∷ map answer_of ts) = sym held.long ∙ ap suc (sym (length-answers ts)) in
    joined-accepted dp laws (answer_of first) (map answer_of ts) (subst (λ of. AreAccepted dp of 0 (map answer_of (first ∷ ts))) same held.accepted)

pub joined_is_accepted : (dp : Dp) → IsLawful dp → (first : CoverTextView) (ts : List CoverTextView) (t : CoverText) → first_fault dp first (first ∷ ts) ≡ None → text_in t ≡ joined_text dp first ts → verdict dp t.best (pos 0) t.assignment.items t.cover ≡ verdicts.Accepted
joined_is_accepted dp laws first ts t none is = subst (λ (u : CoverTextView). verdict dp u.best (pos 0) u.assignment u.cover ≡ verdicts.Accepted) (sym is) (made_accepted dp laws first ts none)

length-texts : (ts : List CoverText) → length (texts_in ts) ≡ length ts
length-texts [] = refl
length-texts (t ∷ ts) = ap suc (length-texts ts)

-- there is one text for each part
pub texts_long : (first : CoverTextView) (of : ℕ) (ts : List CoverText) (found : Option JoinError) → found ≡ places_fault first of 0 (texts_in ts) → found ≡ None → length ts ≡ of
texts_long first of ts found is none = sym (length-texts ts) ∙ places_long first of (texts_in ts) (sym is ∙ none)

pub told_long : (dp : Dp) (first : CoverText) (ts : List CoverText) (of : ℕ) → of ≡ parts_told first.part → first_fault dp (text_in first) (texts_in ts) ≡ None → length ts ≡ of
told_long dp first ts of told none = sym (length-texts ts) ∙ ((no_fault dp (text_in first) (texts_in ts) none).long ∙ sym told)

pub told_accepted : (dp : Dp) (first : CoverText) (ts : List CoverText) (of : ℕ) → of ≡ parts_told first.part → first_fault dp (text_in first) (texts_in ts) ≡ None → AreAccepted dp of 0 (answers_in ts)
told_accepted dp first ts of told none = subst (λ k. AreAccepted dp k 0 (answers_in ts)) (sym told) (no_fault dp (text_in first) (texts_in ts) none).accepted

-- an error is the first fault
pub fails_some : (e : JoinError) (fault : Option JoinError) → Some e ≡ fault → Fails e fault
fails_some causes.OutOfMemory fault is = tt
fails_some (causes.Order i) fault is = sym is
fails_some (causes.Instance i) fault is = sym is
fails_some (causes.Refused i why) fault is = sym is

-- ---- a problem without variables

shifted-none : (target : Option ℕ) → shifted 0 target ≡ target
shifted-none None = refl
shifted-none (Some row) = ap Some (let same : 0 + row ≡ row = omega arith in same)

arcs-unshifted : (arcs : List CoverArc) → map (shifted_arc 0) arcs ≡ arcs
arcs-unshifted [] = refl
arcs-unshifted (arc ∷ arcs) = rw (shifted-none arc.target, arcs-unshifted arcs) refl

row-unshifted : (bound : Option ℤ) (words : List ℤ) (arcs : Option (List CoverArc)) → shifted_row 0 (record { bound = bound; words = words; arcs = arcs }) ≡ record { bound = bound; words = words; arcs = arcs }
row-unshifted bound words None = refl
row-unshifted bound words (Some arcs) = rw (arcs-unshifted arcs) refl

rows-unshifted : (rows : List CoverRow) → map (shifted_row 0) rows ≡ rows
rows-unshifted [] = refl
rows-unshifted (row ∷ rows) = rw (row-unshifted row.bound row.words row.arcs, rows-unshifted rows) refl

only-layer : (layers : List (List CoverRow)) → length layers ≡ 1 → layer_of layers 0 ∷ [] ≡ layers
only-layer [] long = absurd (omega arith)
only-layer (layer ∷ []) long = refl
only-layer (layer ∷ next ∷ more) long = absurd (omega arith)

-- the first layer is the whole cover
pub one_layer : (dp : Dp) (of : ℕ) (p : PartAnswer) (ps : List PartAnswer) → dp.vars ≡ 0 → AreAccepted dp of 0 (p ∷ ps) → map (shifted_row 0) (layer_of p.layers 0) ∷ [] ≡ p.layers
one_layer dp of p ps none accepted =
    let passed = accepted-passed dp 0 of p accepted.0 in
    let long = passed.long in
    ap (λ (rows : List CoverRow). rows ∷ []) (rows-unshifted (layer_of p.layers 0)) ∙ only-layer p.layers (omega arith)

-- so it is the joined cover
pub joined_of_none : (dp : Dp) (of : ℕ) (p : PartAnswer) (ps : List PartAnswer) (made : List (List CoverRow)) → dp.vars ≡ 0 → AreAccepted dp of 0 (p ∷ ps) → made ≡ map (shifted_row 0) (layer_of p.layers 0) ∷ [] → made ≡ joined_cover dp p ps
joined_of_none dp of p ps made none accepted is =
    let empty : nat_eq dp.vars 0 ≡ true = grind (arith, nat_tests) in
    is ∙ (one_layer dp of p ps none accepted ∙ sym (ap (λ b. cond b p.layers (cond (have_arcs dp (p ∷ ps)) (whole_cover dp (best_answer p ps).best (p ∷ ps)) (rough_cover dp (best_answer p ps).best))) empty))

-- ---- what the laws say

pub root_is_state : (dp : Dp) → IsLawful dp → IsTrue (dp.is_state 0 dp.root)
root_is_state dp laws = laws.states.root

pub few_vars : (dp : Dp) → IsLawful dp → dp.vars < 2 ^ 31
few_vars dp laws = let few = laws.sizes.vars in omega arith
