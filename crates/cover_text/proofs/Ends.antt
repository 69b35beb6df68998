-- Where the sections of a text end, and texts one after another.
use Rattle.std.proofs.Common.{◌≡◌, ℕ, suc, ◌+◌, ◌-◌, ◌<◌, ◌≤◌, Bool, true, false, ◌&&◌, List, [], ◌∷◌, ◌++◌, length, map, take, refl, sym, ap, ◌∙◌, subst, arith, nat_eq}
use Rattle.std.specs.Prelude.{min, codes, Result, Ok}
use Rattle.std.proofs.lemmas.Bool.{and_right}
use Rattle.std.proofs.lemmas.List.{map-append}
use Rattle.dp_model.specs.Lists.{Each}
use Rattle.problem_names.specs.ModelNames.{word_same}
use Rattle.cover_text.specs.declared.cover_text.CoverText.{CoverText}
use Rattle.cover_text.specs.declared.cover_error.CoverError.TheVariants.{Text, Word, OutOfMemory}
use Rattle.cover_text.specs.Grammar.{CoverError, Fails}
use Rattle.cover_text.specs.Several.{begins_blank, begins_end, size_to_end, is_over, text_at, texts_from}
use Rattle.cover_text.specs.Texts.{CoverTextView, and_then, text_in}
use Rattle.cover_text.proofs.InTurn.{moved-fails}

-- ---- the word end

short-end : (bytes : List ℕ) → length bytes < 3 → word_same (take 3 bytes) (codes "end") ≡ false
short-end [] short = refl
short-end (a ∷ []) short = and_right (nat_eq a 101) false refl
short-end (a ∷ b ∷ []) short = rw (and_right (nat_eq b 110) false refl) (and_right (nat_eq a 101) false refl)
short-end (a ∷ b ∷ c ∷ more) short = absurd (omega arith)

pub end_short : (bytes : List ℕ) → length bytes < 3 → begins_end bytes ≡ false
end_short bytes short = rw (short-end bytes short) refl

pub ruleset end_steps = (end_short)

-- ---- the size of the sections

module _ (starts : Bool) (b : ℕ) (bs : List ℕ) (size total : ℕ) where
  -- the word stands here
  pub size_here : starts ≡ true → begins_end (b ∷ bs) ≡ true → size + size_to_end starts (b ∷ bs) ≡ total → size + min (length (b ∷ bs)) 4 ≡ total
  size_here begins here so_far =
      let same : size_to_end starts (b ∷ bs) ≡ min 4 (length (b ∷ bs)) = rw (begins, here) refl in
      omega (arith)

  size_later : (starts && begins_end (b ∷ bs)) ≡ false → size + size_to_end starts (b ∷ bs) ≡ total → (size + 1) + size_to_end (begins_blank (b ∷ bs)) bs ≡ total
  size_later later so_far =
      let same : size_to_end starts (b ∷ bs) ≡ suc (size_to_end (begins_blank (b ∷ bs)) bs) = rw later refl in
      omega arith

  pub size_inside : starts ≡ false → size + size_to_end starts (b ∷ bs) ≡ total → (size + 1) + size_to_end (begins_blank (b ∷ bs)) bs ≡ total
  size_inside inside so_far = size_later (rw inside refl) so_far

  pub size_other : begins_end (b ∷ bs) ≡ false → size + size_to_end starts (b ∷ bs) ≡ total → (size + 1) + size_to_end (begins_blank (b ∷ bs)) bs ≡ total
  size_other other so_far = size_later (rw other (and_right starts false refl)) so_far

pub ruleset size_steps = (size_here, size_inside, size_other)

pub ruleset moved_steps = (moved-fails)

-- ---- texts

pub each-push : {X : Type 0} (P : X → Type 0) (xs : List X) (x : X) → Each P xs → P x → Each P (xs ++ x ∷ [])
each-push P [] x held one = (one, tt)
each-push P (y ∷ ys) x held one = (held.0, each-push P ys x held.1 one)

pub map-push : (texts : List CoverText) (text : CoverText) → map text_in (texts ++ text ∷ []) ≡ map text_in texts ++ text_in text ∷ []
map-push texts text = map-append text_in texts (text ∷ [])

pub ruleset text_steps = (each-push, map-push)

pub then-fails : {A B : Type 0} (e : CoverError) (part : Result A CoverError) (more : A → Result B CoverError) → Fails e part → Fails e (and_then part more)
then-fails OutOfMemory part more fails = tt
then-fails (Text e) part more fails = rw fails refl
then-fails (Word p) part more fails = rw fails refl

fails-same : {A : Type 0} (e : CoverError) (one total : Result A CoverError) → one ≡ total → Fails e one → Fails e total
fails-same e one total same fails = subst (λ r. Fails e r) same fails

module _ (whole : List ℕ) (count i : ℕ) (read : List CoverTextView) (rest : List ℕ) where
  -- a text more
  pub from_more : (text : CoverTextView) (after : List ℕ) (next : List CoverTextView) (total : Result (List CoverTextView) CoverError) → is_over rest ≡ false → i < count → text_at whole rest ≡ Ok (record { text = text; rest = after })
      → next ≡ read ++ text ∷ [] → texts_from whole (count - i) read rest ≡ total → texts_from whole (count - (i + 1)) next after ≡ total
  unfolding texts_from
  from_more text after next total goes_on below one is so_far =
      let left : count - i ≡ suc (count - (i + 1)) = omega arith in
      let step : texts_from whole (count - i) read rest ≡ texts_from whole (count - (i + 1)) (read ++ text ∷ []) after = rw (left, goes_on, one) refl in
      ap (λ n. texts_from whole (count - (i + 1)) n after) is ∙ (sym step ∙ so_far)

  -- the input ends here
  pub from_over : (total : Result (List CoverTextView) CoverError) → is_over rest ≡ true → i < count → texts_from whole (count - i) read rest ≡ total → total ≡ Ok read
  unfolding texts_from
  from_over total over below so_far =
      let left : count - i ≡ suc (count - (i + 1)) = omega arith in
      let ends : texts_from whole (count - i) read rest ≡ Ok read = rw (left, over) refl in
      sym so_far ∙ ends

  -- a text has a fault, which is the fault of all
  pub from_fails : (e : CoverError) (total : Result (List CoverTextView) CoverError) → is_over rest ≡ false → i < count → Fails e (text_at whole rest) → texts_from whole (count - i) read rest ≡ total → Fails e total
  unfolding texts_from
  from_fails e total goes_on below fails so_far =
      let left : count - i ≡ suc (count - (i + 1)) = omega arith in
      let step : texts_from whole (count - i) read rest ≡ and_then (text_at whole rest) (λ first. texts_from whole (count - (i + 1)) (read ++ first.text ∷ []) first.rest) = rw (left, goes_on) refl in
      fails-same e _ total (sym step ∙ so_far) (then-fails e (text_at whole rest) (λ first. texts_from whole (count - (i + 1)) (read ++ first.text ∷ []) first.rest) fails)

  -- none is left
  pub from_done : (total : Result (List CoverTextView) CoverError) → count ≤ i → texts_from whole (count - i) read rest ≡ total → total ≡ Ok read
  unfolding texts_from
  from_done total all so_far =
      let left : count - i ≡ 0 = omega arith in
      let ends : texts_from whole (count - i) read rest ≡ Ok read = rw left refl in
      sym so_far ∙ ends

pub ruleset from_steps = (from_more, from_over, from_fails, from_done)

pub ruleset of_steps = (then-fails)
