-- A fixed word that stands next: it is read as that word.
use Rattle.std.proofs.Common.{◌≡◌, ℕ, Bool, true, false, List, [], ◌∷◌, refl, ap, ◌∙◌, arith, nat_eq}
use Rattle.std.specs.Prelude.{◌&&◌, nat_le, codes, Ok}
use Rattle.std.specs.Cmp.Lexicographic.{pointwise}
use Rattle.std.proofs.lemmas.Bool.Decides.{nat_tests}
use Rattle.tokens.specs.Text.{TextState, token, word_at, after_token}
use Rattle.cover_text.specs.Grammar.{fixed_at}

both : (a b : Bool) → (a && b) ≡ true → (a ≡ true) × (b ≡ true)
both true b h = (refl, h)
both false b h = absurd (cc)

same_word : (xs ys : List ℕ) → pointwise nat_eq xs ys ≡ true → xs ≡ ys
same_word [] [] h = refl
same_word [] (y ∷ ys) h = absurd (cc)
same_word (x ∷ xs) [] h = absurd (cc)
same_word (x ∷ xs) (y ∷ ys) h =
    let parts = both (nat_eq x y) (pointwise nat_eq xs ys) h in
    let first : x ≡ y = (let e = parts.0 in grind (arith, nat_tests)) in
    ap (λ z. z ∷ xs) first ∙ ap (λ zs. y ∷ zs) (same_word xs ys parts.1)

reads_word : (b : ℕ) (bs : List ℕ) (s : TextState) → nat_le 128 b ≡ false → pointwise nat_eq (token s) (b ∷ bs) ≡ true → word_at s ≡ Ok (b ∷ bs)
unfolding word_at
reads_word b bs s ascii same = rw (same_word (token s) (b ∷ bs) same, ascii) refl

pub none_stands : (s : TextState) → pointwise nat_eq (token s) (codes "none") ≡ true → word_at s ≡ Ok (codes "none")
none_stands s same = reads_word _ _ s refl same

pub row_stands : (s : TextState) → pointwise nat_eq (token s) (codes "r") ≡ true → word_at s ≡ Ok (codes "r")
row_stands s same = reads_word _ _ s refl same

pub semicolon_stands : (s : TextState) → pointwise nat_eq (token s) (codes ";") ≡ true → fixed_at (codes ";") s ≡ Ok (after_token s)
unfolding fixed_at
semicolon_stands s same = rw (reads_word 59 [] s refl same) refl

pub ruleset passing_steps = (none_stands, row_stands, semicolon_stands)
