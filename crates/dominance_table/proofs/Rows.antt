-- Entries and their rows, one more of them and the one at a place, and the least of numbers.
use Rattle.std.proofs.Common.{◌≡◌, ℕ, zero, suc, get_or, ◌+◌, ◌*◌, ◌<◌, ◌≤◌, ℤ, List, [], ◌∷◌, ◌++◌, length, take, drop, nat_le, cond, Option, Some, None, refl, sym, ◌∙◌, ap, arith, length-drop}
use Rattle.std.proofs.Math.Nat.{suc-mul}
use Rattle.std.proofs.lemmas.Bool.Decides.{nat_tests}
use Rattle.std.proofs.lemmas.List.{take-append-le, drop-append-le, take_all, drop-drop}
use Rattle.dominance_table.specs.declared.entry.Entry.{Entry}
use Rattle.dominance_table.specs.Dominator.{lesser, least}
use Rattle.dominance_table.specs.Entries.{TableEntry, with_row, with_rows, entry_at, row_at}

pub length_with_rows : (words : ℕ) (es : List Entry) (cells : List ℤ) → length (with_rows words es cells) ≡ length es
length_with_rows words [] cells = refl
length_with_rows words (e ∷ es) cells = ap suc (length_with_rows words es (drop words cells))

no_cells : (cells : List ℤ) → length cells ≡ 0 → cells ≡ []
no_cells [] h = refl
no_cells (x ∷ cells) h = absurd (omega arith)

-- one more entry and its row at the end
pub with_rows_more : (words : ℕ) (es : List Entry) (cells : List ℤ) (e : Entry) (row : List ℤ) → length cells ≡ length es * words → length row ≡ words
    → with_rows words (es ++ e ∷ []) (cells ++ row) ≡ with_rows words es cells ++ with_row e row ∷ []
with_rows_more words [] cells e row h k =
    let none : cells ≡ [] = no_cells cells (omega arith) in
    ap (λ l. with_row e (take words (l ++ row)) ∷ []) none ∙ ap (λ r. with_row e r ∷ []) (take_all words row (omega arith))
with_rows_more words (x ∷ es) cells e row h k =
    let more : suc (length es) * words ≡ length es * words + words = suc-mul (length es) words in
    let within : words ≤ length cells = omega arith in
    let left : length (drop words cells) ≡ length es * words = omega (arith, length-drop words cells) in
    ap (λ r. with_row x r ∷ with_rows words (es ++ e ∷ []) (drop words (cells ++ row))) (take-append-le words cells row within)
    ∙ ap (λ l. with_row x (take words cells) ∷ l)
    (ap (with_rows words (es ++ e ∷ [])) (drop-append-le words cells row within) ∙ with_rows_more words es (drop words cells) e row left k)

least_of_three : (a n m : ℕ) → cond (nat_le (cond (nat_le a n) a n) m) (cond (nat_le a n) a n) m ≡ cond (nat_le a (cond (nat_le n m) n m)) a (cond (nat_le n m) n m)
least_of_three a n m = grind (arith, nat_tests)

-- the least so far, one more and the rest
pub lesser_more : (a : Option ℕ) (n : ℕ) (rest : Option ℕ) → lesser (lesser a (Some n)) rest ≡ lesser a (lesser (Some n) rest)
lesser_more None n rest = refl
lesser_more (Some a) n None = refl
lesser_more (Some a) n (Some m) = ap (λ k. Some k) (least_of_three a n m)

lesser_over : (a b rest : Option ℕ) → lesser (lesser a b) rest ≡ lesser a (lesser b rest)
lesser_over a (Some n) rest = lesser_more a n rest
lesser_over None None rest = refl
lesser_over (Some m) None rest = refl

-- the least of two lists
pub least-append : (ms ns : List ℕ) → least (ms ++ ns) ≡ lesser (least ms) (least ns)
least-append [] ns = refl
least-append (m ∷ ms) ns = ap (λ o. lesser (Some m) o) (least-append ms ns) ∙ sym (lesser_over (Some m) (least ms) (least ns))

-- the entry at a place has the row at that place
pub with_rows_at : (words : ℕ) (es : List Entry) (cells : List ℤ) (i : ℕ) (d : TableEntry) → i < length es → get_or (with_rows words es cells) i d ≡ with_row (entry_at es i) (row_at cells words i)
with_rows_at words [] cells i d less = absurd (omega arith)
with_rows_at words (e ∷ es) cells zero d less =
    let none : 0 * words ≡ 0 = omega arith in
    ap (λ n. with_row e (take words (drop n cells))) (sym none)
with_rows_at words (e ∷ es) cells (suc i) d less =
    let more : suc i * words ≡ words + i * words = omega (arith, suc-mul i words) in
    with_rows_at words es (drop words cells) i d (omega arith)
    ∙ ap (λ l. with_row (entry_at es i) (take words l)) (drop-drop (i * words) words cells ∙ ap (λ n. drop n cells) (sym more))
