-- Rows that stand one after another.
use Rattle.std.proofs.Common.{◌≡◌, ℕ, zero, suc, ◌+◌, ◌*◌, ◌<◌, ◌≤◌, ℤ, List, [], ◌∷◌, ◌++◌, ◌^◌, length, take, drop, slice_get, Some, refl, sym, ◌∙◌, ap, ap₂, arith, length-drop, mul-le-mul_left}
use Rattle.std.proofs.lemmas.List.{take_at, take-append-le, drop-append-le, drop-drop, append-nil, length-append}
use Rattle.std.proofs.lemmas.Nat.{mul-le}
use Rattle.relaxed_dd.specs.Cut.{HasRoomFor, rows_in}

pub rows-length : (words n : ℕ) (cells : List ℤ) → length (rows_in words n cells) ≡ n
rows-length words zero cells = refl
rows-length words (suc n) cells = ap suc (rows-length words n (drop words cells))

-- a row lies within the cells
pub row-fits : (words n i size : ℕ) → size ≡ n * words → i < n → i * words + words ≤ size
row-fits words n i size e less = let more = mul-le-mul_left words (let a : i + 1 ≤ n = omega arith in a) in omega arith

pub row-at : (words n i : ℕ) (cells : List ℤ) → i < n → slice_get (rows_in words n cells) i ≡ Some (take words (drop (i * words) cells))
row-at words zero i cells less = absurd (omega arith)
row-at words (suc n) zero cells less = let none : 0 ≡ 0 * words = omega arith in ap (λ at. Some (take words (drop at cells))) none
row-at words (suc n) (suc i) cells less =
    let at : words + i * words ≡ suc i * words = omega arith in
    row-at words n i (drop words cells) (omega arith) ∙ (ap (λ c. Some (take words c)) (drop-drop (i * words) words cells) ∙ ap (λ at. Some (take words (drop at cells))) at)

-- one row more
pub rows-more : (words n : ℕ) (cells row : List ℤ) → length cells ≡ n * words → length row ≡ words → rows_in words (suc n) (cells ++ row) ≡ rows_in words n cells ++ row ∷ []
rows-more words zero [] row e long = ap (λ r. r ∷ []) (ap (take words) (sym (append-nil row)) ∙ take_at row [] words long)
rows-more words zero (x ∷ cells) row e long = absurd (omega arith)
rows-more words (suc n) cells row e long =
    let some : words ≤ length cells = omega arith in
    let left : length (drop words cells) ≡ n * words = (let d = length-drop words cells in omega arith) in
    ap₂ (λ (r : List ℤ) (rows : List (List ℤ)). r ∷ rows) (take-append-le words cells row some) (ap (rows_in words (suc n)) (drop-append-le words cells row some) ∙ rows-more words n (drop words cells) row left long)

-- there are few cells
pub few-cells : (words room len : ℕ) (cells : List ℤ) (capacity : ℕ) → HasRoomFor words room len cells capacity → length cells ≤ 2 ^ 34
few-cells words room len cells capacity h =
    let most = mul-le len words (2 ^ 24) 1024 (let a = h.low in let b = h.few in omega arith) h.short in
    let whole = h.whole in
    omega arith

-- one row more fits
pub row-goes-in : (words room len : ℕ) (cells : List ℤ) (capacity : ℕ) → HasRoomFor words room len cells capacity → len < room → length cells + words ≤ capacity
row-goes-in words room len cells capacity h less =
    let fits = row-fits words room len (room * words) refl less in
    let whole = h.whole in
    let all = h.cells_fit in
    omega arith

pub has-room-still : (words room len : ℕ) (cells row after : List ℤ) (capacity larger : ℕ) → HasRoomFor words room len cells capacity → len < room → length row ≡ words → after ≡ cells ++ row → capacity ≤ larger → HasRoomFor words room (len + 1) after larger
has-room-still words room len cells row after capacity larger h less long e most = record {
  short = h.short;
  few = h.few;
  low = omega arith;
  whole = (let size : length after ≡ length cells + length row = ap (λ cs. length cs) e ∙ length-append cells row in let whole = h.whole in omega arith);
  cells_fit = (let all = h.cells_fit in omega arith);
}
