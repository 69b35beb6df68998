-- Candidates in their blocks, as they are seen.
use Rattle.std.proofs.Common.{◌≡◌, ℕ, zero, suc, ◌+◌, ◌*◌, ◌<◌, ◌≤◌, ℤ, List, [], ◌∷◌, ◌++◌, length, length-append, mul-le-mul_right, take, drop, get_or, refl, sym, ap, ap₂, subst, ◌∙◌, arith}
use Rattle.std.proofs.lemmas.List.{take_all, drop-drop, length-drop, take-append-le, drop-append-le, nil_from_length}
use Rattle.dp_model.specs.Lists.{Each}
use Rattle.dp_model.proofs.Members.{Each-append, Each-then}
use Rattle.wide_layers.specs.declared.piece.Made.{Made}
use Rattle.wide_layers.specs.Candidates.{Candidate}
use Rattle.wide_layers.specs.Pieces.{with_states, shown, all_shown, IsSized}

pub length-shown : (words : ℕ) (parents : List ℤ) (ms : List Made) (cells : List ℤ) → length (all_shown words parents ms cells) ≡ length ms
length-shown words parents [] cells = refl
length-shown words parents (m ∷ ms) cells = ap suc (length-shown words parents ms (drop words cells))

-- one more candidate, whose row stands after the others
shown-push : (words : ℕ) (parents : List ℤ) (ms : List Made) (cells : List ℤ) (m : Made) (row : List ℤ) → length cells ≡ length ms * words → length row ≡ words
    → all_shown words parents (ms ++ m ∷ []) (cells ++ row) ≡ all_shown words parents ms cells ++ shown words parents m row ∷ []
shown-push words parents [] cells m row size one =
    let none : length cells ≡ 0 = omega (arith, size) in
    subst (λ (cs : List ℤ). all_shown words parents (m ∷ []) (cs ++ row) ≡ shown words parents m row ∷ []) (sym (nil_from_length cells none))
    (ap (λ (r : List ℤ). shown words parents m r ∷ []) (take_all words row (omega (arith, one))))
shown-push words parents (n ∷ ms) cells m row size one =
    let sized : length cells ≡ words + length ms * words = omega (arith, size) in
    let cut = length-drop words cells in
    let rest : length (drop words cells) ≡ length ms * words = omega (arith, cut, sized) in
    ap₂ (λ (r : List ℤ) (l : List Candidate). shown words parents n r ∷ l)
    (take-append-le words cells row (omega (arith, sized)))
    (ap (all_shown words parents (ms ++ m ∷ [])) (drop-append-le words cells row (omega (arith, sized))) ∙ shown-push words parents ms (drop words cells) m row rest one)

state-stays : (words place : ℕ) (parents more : List ℤ) → place + words ≤ length parents → take words (drop place (parents ++ more)) ≡ take words (drop place parents)
state-stays words place parents more fits =
    let cut = length-drop place parents in
    ap (take words) (drop-append-le place parents more (omega arith)) ∙ take-append-le words (drop place parents) more (omega (arith, cut, fits))

-- more states after those of the parents change nothing
shown-more : (words : ℕ) (parents more : List ℤ) (ms : List Made) (cells : List ℤ) → Each (λ (m : Made). m.state + words ≤ length parents) ms
    → all_shown words (parents ++ more) ms cells ≡ all_shown words parents ms cells
shown-more words parents more [] cells h = refl
shown-more words parents more (m ∷ ms) cells h =
    ap₂ (λ (s : List ℤ) (l : List Candidate). with_states m s (take words cells) ∷ l) (state-stays words m.state parents more h.0) (shown-more words parents more ms (drop words cells) h.1)

states-more : (words : ℕ) (parents more : List ℤ) (ms : List Made) → Each (λ (m : Made). m.state + words ≤ length parents) ms → Each (λ (m : Made). m.state + words ≤ length (parents ++ more)) ms
states-more words parents more ms h =
    let size = length-append parents more in
    Each-then (λ (m : Made). m.state + words ≤ length parents) (λ (m : Made). m.state + words ≤ length (parents ++ more)) ms (λ m fits. omega (arith, size, fits)) h

module _ (words : ℕ) (parents more after : List ℤ) (ms ms2 : List Made) (cells cells2 : List ℤ) (m : Made) (row : List ℤ) (h : IsSized words parents ms cells)
    (parents_are : after ≡ parents ++ more) (ms_are : ms2 ≡ ms ++ m ∷ []) (cells_are : cells2 ≡ cells ++ row) (one : length row ≡ words) (fits : m.state + words ≤ length after) where
  -- the piece with one more candidate
  pub pushed-sized : IsSized words after ms2 cells2
  pushed-sized = record {
    rows = (let a = ap length ms_are in let b = ap length cells_are in let c = length-append ms (m ∷ []) in let d = length-append cells row in let e = h.rows in
        let count : length ms2 ≡ length ms + 1 = omega (arith, a, c) in
        subst (λ (n : ℕ). length cells2 ≡ n * words) (sym count) (omega (arith, b, d, e, one)));
    states = subst (Each (λ (m : Made). m.state + words ≤ length after)) (sym ms_are)
        (Each-append (λ (m : Made). m.state + words ≤ length after) ms (m ∷ [])
        (subst (λ (ps : List ℤ). Each (λ (m : Made). m.state + words ≤ length ps) ms) (sym parents_are) (states-more words parents more ms h.states)) (fits, tt));
  }

  pub pushed-shown : (state : List ℤ) → take words (drop m.state after) ≡ state → all_shown words after ms2 cells2 ≡ all_shown words parents ms cells ++ with_states m state row ∷ []
  pushed-shown state is =
      ap₂ (all_shown words after) ms_are cells_are
      ∙ (shown-push words after ms cells m row h.rows one
      ∙ ap₂ (λ (l : List Candidate) (s : List ℤ). l ++ with_states m s row ∷ []) (ap (λ (ps : List ℤ). all_shown words ps ms cells) parents_are ∙ shown-more words parents more ms cells h.states) is)

-- the candidate at a place
pub shown-at : (words : ℕ) (parents : List ℤ) (ms : List Made) (cells : List ℤ) (j : ℕ) (none : Made) (d : Candidate) → j < length ms
    → get_or (all_shown words parents ms cells) j d ≡ shown words parents (get_or ms j none) (take words (drop (j * words) cells))
shown-at words parents [] cells j none d less = absurd (omega arith)
shown-at words parents (m ∷ ms) cells zero none d less =
    let start : 0 ≡ 0 * words = omega arith in
    ap (λ (n : ℕ). shown words parents m (take words (drop n cells))) start
shown-at words parents (m ∷ ms) cells (suc j) none d less =
    let on : words + j * words ≡ suc j * words = omega arith in
    shown-at words parents ms (drop words cells) j none d (omega arith)
    ∙ ap (λ (cs : List ℤ). shown words parents (get_or ms j none) (take words cs)) (drop-drop (j * words) words cells ∙ ap (λ (n : ℕ). drop n cells) on)

-- a row ends within the cells
pub row-within : (words : ℕ) (parents : List ℤ) (ms : List Made) (cells : List ℤ) (j : ℕ) → IsSized words parents ms cells → j < length ms → j * words + words ≤ length cells
row-within words parents ms cells j h less =
    let all : (j + 1) * words ≤ length ms * words = mul-le-mul_right words (omega arith) in
    let rows = h.rows in
    omega (arith, all, rows)
