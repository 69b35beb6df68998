-- How candidates lie in the blocks of a piece, and how they are seen.
use Rattle.std.specs.Prelude.{◌≡◌, ℕ, ◌+◌, ◌*◌, ◌<◌, ◌≤◌, ℤ, pos, List, [], ◌∷◌, length, take, drop, slice_index_or}
use Rattle.dp_model.specs.Dp.{Dp}
use Rattle.dp_model.specs.Lists.{Each}
use Rattle.wide_layers.specs.declared.piece.Made.{Made}
use Rattle.wide_layers.specs.Candidates.{Candidate, IsRight}

-- rows of this many cells, and the candidates
pub record PieceView : Type 0 where
  pub words : ℕ
  pub candidates : List Candidate

-- a candidate with its parent's state and its own
abbrev pub with_states : Made → List ℤ → List ℤ → Candidate
with_states m state row = record { parent = m.parent; state = state; decision = m.decision; gain = m.gain; row = row; rank = m.rank }

-- a candidate whose parent's state stands among those of the parents
abbrev pub shown : ℕ → List ℤ → Made → List ℤ → Candidate
shown words parents m row = with_states m (take words (drop m.state parents)) row

-- the candidates whose rows stand one after another in the cells
abbrev pub all_shown : ℕ → List ℤ → List Made → List ℤ → List Candidate
all_shown words parents [] cells = []
all_shown words parents (m ∷ ms) cells = shown words parents m (take words cells) ∷ all_shown words parents ms (drop words cells)

-- each candidate has its row, and its parent's state stands among those of the parents
pub record IsSized (words : ℕ) (parents : List ℤ) (made : List Made) (cells : List ℤ) : Type 0 where
  pub rows : length cells ≡ length made * words
  pub states : Each (λ (m : Made). m.state + words ≤ length parents) made

-- the candidate at the place
abbrev pub candidate_at : List Candidate → ℕ → Candidate
candidate_at candidates j = slice_index_or candidates j (record { parent = 0; state = []; decision = 0; gain = pos 0; row = []; rank = pos 0 })

-- the candidate is the one from the state by the decision, with this gain, rank and row
pub record IsTold (c : Candidate) (s : List ℤ) (d : ℕ) (gain rank : ℤ) (row : List ℤ) : Type 0 where
  pub state_is : c.state ≡ s
  pub decision_is : c.decision ≡ d
  pub gain_is : c.gain ≡ gain
  pub rank_is : c.rank ≡ rank
  pub row_is : c.row ≡ row

-- the piece at the place
abbrev pub piece_at : List PieceView → ℕ → PieceView
piece_at pieces i = slice_index_or pieces i (record { words = 0; candidates = [] })

-- some candidate of the pieces is the one from the state by the decision, with this gain, rank and row
pub record AreTold (pieces : List PieceView) (s : List ℤ) (d : ℕ) (gain rank : ℤ) (row : List ℤ) : Type 0 where
  pub piece : ℕ
  pub place : ℕ
  pub piece_within : piece < length pieces
  pub within : place < length (piece_at pieces piece).candidates
  pub told : IsTold (candidate_at (piece_at pieces piece).candidates place) s d gain rank row

-- each candidate of the piece is right
abbrev pub AreRight : Dp → ℕ → PieceView → Type 0
AreRight dp k piece = Each (IsRight dp k) piece.candidates

-- each candidate of all pieces is right
abbrev pub AllRight : Dp → ℕ → List PieceView → Type 0
AllRight dp k pieces = (i j : ℕ) → i < length pieces → j < length (piece_at pieces i).candidates → IsRight dp k (candidate_at (piece_at pieces i).candidates j)
