-- A kept board as its callers see it.
use Rattle.std.specs.Prelude.{ℕ, ◌+◌, ◌-◌, ◌^◌, min, Option, Some, None, option_map}
use Rattle.journal_bytes.specs.declared.tail.Tail.{Tail}
use Rattle.board.specs.View.{BoardView, tag_of as board_tag_of}
use Rattle.kept_board.specs.declared.tag.KeptTag.{KeptTag}

-- the board; the disk, and where its next record goes, where there is a journal; the disk as it was when the board was made; and
-- after how many finished subproblems a snapshot is due
pub record KeptView (D : Type 0) : Type 0 where
  pub board : BoardView
  pub disk : D
  pub tail : Option Tail
  pub made : D
  pub every : ℕ

-- how many subproblems were finished since the last snapshot, where there is a journal
abbrev pub since_of : Option Tail → Option ℕ
since_of tail = option_map (λ t. t.since) tail

-- one more, up to the greatest number of 64 bits
abbrev pub one_more : ℕ → ℕ
one_more n = min (n + 1) (2 ^ 64 - 1)

module _ {D : Type 0} where
  -- the disk at the making, where there is a journal
  abbrev pub journal_made : Option Tail → D → Option D
  journal_made None made = None
  journal_made (Some tail) made = Some made

  -- what stays through a search: what stays of the board, and the disk at the making
  abbrev pub tag_of : KeptView D → KeptTag D
  tag_of k = record { board = board_tag_of k.board; made = journal_made k.tail k.made }
