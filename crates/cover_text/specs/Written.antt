-- Covers that a text can hold, and that they are read back.
use Rattle.std.specs.Prelude.{◌≡◌, ℕ, ◌<◌, ◌-◌, ◌^◌, ℤ, pos, neg_ℤ, ◌≤ℤ◌, List, length, Option, Some, None, Ok}
use Rattle.bound_cover.specs.Clamping.{IsWritable}
use Rattle.bound_cover.specs.Covers.{CoverRow}
use Rattle.bound_cover.specs.declared.cover.CoverArc.{CoverArc}
use Rattle.dp_model.specs.Lists.{Each}
use Rattle.cover_text.specs.Heads.{HeadView, head_at}
use Rattle.cover_text.specs.Instances.{parted}
use Rattle.cover_text.specs.Printed.{printed_cover}
use Rattle.cover_text.specs.Sections.{sections_at}
use Rattle.cover_text.specs.Texts.{text_of}

-- a number of 64 bits
pub record IsWord (z : ℤ) : Type 0 where
  pub low : neg_ℤ (pos (2 ^ 63)) ≤ℤ z
  pub high : z ≤ℤ pos (2 ^ 63 - 1)

-- a target of 32 bits, or none
abbrev pub IsTarget : Option ℕ → Type 0
IsTarget None = Unit {0}
IsTarget (Some row) = row < 2 ^ 32

-- decisions and targets of 32 bits
pub record IsArc (arc : CoverArc) : Type 0 where
  pub decision : arc.decision < 2 ^ 32
  pub target : IsTarget arc.target

-- arcs that may be written, or no arc part
abbrev pub AreArcs : Option (List CoverArc) → Type 0
AreArcs None = Unit {0}
AreArcs (Some arcs) = Each IsArc arcs

-- what every row in memory keeps: words of 64 bits, and arcs with decisions and targets of 32 bits
pub record IsKeptRow (row : CoverRow) : Type 0 where
  pub words : Each IsWord row.words
  pub arcs : AreArcs row.arcs

-- what every layer in memory keeps: fewer than 2^32 such rows
pub record IsKeptLayer (layer : List CoverRow) : Type 0 where
  pub few : length layer < 2 ^ 32
  pub rows : Each IsKeptRow layer

-- a row with a bound that is none or from -2^62 to 2^62, and with words of 64 bits
pub record IsWrittenRow (row : CoverRow) : Type 0 where
  pub bound : IsWritable row.bound
  pub words : Each IsWord row.words
  pub arcs : AreArcs row.arcs

-- fewer than 2^32 of them
pub record IsWrittenLayer (layer : List CoverRow) : Type 0 where
  pub few : length layer < 2 ^ 32
  pub rows : Each IsWrittenRow layer

-- fewer than 2^64 such layers
pub record IsWritten (cover : List (List CoverRow)) : Type 0 where
  pub few : length cover < 2 ^ 64
  pub layers : Each IsWrittenLayer cover

-- the printed sections of a cover are read as that cover
abbrev pub SectionsAreRead : Type 0
SectionsAreRead = (cover : List (List CoverRow)) → IsWritten cover → sections_at (printed_cover cover) ≡ Ok cover

-- after what is read before them they are the cover of the text
abbrev pub TextsAreRead : Type 0
TextsAreRead = (bytes instance : List ℕ) (head : HeadView) (cover : List (List CoverRow)) → IsWritten cover
    → head_at bytes ≡ Ok head → parted bytes head.size.line head.size.bytes ≡ Ok (instance, printed_cover cover)
    → text_of bytes ≡ Ok (record { model = head.model; part = head.part; best = head.claim.best; within = head.claim.within; assignment = head.claim.assignment; instance = instance; cover = cover })
