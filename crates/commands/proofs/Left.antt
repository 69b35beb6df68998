-- What a search of a text leaves, as what a search of the input leaves; and what one leaves that goes on with offers.
use Rattle.std.proofs.Common.{◌≡◌, inl, inr, refl, ℕ, ℤ, List, Result, Ok, Err}
use Rattle.std.specs.Prelude.{IsOk, IsOkAnd}
use Rattle.disk.specs.declared.disk.Disk.{Ghosts}
use Rattle.problem_names.specs.declared.ModelName.{ModelName}
use Rattle.part_reports.specs.Reports.{ReportView}
use Rattle.part_text.specs.Reports.{reports_of}
use Rattle.problems.specs.Theories.{theory_of}
use Rattle.answers.specs.Ended.{LeavesAfterReports, LeavesOfSearch, Readings, WasRead, text_limit}
use Rattle.answers.specs.Journals.{Attaches, HasLeftBegun}
use Rattle.answers.specs.Kept.{head_of}
use Rattle.answers.specs.Offers.{parts_told}
use Rattle.answers.specs.OffersRead.{AreOffers}
use Rattle.commands.specs.Journals.{LeavesOfText}

split-ok : {X E : Type 0} (r : Result X E) (A : Type 0) (B : X → Type 0) → IsOkAnd r (λ x. A × B x) → A × IsOkAnd r B
split-ok (Ok x) A B h = h
split-ok (Err e) A B h = absurd h

pub left_search : {D : Type 0} (on : Ghosts D) (name : ModelName) (within : ℤ) (path text : List ℕ) (r : Readings) (before now : D) → WasRead text_limit r text → LeavesOfText on name within path text before now → LeavesOfSearch on name within path r before now
left_search on name within path text r before now read (inl same) = inl same
left_search on name within path text r before now read (inr h) =
    let t = theory_of name in
    let parts = split-ok (t.spelled text) (Attaches on path before now) (λ numbers. HasLeftBegun on (t.program numbers) (head_of t name within numbers) now) h in
    inr (parts.0, (text, read, parts.1))

is-told : {X E : Type 0} (r : Result X E) (P : X → Type 0) → IsOkAnd r P → IsOk r
is-told (Ok x) P h = refl
is-told (Err e) P h = absurd h

pub left_offers : {D : Type 0} (r : Readings) (offers : List ReportView) (Left : Type 0) (before now : D) → AreOffers r offers → Left → LeavesAfterReports r Left before now
left_offers r offers Left before now told left = inr (left, (told.bytes, told.read, is-told (reports_of told.bytes) (λ rs. offers ≡ parts_told rs) told.told))
