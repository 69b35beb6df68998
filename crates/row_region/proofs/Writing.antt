-- A live row is written.
use Rattle.std.proofs.Common.{◌≡◌, ℕ, ◌+◌, ◌-◌, ◌*◌, ◌≤◌, ℤ, pos, List, ◌++◌, length, get_or, set, take, drop, replicate, Option, Some, None, slice_get, sym, ap, ◌∙◌, arith}
use Rattle.std.proofs.lemmas.List.{length-append, length-take-le, length-drop, get_or_append_left, get_or-append_right, get_or-take, get_or-drop, drop_at, take_at}
use Rattle.std.proofs.lemmas.Option.{get_or_from_slice_get}
use Rattle.row_region.specs.Region.{refilled, row_or}
use Rattle.row_region.specs.Parts.{written}
use Rattle.row_region.specs.Layout.{row_at, slots, places, IsSound}
use Rattle.row_region.specs.Popping.{SameBut}
use Rattle.row_region.proofs.Rows.{length-row}
use Rattle.row_region.proofs.Chains.{write_chained, write_slots}
use Rattle.row_region.proofs.Live.{live_room, live_row, live_apart, live_within, front_live, front_set}

length-refilled : (words : ℕ) (old new : List ℤ) → length old ≡ words → length (refilled words old new) ≡ words
length-refilled words old new long = length-take-le words (new ++ drop (length new) old) (omega (arith, length-append new (drop (length new) old), length-drop (length new) old))

module _ (cells : List ℤ) (words p : ℕ) (w : List ℤ) (room : p * words + words ≤ length cells) where
  abbrev at : ℕ
  at = p * words

  abbrev part : List ℤ
  part = refilled words (row_at cells words p) w

  abbrev following : List ℤ
  following = drop words (drop at cells)

  long : length part ≡ words
  long = length-refilled words (row_at cells words p) w (length-row cells words p room)

  front : length (take at cells) ≡ at
  front = length-take-le at cells (omega arith)

  pub length-written : length (written at words cells w) ≡ length cells
  length-written =
      let a = length-append (take at cells) (part ++ following) in
      let b = length-append part following in
      let c = length-drop words (drop at cells) in
      let d = length-drop at cells in
      let e = long in let f = front in
      omega arith

  written_after : (k : ℕ) → at + words ≤ k → get_or (written at words cells w) k (pos 0) ≡ get_or cells k (pos 0)
  written_after k h =
      let n : at + (words + (k - at - words)) ≡ k = omega arith in
      get_or-append_right (take at cells) (part ++ following) at k (pos 0) front (omega arith)
      ∙ get_or-append_right part following words (k - at) (pos 0) long (omega arith)
      ∙ get_or-drop words (drop at cells) (k - at - words) (pos 0)
      ∙ get_or-drop at cells (words + (k - at - words)) (pos 0)
      ∙ ap (λ (j : ℕ). get_or cells j (pos 0)) n

  pub written_but : SameBut cells (written at words cells w) words p
  written_but = record {
    size = length-written;
    before = λ k h. get_or_append_left (take at cells) (part ++ following) (pos 0) k (let f = front in omega arith) ∙ get_or-take at cells k (pos 0) h;
    after = written_after;
  }

  pub written_row : row_at (written at words cells w) words p ≡ part
  written_row = ap (take words) (drop_at (take at cells) (part ++ following) at front) ∙ take_at part following words long

  -- the vector has what was written
  pub written_whole : (len : ℕ) → len ≡ length cells → take len (written at words cells w ++ drop (length (written at words cells w)) cells) ≡ written at words cells w
  written_whole len e = take_at (written at words cells w) (drop (length (written at words cells w)) cells) len (length-written ∙ sym e)

module _ (cells : List ℤ) (words made count fresh free given p len : ℕ) (row w : List ℤ) (sound : IsSound cells words made count fresh free given) (live : slice_get (places cells words count fresh free given) p ≡ Some (Some row)) (same : len ≡ length cells) where
  abbrev now : List ℤ
  now = take len (written (p * words) words cells w ++ drop (length (written (p * words) words cells w)) cells)

  taken : slice_get (slots cells words fresh free given) p ≡ Some (Some row)
  taken = front_live (slots cells words fresh free given) (count - fresh) p row live

  is_written : now ≡ written (p * words) words cells w
  is_written = written_whole cells words p w (live_room cells words fresh free given p row sound.chained taken) len same

  pub lent_sound : IsSound now words made count fresh free given
  lent_sound =
      let room = live_room cells words fresh free given p row sound.chained taken in
      let but = written_but cells words p w room in
      rw is_written (record {
        chained = write_chained cells (written (p * words) words cells w) words fresh free given p sound.chained but (live_apart cells words fresh free given p row sound.chained taken);
        within = sound.within;
        enough = sound.enough;
        few = sound.few;
        size = but.size ∙ sound.size;
      })

  pub lent_places : places now words count fresh free given ≡ set (places cells words count fresh free given) p (Some (refilled words (row_or (get_or (places cells words count fresh free given) p None)) w))
  lent_places =
      let room = live_room cells words fresh free given p row sound.chained taken in
      let within = live_within cells words fresh free given p row sound.chained taken in
      let but = written_but cells words p w room in
      let old : row_or (get_or (places cells words count fresh free given) p None) ≡ row_at cells words p =
      ap row_or (get_or_from_slice_get (places cells words count fresh free given) p (Some row) None live) ∙ sym (live_row cells words fresh free given p row sound.chained taken) in
      ap (λ (l : List ℤ). places l words count fresh free given) is_written
      ∙ (ap (λ (l : List (Option (List ℤ))). l ++ replicate (count - fresh) None) (write_slots cells (written (p * words) words cells w) words fresh free given p sound.chained but (live_apart cells words fresh free given p row sound.chained taken) within)
      ∙ (sym (front_set cells words fresh free given p (Some (row_at (written (p * words) words cells w) words p)) (replicate (count - fresh) None) within)
      ∙ ap (λ (l : List ℤ). set (places cells words count fresh free given) p (Some l)) (written_row cells words p w room ∙ ap (λ (l : List ℤ). refilled words l w) (sym old))))
