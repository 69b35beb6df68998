use Rattle.std.proofs.Common.{◌+◌, ◌+ℤ◌, drop, length, w64, arith, ap, sym, ◌∙◌}
use Rattle.std.specs.Int.{cast_unsigned, int_wrap}
use Rattle.std.specs.Prelude.{◌*ℤ◌}
use Rattle.std.proofs.lemmas.List.{length-drop, length-map}
use Rattle.pair_rows.specs.Shown.{instance_in}
use Rattle.pair_rows.specs.Hashes.{base, polynomial}
use Rattle.pair_rows.specs.Pairs.{row_at, rows_of}
use Rattle.pair_rows.specs.Shifts.{shift_of, shifts_of}
use Rattle.pair_rows.proofs.Cells.{benefit-read}
use Rattle.pair_rows.proofs.Layers.{row-fits, decision-few, none-before, state-of}
use Rattle.pair_rows.proofs.Hashing.{hash-step, open-first, wrapped-read}
use Rattle.pair_rows.proofs.rows.PairRows.next_hash.Goals as goal

pub change-requires : goal.change-requires
change-requires c = record {
  variable = c.requires.allowed.layer;
  decision = decision-few (instance_in c.args.self.now) c.args.k c.args.d c.args.self.now.kept c.requires.allowed.choice;
}

pub returns : goal.returns
returns c =
    let i = instance_in c.args.self.now in
    let k = c.args.k in
    let d = c.args.d in
    let s = c.args.s.now in
    let row = row_at (rows_of (length i.units) i.pairs) k in
    let layer = c.requires.allowed.layer in
    let fits = row-fits i k s d c.args.self.now.kept c.requires.state c.requires.allowed in
    let entries = fits.entries in
    let none = none-before i k s (state-of i k s (omega arith) c.requires.state) in
    let first = (benefit-read s k (omega arith) fits.rank).read in
    let before = polynomial (drop (k + 1) s) *ℤ base in
    c.next_hash.ensures (polynomial (drop (k + 1) s)) (polynomial (shifts_of d row))
    (c.requires.hash ∙ ap (λ z. cast_unsigned w64 (int_wrap w64 z)) (open-first s k (omega arith) ∙ ap (λ z. before +ℤ z) (sym first))) (wrapped-read c.change.result (polynomial (shifts_of d row)) c.change.ensures ∙ c.change.ensures)
    ∙ ap (λ z. cast_unsigned w64 (int_wrap w64 z)) (sym (hash-step row s k d (omega arith) none (omega (arith, length-drop (k + 1) s, length-map row (shift_of d)))))
