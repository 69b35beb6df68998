use Rattle.std.proofs.Common.{◌≡◌, length, get_or, List, ℤ, pos, ◌∙◌, ap, arith}
use Rattle.std.proofs.lemmas.Int.{of_z-to_z}
use Rattle.std.specs.Int.{w64, cast_signed, cast_unsigned}
use Rattle.fringe.specs.Slots.{own_fold}
use Rattle.fringe.proofs.Folds.{fold_small}
use Rattle.fringe.proofs.Keys.{some_of, live_of, row_of}
use Rattle.fringe.proofs.reindexing.fold_in.Goals as goal

pub row-requires : goal.row-requires
row-requires c =
    let o = some_of _ c.requires.there in
    live_of c.args.slots.now c.args.keys.now c.args.slot o.0 c.requires.keyed o.1

pub bounds-row-0 : goal.bounds-row-0
bounds-row-0 c =
    let o = some_of _ c.requires.there in
    let key = row_of c.args.slots.now c.args.keys.now c.args.slot o.0 c.row.result.now c.requires.keyed o.1 c.row.ensures in
    let long = ap length key in
    omega arith

pub returns : goal.returns
returns c o at =
    let key = row_of c.args.slots.now c.args.keys.now c.args.slot o c.row.result.now c.requires.keyed at c.row.ensures in
    let back : cast_unsigned w64 (cast_signed w64 (own_fold o)) ≡ own_fold o = of_z-to_z w64 (own_fold o) (fold_small (length o.subproblem.decisions) o.subproblem.row) in
    c.cast_unsigned.ensures ∙ ap (λ (l : List ℤ). cast_unsigned w64 (cast_signed w64 (cast_unsigned w64 (get_or l 0 (pos 0))))) key
    ∙ ap (λ n. cast_unsigned w64 (cast_signed w64 n)) back ∙ back
