use Rattle.std.proofs.lemmas.Result.{err_from_is_err_and}
use Rattle.streams.proofs.Telling.{gone_more}
use Rattle.streams.proofs.reading.read_all.Goals as goal

-- the bytes of the earlier pieces, and then those of the last one, are gone
pub returns-in_err-read_piece-clause-err : goal.returns-in_err-read_piece-clause-err
returns-in_err-read_piece-clause-err g c =
    let given = err_from_is_err_and c.from_residual-in_err-read_piece.result c.from_residual-in_err-read_piece.ensures.1 in
    rw (given.1, given.2)
    (gone_more _ _ _ c.loop-bytes.bytes.items _ _ _
    c.loop-bytes.invariant.bytes c.loop-bytes.bytes.ok.0 c.loop-bytes.invariant.short c.in_err-read_piece.ensures.err)
