use Rattle.std.proofs.Common.{◌≡◌, ◌+◌, ◌-◌, ◌∙◌, ap, arith, drop, length-append, length-drop, sym, vec_len}
use Rattle.std.specs.Io.KnownBytes.{prepend_known}
use Rattle.std.proofs.lemmas.List.{take-append-le}
use Rattle.std.proofs.lemmas.Result.{err_from_is_err_and}
use Rattle.streams.proofs.Telling.{Skips-read}
use Rattle.streams.proofs.reading.read_piece.Goals as goal

pub returns-then-n-room-clause-err : goal.returns-then-n-room-clause-err
returns-then-n-room-clause-err g c =
    let rest = drop c.min-asked.result c.args.piece.now in
    let most : c.in_ok-n.n ≡ (c.args.limit - vec_len c.args.bytes.now) + 1 = omega (arith, c.in_ok-n.ensures.bound, length-append c.read.new.into rest, length-drop c.min-asked.result c.args.piece.now) in
    (c.in_ok-n.n, most, Skips-read c.read.new.into c.in_ok-n.n _ _ c.in_ok-n.ensures.bound c.in_ok-n.ensures.bytes)

pub returns-in_err-extend_from_slice-clause-err : goal.returns-in_err-extend_from_slice-clause-err
returns-in_err-extend_from_slice-clause-err g c =
    let given = err_from_is_err_and c.from_residual-in_err-extend_from_slice.result c.from_residual-in_err-extend_from_slice.ensures.1 in
    rw (given.1, given.2) (c.in_ok-n.n, omega arith, Skips-read c.read.new.into c.in_ok-n.n _ _ c.in_ok-n.ensures.bound c.in_ok-n.ensures.bytes)

pub returns-clause-bytes : goal.returns-clause-bytes
returns-clause-bytes g c =
    c.in_ok-n.ensures.bytes
    ∙ ap (λ bytes. prepend_known bytes (g.S.Source.left c.read.new.self)) (sym (take-append-le c.in_ok-n.n c.read.new.into (drop c.min-asked.result c.args.piece.now) c.in_ok-n.ensures.bound))
