use Rattle.std.proofs.Common.{◌≡◌, ◌++◌, ◌∷◌, [], map}
use Rattle.std.proofs.lemmas.Result.{err_from_is_err_and}
use Rattle.std.proofs.lemmas.List.{map_push}
use Rattle.journal_bytes.specs.Bodies.{listed_at, many}
use Rattle.journal_bytes.specs.Views.{listed_view}
use Rattle.journal_bytes.proofs.Loop.{goes_on, stops, is_done}
use Rattle.journal_bytes.proofs.body.listed_in.Goals as goal

pub returns-in_err-one : goal.returns-in_err-one
returns-in_err-one c =
    let p = err_from_is_err_and c.from_residual.result c.from_residual.ensures.1 in
    rw (p.1, p.2) (stops listed_at c.in_err-one.field-0.0 (map listed_view c.loop.listed.items) c.args.count c.loop.counter c.loop.rest.now (many listed_at c.args.count c.args.bytes.now) c.loop-test.true c.in_err-one.ensures c.loop.invariant)

pub loop-preserved : goal.loop-preserved
loop-preserved c =
    let n = c.in_ok-one.one in
    let e : map listed_view c.push.new.self.items ≡ map listed_view c.loop.listed.items ++ listed_view n ∷ [] = rw c.in_ok-push.ensures.items (map_push _ c.loop.listed.items n) in
    rw e (goes_on listed_at (map listed_view c.loop.listed.items) c.args.count c.loop.counter c.loop.rest.now (listed_view n) c.in_ok-one.after.now (many listed_at c.args.count c.args.bytes.now) c.loop-test.true c.in_ok-one.ensures c.loop.invariant)

pub returns : goal.returns
returns c = is_done listed_at (map listed_view c.loop.listed.items) c.args.count c.loop.counter c.loop.rest.now (many listed_at c.args.count c.args.bytes.now) c.loop-test.false c.loop.invariant
