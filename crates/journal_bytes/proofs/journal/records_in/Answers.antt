use Rattle.std.proofs.Common.{◌≡◌, ◌+◌, [], ◌∷◌, ◌++◌, length, map, drop, Some, subst, sym, ◌∙◌, ap, arith}
use Rattle.std.proofs.lemmas.List.{drop_more, drop_all, map_push}
use Rattle.journal_bytes.specs.Frames.{Frame}
use Rattle.journal_bytes.specs.Bodies.{record_of}
use Rattle.journal_bytes.specs.Found.{frame}
use Rattle.journal_bytes.specs.Views.{record_view, Fails}
use Rattle.journal_bytes.specs.Journal.{records_from, Refuses}
use Rattle.journal_bytes.proofs.Entries.{goes_on, stops, is_done}
use Rattle.journal_bytes.proofs.journal.records_in.Goals as goal

pub returns-in-Err : goal.returns-in-Err
returns-in-Err c =
    let frames = c.args.frames.now in
    let l = c.loop-one in
    let one = c.one-item.result in
    let f : Frame = frame one in
    let front : drop l.one-index frames ≡ one ∷ drop (l.one-index + 1) frames = drop_more frames l.one-index one (omega arith) ∙ (λ i. sym c.one-item.is i ∷ drop (l.one-index + 1) frames) in
    let body : record { kind = one.kind; body = c.deref.result.now } ≡ f = λ i. record { kind = one.kind; body = c.deref.ensures.value i } in
    let fails : Fails c.in-Err.e (record_of c.args.version f) = subst (λ (g : Frame). Fails c.in-Err.e (record_of c.args.version g)) body c.in-Err.ensures in
    subst (λ x. Refuses x (records_from c.args.version c.args.start (map frame frames))) (sym c.placed.ensures)
    (stops c.args.version c.in-Err.e (map record_view l.records.items) l.at f (map frame (drop l.one-index frames)) (map frame (drop (l.one-index + 1) frames)) (records_from c.args.version c.args.start (map frame frames)) (ap (map frame) front) fails l.invariant)

pub loop-one-preserved : goal.loop-one-preserved
loop-one-preserved c =
    let frames = c.args.frames.now in
    let l = c.loop-one in
    let one = c.one-item.result in
    let f : Frame = frame one in
    let front : drop l.one-index frames ≡ one ∷ drop (l.one-index + 1) frames = drop_more frames l.one-index one (omega arith) ∙ (λ i. sym c.one-item.is i ∷ drop (l.one-index + 1) frames) in
    let body : record { kind = one.kind; body = c.deref.result.now } ≡ f = λ i. record { kind = one.kind; body = c.deref.ensures.value i } in
    let reads : record_of c.args.version f ≡ Some (record_view c.in-Ok.record) = ap (record_of c.args.version) (sym body) ∙ c.in-Ok.ensures in
    let pushed : map record_view c.push.new.self.items ≡ map record_view l.records.items ++ record_view c.in-Ok.record ∷ [] = rw c.in_ok-push-in-Ok.ensures.items (map_push _ l.records.items c.in-Ok.record) in
    let next : c.in-Some.next ≡ l.at + (38 + length f.body) = omega (arith, c.in-Some.ensures.1, c.len.ensures) in
    rw pushed (goes_on c.args.version (map record_view l.records.items) l.at c.in-Some.next f (map frame (drop l.one-index frames)) (map frame (drop (l.one-index + 1) frames)) (record_view c.in-Ok.record) (records_from c.args.version c.args.start (map frame frames)) (ap (map frame) front) reads next l.invariant)

pub returns : goal.returns
returns c = is_done c.args.version (map record_view c.loop-one.records.items) c.loop-one.at (map frame (drop c.loop-one.one-index c.args.frames.now)) (records_from c.args.version c.args.start (map frame c.args.frames.now)) (ap (map frame) (drop_all c.loop-one.one-index c.args.frames.now c.loop-one-test.false)) c.loop-one.invariant
