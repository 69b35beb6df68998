use Rattle.std.proofs.Common.{◌≡◌, ◌<◌, length, get_or, ap, subst, arith}
use Rattle.std.proofs.lemmas.List.{get_or_default}
use Rattle.wide_layers.specs.Pieces.{PieceView, piece_at, candidate_at, IsTold}
use Rattle.wide_layers.proofs.hand.Hand.recall.Goals as goal

pub returns-clause-some : goal.returns-clause-some
returns-clause-some c =
    let ps = c.args.self.now.pieces.now in
    let i = c.next_place-place.result.piece in
    let j = c.next_place-place.result.candidate in
    let low : i < length ps = (let t = c.if-place-self.false in omega arith) in
    let p = c.index-self-place-2.result in
    let same : get_or ps i p ≡ piece_at ps i = get_or_default ps i p _ low in
    let first : get_or ps i c.index-self-place.result ≡ piece_at ps i = get_or_default ps i c.index-self-place.result _ low in
    let within : j < length (piece_at ps i).candidates = (let t = c.if-place-len.false in let e = c.len.ensures in let n = ap (λ (v : PieceView). length v.candidates) first in omega (arith, t, e, n)) in
    record {
      piece = i;
      place = j;
      piece_within = low;
      within = within;
      told = subst (λ (v : PieceView). IsTold (candidate_at v.candidates j) c.args.s.now c.args.d c.in_ok-told.told.gain c.in_ok-told.told.rank c.tell.new.out) same c.in_ok-told.ensures.some;
    }
