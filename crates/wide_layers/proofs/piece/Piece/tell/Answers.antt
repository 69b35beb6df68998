use Rattle.std.proofs.Common.{rules, ◌≡◌, ◌+◌, ◌*◌, ◌<◌, ◌≤◌, length, take, drop, get_or, vec_len, sym, ap, subst, ◌∙◌, arith}
use Rattle.layer_candidates.proofs.HeldRows.{each-here}
use Rattle.wide_layers.specs.declared.piece.Made.{Made}
use Rattle.wide_layers.specs.Candidates.{Candidate}
use Rattle.wide_layers.specs.Pieces.{PieceView, shown, all_shown, candidate_at}
use Rattle.wide_layers.proofs.Shown.{length-shown, shown-at, row-within}
use Rattle.wide_layers.proofs.piece.Piece.tell.Goals as goal

pub index-made-requires : goal.index-made-requires
index-made-requires c =
    let i = c.self.inside in
    let same : length (all_shown i.words i.parents.items i.made.items i.cells.items) ≡ length c.args.self.now.candidates = ap (λ (v : PieceView). length v.candidates) c.self.view_is in
    let size = length-shown i.words i.parents.items i.made.items i.cells.items in
    let req = c.requires in
    let long : vec_len i.made ≡ length i.made.items = search rules in
    omega (arith, req, same, size, long)

pub is_from-requires : goal.is_from-requires
is_from-requires c =
    let i = c.self.inside in
    let same : length (all_shown i.words i.parents.items i.made.items i.cells.items) ≡ length c.args.self.now.candidates = ap (λ (v : PieceView). length v.candidates) c.self.view_is in
    let size = length-shown i.words i.parents.items i.made.items i.cells.items in
    let req = c.requires in
    let less : c.args.place < length i.made.items = omega (arith, req, same, size) in
    let made = c.index-made.result.now in
    let is : made ≡ get_or i.made.items c.args.place made = c.index-made.ensures in
    let here = each-here (λ (m : Made). m.state + i.words ≤ length i.parents.items) i.made.items c.args.place made c.self.invariant.states less in
    let at : made.state + i.words ≤ length i.parents.items = subst (λ (m : Made). m.state + i.words ≤ length i.parents.items) (sym is) here in
    let slice : length c.as_slice.result.now ≡ length i.parents.items = ap length c.as_slice.ensures.value in
    omega (arith, at, slice)

pub row_of-requires : goal.row_of-requires
row_of-requires c =
    let i = c.self.inside in
    let same : length (all_shown i.words i.parents.items i.made.items i.cells.items) ≡ length c.args.self.now.candidates = ap (λ (v : PieceView). length v.candidates) c.self.view_is in
    let size = length-shown i.words i.parents.items i.made.items i.cells.items in
    let req = c.requires in
    let less : c.args.place < length i.made.items = omega (arith, req, same, size) in
    let row = row-within i.words i.parents.items i.made.items i.cells.items c.args.place c.self.invariant less in
    let slice : length c.as_slice-2.result.now ≡ length i.cells.items = ap length c.as_slice-2.ensures.value in
    omega (arith, row, slice)

pub returns-clause-some : goal.returns-clause-some
returns-clause-some c =
    let i = c.self.inside in
    let same : length (all_shown i.words i.parents.items i.made.items i.cells.items) ≡ length c.args.self.now.candidates = ap (λ (v : PieceView). length v.candidates) c.self.view_is in
    let size = length-shown i.words i.parents.items i.made.items i.cells.items in
    let req = c.requires in
    let less : c.args.place < length i.made.items = omega (arith, req, same, size) in
    let made = c.index-made.result.now in
    let is : made ≡ get_or i.made.items c.args.place made = c.index-made.ensures in
    let row = take i.words (drop (c.args.place * i.words) i.cells.items) in
    let seen : candidate_at c.args.self.now.candidates c.args.place ≡ shown i.words i.parents.items made row =
    ap (λ (v : PieceView). candidate_at v.candidates c.args.place) (sym c.self.view_is)
    ∙ (shown-at i.words i.parents.items i.made.items i.cells.items c.args.place made _ less ∙ ap (λ (m : Made). shown i.words i.parents.items m row) (sym is)) in
    record {
      state_is = ap (λ (x : Candidate). x.state) seen ∙ (ap (λ l. take i.words (drop made.state l)) (sym c.as_slice.ensures.value) ∙ c.is_from.ensures.state c.if-not-is_from.false);
      decision_is = ap (λ (x : Candidate). x.decision) seen ∙ c.is_from.ensures.decision c.if-not-is_from.false;
      gain_is = ap (λ (x : Candidate). x.gain) seen ∙ sym c.extended_of.ensures.gain;
      rank_is = ap (λ (x : Candidate). x.rank) seen ∙ sym c.extended_of.ensures.rank;
      row_is = ap (λ (x : Candidate). x.row) seen ∙ (ap (λ l. take i.words (drop (c.args.place * i.words) l)) (sym c.as_slice-2.ensures.value) ∙ (sym c.row_of.ensures.row ∙ sym c.copy_from_slice.ensures.after));
    }
