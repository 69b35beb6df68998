use Rattle.std.proofs.Common.{rules, ◌≡◌, ℕ, List, [], ◌∷◌, ◌++◌, length, take, drop, sym, ap, subst, ◌∙◌, arith}
use Rattle.wide_layers.specs.declared.piece.Made.{Made}
use Rattle.wide_layers.specs.Candidates.{Candidate}
use Rattle.wide_layers.specs.Pieces.{PieceView, with_states}
use Rattle.wide_layers.proofs.Shown.{pushed-sized, pushed-shown}
use Rattle.wide_layers.proofs.piece.Piece.push.Goals as goal

pub invariant_of-self-2 : goal.invariant_of-self-2
invariant_of-self-2 c =
    let i = c.self.inside in let p = c.enter-place in
    let m : Made = record { state = p.result; parent = c.args.parent; decision = c.args.decision; gain = c.args.extended.gain; rank = c.args.extended.rank } in
    let words : i.words ≡ c.args.self.now.words = ap (λ (v : PieceView). v.words) c.self.view_is in
    let one : length c.args.row.now ≡ i.words = c.requires.row ∙ sym words in
    let size : length c.args.state.now ≡ i.words = c.requires.state ∙ sym words in
    let parents : c.reserve-3.new.self.items ≡ i.parents.items = search rules in
    let cells : c.reserve-2.new.self.items ≡ i.cells.items = search rules in
    let pushed : c.push_reserved.new.self.items ≡ i.made.items ++ m ∷ [] = search rules in
    let within = p.ensures.within in
    pushed-sized i.words i.parents.items p.ensures.kept.0 p.new.parents.items i.made.items c.push_reserved.new.self.items i.cells.items c.put.new.cells.items m c.args.row.now c.self.invariant
    (p.ensures.kept.1 ∙ ap (λ l. l ++ p.ensures.kept.0) parents) pushed (c.put.ensures ∙ ap (λ l. l ++ c.args.row.now) cells) one (omega (arith, within, size))

pub returns-clause-ok : goal.returns-clause-ok
returns-clause-ok c =
    let i = c.self.inside in let p = c.enter-place in
    let m : Made = record { state = p.result; parent = c.args.parent; decision = c.args.decision; gain = c.args.extended.gain; rank = c.args.extended.rank } in
    let words : i.words ≡ c.args.self.now.words = ap (λ (v : PieceView). v.words) c.self.view_is in
    let one : length c.args.row.now ≡ i.words = c.requires.row ∙ sym words in
    let size : length c.args.state.now ≡ i.words = c.requires.state ∙ sym words in
    let parents : c.reserve-3.new.self.items ≡ i.parents.items = search rules in
    let cells : c.reserve-2.new.self.items ≡ i.cells.items = search rules in
    let pushed : c.push_reserved.new.self.items ≡ i.made.items ++ m ∷ [] = search rules in
    let within = p.ensures.within in
    ap (λ (l : List Candidate). let v : PieceView = record { words = i.words; candidates = l } in v)
    (pushed-shown i.words i.parents.items p.ensures.kept.0 p.new.parents.items i.made.items c.push_reserved.new.self.items i.cells.items c.put.new.cells.items m c.args.row.now c.self.invariant
    (p.ensures.kept.1 ∙ ap (λ l. l ++ p.ensures.kept.0) parents) pushed (c.put.ensures ∙ ap (λ l. l ++ c.args.row.now) cells) one (omega (arith, within, size))
    c.args.state.now (subst (λ (n : ℕ). take n (drop p.result p.new.parents.items) ≡ c.args.state.now) size p.ensures.state))
    ∙ ap (λ (v : PieceView). let w : PieceView = record { words = v.words; candidates = v.candidates ++ with_states m c.args.state.now c.args.row.now ∷ [] } in w) c.self.view_is
