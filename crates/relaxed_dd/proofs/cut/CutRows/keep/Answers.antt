use Rattle.std.proofs.Common.{◌≡◌, ◌+◌, ◌<◌, ◌++◌, suc, ℕ, ℤ, List, [], ◌∷◌, length, sym, ◌∙◌, ap, arith}
use Rattle.std.specs.Prelude.{vec_capacity}
use Rattle.relaxed_dd.specs.Cut.{CutView, rows_in}
use Rattle.relaxed_dd.proofs.RowRuns.{row-goes-in, has-room-still, rows-length, rows-more}
use Rattle.relaxed_dd.proofs.cut.CutRows.keep.Goals as goal

pub append-requires : goal.append-requires
append-requires c =
    let i = c.self.inside in
    let v = c.self.invariant in
    let words : i.words ≡ c.args.self.now.words = ap (λ (w : CutView). w.words) c.self.view_is in
    let room : i.room ≡ c.args.self.now.room = ap (λ (w : CutView). w.room) c.self.view_is in
    let count : i.len ≡ length c.args.self.now.rows = sym (rows-length i.words i.len i.cells.items) ∙ ap (λ (w : CutView). length w.rows) c.self.view_is in
    let less : i.len < i.room = (let r = c.requires.room in omega arith) in
    let fits = row-goes-in i.words i.room i.len i.cells.items (vec_capacity i.cells) v less in
    let long = c.requires.words in
    omega arith

pub invariant_of-self : goal.invariant_of-self
invariant_of-self c =
    let i = c.self.inside in
    let words : i.words ≡ c.args.self.now.words = ap (λ (w : CutView). w.words) c.self.view_is in
    let room : i.room ≡ c.args.self.now.room = ap (λ (w : CutView). w.room) c.self.view_is in
    let count : i.len ≡ length c.args.self.now.rows = sym (rows-length i.words i.len i.cells.items) ∙ ap (λ (w : CutView). length w.rows) c.self.view_is in
    let less : i.len < i.room = (let r = c.requires.room in omega arith) in
    has-room-still i.words i.room i.len i.cells.items c.args.row.now c.append.new.cells.items (vec_capacity i.cells) (vec_capacity c.append.new.cells) c.self.invariant less (c.requires.words ∙ sym words) c.append.ensures.items c.append.ensures.room

pub returns : goal.returns
returns c =
    let i = c.self.inside in
    let words : i.words ≡ c.args.self.now.words = ap (λ (w : CutView). w.words) c.self.view_is in
    let Rows : ℕ → List ℤ → CutView = λ n cells. record { words = i.words; rows = rows_in i.words n cells; room = i.room } in
    let one : i.len + 1 ≡ suc i.len = omega arith in
    ap (λ n. Rows n c.append.new.cells.items) one
    ∙ (ap (Rows (suc i.len)) c.append.ensures.items
    ∙ (ap (λ rows. record { words = i.words; rows = rows; room = i.room }) (rows-more i.words i.len i.cells.items c.args.row.now c.self.invariant.whole (c.requires.words ∙ sym words))
    ∙ ap (λ (w : CutView). record w { rows = w.rows ++ c.args.row.now ∷ [] }) c.self.view_is))
