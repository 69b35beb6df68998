use Rattle.std.proofs.Common.{◌≡◌, ◌+◌, ◌*◌, ◌-◌, ℤ, List, take, drop, length, sym, ◌∙◌, ap, arith, Some, slice_get}
use Rattle.std.specs.Prelude.{vec_capacity}
use Rattle.relaxed_dd.specs.Cut.{CutView}
use Rattle.relaxed_dd.proofs.RowRuns.{few-cells, row-fits, row-at, rows-length}
use Rattle.relaxed_dd.proofs.cut.CutRows.row.Goals as goal

pub overflow_mul-at : goal.overflow_mul-at
overflow_mul-at c =
    let i = c.self.inside in
    let v = c.self.invariant in
    let count : length c.args.self.now.rows ≡ i.len = sym (ap (λ (w : CutView). length w.rows) c.self.view_is) ∙ rows-length i.words i.len i.cells.items in
    let few = few-cells i.words i.room i.len i.cells.items (vec_capacity i.cells) v in
    let fits = row-fits i.words i.len c.args.node (length i.cells.items) v.whole (let r = c.requires in omega arith) in
    omega (arith, few, fits)

pub overflow_add-result : goal.overflow_add-result
overflow_add-result c =
    let i = c.self.inside in
    let v = c.self.invariant in
    let count : length c.args.self.now.rows ≡ i.len = sym (ap (λ (w : CutView). length w.rows) c.self.view_is) ∙ rows-length i.words i.len i.cells.items in
    let few = few-cells i.words i.room i.len i.cells.items (vec_capacity i.cells) v in
    let fits = row-fits i.words i.len c.args.node (length i.cells.items) v.whole (let r = c.requires in omega arith) in
    omega (arith, few, fits)

pub offset_bounds-deref-at : goal.offset_bounds-deref-at
offset_bounds-deref-at c =
    let i = c.self.inside in
    let v = c.self.invariant in
    let count : length c.args.self.now.rows ≡ i.len = sym (ap (λ (w : CutView). length w.rows) c.self.view_is) ∙ rows-length i.words i.len i.cells.items in
    let few = few-cells i.words i.room i.len i.cells.items (vec_capacity i.cells) v in
    let fits = row-fits i.words i.len c.args.node (length i.cells.items) v.whole (let r = c.requires in omega arith) in
    omega (arith, few, fits)

pub slice_bounds-result-end : goal.slice_bounds-result-end
slice_bounds-result-end c =
    let i = c.self.inside in
    let v = c.self.invariant in
    let count : length c.args.self.now.rows ≡ i.len = sym (ap (λ (w : CutView). length w.rows) c.self.view_is) ∙ rows-length i.words i.len i.cells.items in
    let fits = row-fits i.words i.len c.args.node (length i.cells.items) v.whole (let r = c.requires in omega arith) in
    omega (arith, fits, ap (λ (cs : List ℤ). length cs) c.deref.ensures.value)

pub returns : goal.returns
returns c =
    let i = c.self.inside in
    let count : length c.args.self.now.rows ≡ i.len = sym (ap (λ (w : CutView). length w.rows) c.self.view_is) ∙ rows-length i.words i.len i.cells.items in
    let at = c.args.node * i.words in
    let long : i.words ≡ at + i.words - at = omega arith in
    sym (ap (λ (w : CutView). slice_get w.rows c.args.node) c.self.view_is)
    ∙ (row-at i.words i.len c.args.node i.cells.items (let r = c.requires in omega arith)
    ∙ (ap (λ (cs : List ℤ). Some (take i.words (drop at cs))) (sym c.deref.ensures.value) ∙ ap (λ n. Some (take n (drop at c.deref.result.now))) long))
