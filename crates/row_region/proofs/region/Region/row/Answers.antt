use Rattle.std.proofs.Common.{◌≡◌, ℕ, ◌+◌, ◌-◌, ◌*◌, ℤ, List, length, arith, sym, ap, ◌∙◌, rules, take, drop, Some}
use Rattle.row_region.specs.Region.{RegionView}
use Rattle.row_region.proofs.Live.{front_live, live_room, live_row, live_size}
use Rattle.row_region.proofs.region.Region.row.Goals as goal

pub overflow_mul-at : goal.overflow_mul-at
overflow_mul-at c =
    let h = live_room _ _ _ _ _ c.args.id.place c.requires.0 c.self.invariant.0.chained (front_live _ _ c.args.id.place c.requires.0 (rw (← c.self.view_is) at c.requires.1)) in
    let a = c.self.inside.cells.ok.0 in let s = c.self.inside.cells.small in
    omega arith

pub overflow_add-result : goal.overflow_add-result
overflow_add-result c =
    let h = live_room _ _ _ _ _ c.args.id.place c.requires.0 c.self.invariant.0.chained (front_live _ _ c.args.id.place c.requires.0 (rw (← c.self.view_is) at c.requires.1)) in
    let t = c.deref.type_inv.0 in let v = c.deref.ensures.len in let a = c.self.inside.cells.ok.0 in
    omega arith

pub offset_bounds-deref-at : goal.offset_bounds-deref-at
offset_bounds-deref-at c =
    let h = live_room _ _ _ _ _ c.args.id.place c.requires.0 c.self.invariant.0.chained (front_live _ _ c.args.id.place c.requires.0 (rw (← c.self.view_is) at c.requires.1)) in
    let t = c.deref.type_inv.1 in let v = c.deref.ensures.len in let a = c.self.inside.cells.ok.0 in
    omega arith

pub slice_bounds-result-end : goal.slice_bounds-result-end
slice_bounds-result-end c =
    let h = live_room _ _ _ _ _ c.args.id.place c.requires.0 c.self.invariant.0.chained (front_live _ _ c.args.id.place c.requires.0 (rw (← c.self.view_is) at c.requires.1)) in
    let t = c.deref.type_inv.1 in let v = c.deref.ensures.len in let a = c.self.inside.cells.ok.0 in
    search rules

pub returns : goal.returns
returns c =
    let live = front_live _ _ c.args.id.place c.requires.0 (rw (← c.self.view_is) at c.requires.1) in
    let at = c.args.id.place * c.self.inside.words in
    let words = c.self.inside.words in
    let n : at + words - at ≡ words = omega arith in
    let row = live_row _ _ _ _ _ c.args.id.place c.requires.0 c.self.invariant.0.chained live in
    let e : take (at + words - at) (drop at c.deref.result.now) ≡ c.requires.0 =
    ap (λ (k : ℕ). take k (drop at c.deref.result.now)) n ∙ ap (λ (l : List ℤ). take words (drop at l)) c.deref.ensures.value ∙ row in
    record {
      found = c.requires.1 ∙ ap (λ (l : List ℤ). Some (Some l)) (sym e);
      size = ap length e ∙ live_size _ _ _ _ _ c.args.id.place c.requires.0 c.self.invariant.0.chained live ∙ ap (λ (r : RegionView). r.words) c.self.view_is;
    }
