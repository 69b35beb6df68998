use Rattle.std.proofs.Common.{◌≡◌, ◌+◌, ◌-◌, ℤ, List, length, arith, sym, ap, ◌∙◌, refl, Option, Some}
use Rattle.row_region.specs.Region.{RegionView}
use Rattle.row_region.proofs.Live.{front_live, live_room, live_row, live_size}
use Rattle.row_region.proofs.Writing.{lent_sound, lent_places}
use Rattle.row_region.proofs.region.Region.row_mut.Goals as goal

pub overflow_mul-at : goal.overflow_mul-at
overflow_mul-at c =
    let h = live_room _ _ _ _ _ c.args.id.place c.requires.0 c.self.invariant.0.chained (front_live _ _ c.args.id.place c.requires.0 (rw (← c.self.view_is) at c.requires.1)) in
    let a = c.self.inside.cells.ok.0 in let s = c.self.inside.cells.small in
    omega arith

pub part_of-requires : goal.part_of-requires
part_of-requires c =
    let h = live_room _ _ _ _ _ c.args.id.place c.requires.0 c.self.invariant.0.chained (front_live _ _ c.args.id.place c.requires.0 (rw (← c.self.view_is) at c.requires.1)) in
    let a = c.self.inside.cells.ok.0 in
    omega arith

pub invariant_of-self-lent : goal.invariant_of-self-lent
invariant_of-self-lent c = λ w.
    let i = c.self.inside in
    let live = rw (← c.self.view_is) at c.requires.1 in (
      lent_sound i.cells.items i.words i.free.made i.count i.free.fresh i.free.first i.free.given c.args.id.place i.cells.len c.requires.0 w c.self.invariant.0 live i.cells.ok.0,
      c.self.invariant.1,
    )

pub returns : goal.returns
returns c =
    let i = c.self.inside in
    let live = rw (← c.self.view_is) at c.requires.1 in
    let front = front_live _ _ c.args.id.place c.requires.0 live in
    let row = live_row _ _ _ _ _ c.args.id.place c.requires.0 c.self.invariant.0.chained front in
    let e : c.part_of.result.now ≡ c.requires.0 = c.part_of.ensures.value ∙ row in (
      (
        refl,
        λ w. rw (← c.self.view_is) (ap (λ (l : List (Option (List ℤ))). record { words = i.words; rows = l; spare = i.free.given + (i.count - i.free.fresh) })
            (lent_places i.cells.items i.words i.free.made i.count i.free.fresh i.free.first i.free.given c.args.id.place i.cells.len c.requires.0 w c.self.invariant.0 live i.cells.ok.0)),
      ),
      record {
        writes_back = tt;
        row = record {
          found = c.requires.1 ∙ ap (λ (l : List ℤ). Some (Some l)) (sym e);
          size = ap length e ∙ live_size _ _ _ _ _ c.args.id.place c.requires.0 c.self.invariant.0.chained front ∙ ap (λ (r : RegionView). r.words) c.self.view_is;
        };
      },
    )
