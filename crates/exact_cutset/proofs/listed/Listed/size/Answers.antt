use Rattle.std.proofs.Common.{◌≡◌, ap, arith}
use Rattle.dp_laws.specs.Children.{children_size}
use Rattle.exact_cutset.specs.Seen.{ChildrenView}
use Rattle.exact_cutset.specs.Stored.{shown_subs}
use Rattle.exact_cutset.proofs.Sized.{shown-size, few-decisions}
use Rattle.exact_cutset.proofs.listed.Listed.size.Goals as goal

pub overflow_mul-result-2 : goal.overflow_mul-result-2
overflow_mul-result-2 c =
    let i = c.self.inside in
    let v = c.self.invariant in
    let few = few-decisions i.vars i.places.items i.paths.items v.vars_most (let a = v.few in let b = v.room_most in omega arith) v.depths v.paths_are in
    omega (arith, few, c.len-2.ensures, i.paths.ok.0)

pub overflow_add-result-2 : goal.overflow_add-result-2
overflow_add-result-2 c =
    let i = c.self.inside in
    let v = c.self.invariant in
    let few = few-decisions i.vars i.places.items i.paths.items v.vars_most (let a = v.few in let b = v.room_most in omega arith) v.depths v.paths_are in
    omega (arith, few, v.few, v.room_most, c.len.ensures, c.len-2.ensures, i.places.ok.0, i.paths.ok.0)

pub returns : goal.returns
returns c =
    let i = c.self.inside in
    let v = c.self.invariant in
    let one = shown-size i.words i.places.items i.rows.items i.paths.items v.paths_are in
    let subs : children_size (shown_subs i.words i.places.items i.rows.items i.paths.items) ≡ children_size c.args.self.now.subs = ap (λ (w : ChildrenView). children_size w.subs) c.self.view_is in
    omega (arith, one, subs, c.len.ensures, c.len-2.ensures, i.places.ok.0, i.paths.ok.0)
