use mir.Syntax.{w64}
use mir.Val.{to_z, of_z}
use Rattle.std.proofs.Common.{◌≡◌, ◌<◌, ◌≤◌, ◌++◌, ℤ, [], ◌∷◌, length, sym, ◌∙◌, ap, subst, arith, rules, take, drop}
use Rattle.std.proofs.lemmas.List.{length-map}
use Rattle.std.specs.Prelude.{vec_capacity}
use Rattle.dp_laws.specs.Diagrams.Nodes.{node_at}
use Rattle.layer_build.specs.Layers.{diagram_of}
use Rattle.exact_cutset.specs.declared.child.Child.{Child}
use Rattle.exact_cutset.specs.Seen.{ChildrenView, MayKeep, with_child}
use Rattle.exact_cutset.specs.Stored.{child_place, HasChildren}
use Rattle.exact_cutset.proofs.Kept.{row-long, room-for-row, room-for-path, seen_as, seen-kept, has-one-more, rewritten-length}
use Rattle.exact_cutset.proofs.listed.Listed.keep.Goals as goal

pub append_row-requires : goal.append_row-requires
append_row-requires c =
    let i = c.self.inside in
    let v = c.self.invariant in
    let s = c.args.self.now in
    let o = node_at (diagram_of c.args.space.now) c.args.depth c.args.node in
    let words : i.words ≡ s.words = ap (λ (w : ChildrenView). w.words) c.self.view_is in
    let vars : i.vars ≡ s.vars = ap (λ (w : ChildrenView). w.vars) c.self.view_is in
    let room : i.room ≡ s.room = ap (λ (w : ChildrenView). w.room) c.self.view_is in
    let count : length i.places.items ≡ length s.places = sym (length-map i.places.items child_place) ∙ ap (λ (w : ChildrenView). length w.places) c.self.view_is in
    let may : MayKeep i.words o = subst (λ n. MayKeep n o) (sym words) c.requires.node in
    let less : length i.places.items < i.room = (let r = c.requires.room in omega arith) in
    let deep : c.args.depth ≤ i.vars = (let r = c.requires.depth in omega arith) in
    let long = row-long i.words o c.args.row.now may c.requires.row in
    let fits = room-for-row i.words (length i.places.items) i.room (length i.rows.items) (vec_capacity i.rows) v.rows_are less v.rows_hold in
    omega arith

pub append_path-requires-clause-room : goal.append_path-requires-clause-room
append_path-requires-clause-room c =
    let i = c.self.inside in
    let v = c.self.invariant in
    let s = c.args.self.now in
    let o = node_at (diagram_of c.args.space.now) c.args.depth c.args.node in
    let words : i.words ≡ s.words = ap (λ (w : ChildrenView). w.words) c.self.view_is in
    let vars : i.vars ≡ s.vars = ap (λ (w : ChildrenView). w.vars) c.self.view_is in
    let room : i.room ≡ s.room = ap (λ (w : ChildrenView). w.room) c.self.view_is in
    let count : length i.places.items ≡ length s.places = sym (length-map i.places.items child_place) ∙ ap (λ (w : ChildrenView). length w.places) c.self.view_is in
    let may : MayKeep i.words o = subst (λ n. MayKeep n o) (sym words) c.requires.node in
    let less : length i.places.items < i.room = (let r = c.requires.room in omega arith) in
    let deep : c.args.depth ≤ i.vars = (let r = c.requires.depth in omega arith) in
    room-for-path i.vars c.args.depth i.room (vec_capacity i.paths) i.places.items (length i.paths.items) v.paths_are v.depths deep less v.paths_hold

pub returns : goal.returns
returns c =
    let i = c.self.inside in
    let v = c.self.invariant in
    let s = c.args.self.now in
    let o = node_at (diagram_of c.args.space.now) c.args.depth c.args.node in
    let words : i.words ≡ s.words = ap (λ (w : ChildrenView). w.words) c.self.view_is in
    let vars : i.vars ≡ s.vars = ap (λ (w : ChildrenView). w.vars) c.self.view_is in
    let room : i.room ≡ s.room = ap (λ (w : ChildrenView). w.room) c.self.view_is in
    let count : length i.places.items ≡ length s.places = sym (length-map i.places.items child_place) ∙ ap (λ (w : ChildrenView). length w.places) c.self.view_is in
    let may : MayKeep i.words o = subst (λ n. MayKeep n o) (sym words) c.requires.node in
    let less : length i.places.items < i.room = (let r = c.requires.room in omega arith) in
    let deep : c.args.depth ≤ i.vars = (let r = c.requires.depth in omega arith) in
    let child : Child = record { depth = c.args.depth; node = c.args.node; value = c.value-value.result; bound = c.args.bound } in
    let pushed : c.push_reserved.new.self.items ≡ i.places.items ++ child ∷ [] = (
    let value_is : to_z w64 (of_z w64 c.value-value.result) ≡ c.value-value.result = search rules in
    let bound_is : to_z w64 (of_z w64 c.args.bound) ≡ c.args.bound = search rules in
    c.push_reserved.ensures.items ∙ (ap (λ (x : Child). i.places.items ++ x ∷ []) c.at-child.ensures ∙ (ap (λ (x : ℤ). i.places.items ++ record child { value = x; bound = to_z w64 (of_z w64 c.args.bound) } ∷ []) value_is ∙ ap (λ (x : ℤ). i.places.items ++ record child { bound = x } ∷ []) bound_is))) in
    ap (λ ps. seen_as i.width i.words i.vars i.wide i.room ps c.append_row.new.rows.items c.append_path.new.paths.items i.found i.decisions.items) pushed
    ∙ (seen-kept (diagram_of c.args.space.now) i.width i.words i.vars i.wide i.room i.places.items i.rows.items i.paths.items i.found i.decisions.items child c.args.row.now c.append_row.new.rows.items c.append_path.new.paths.items
    may v.rows_are v.paths_are c.value-value.ensures c.requires.row c.append_row.ensures.items c.append_path.ensures.items c.append_path.ensures.len
    ∙ ap (with_child (diagram_of c.args.space.now) (child_place child)) c.self.view_is)

pub invariant_of-self : goal.invariant_of-self
invariant_of-self c =
    let i = c.self.inside in
    let v = c.self.invariant in
    let s = c.args.self.now in
    let o = node_at (diagram_of c.args.space.now) c.args.depth c.args.node in
    let words : i.words ≡ s.words = ap (λ (w : ChildrenView). w.words) c.self.view_is in
    let vars : i.vars ≡ s.vars = ap (λ (w : ChildrenView). w.vars) c.self.view_is in
    let room : i.room ≡ s.room = ap (λ (w : ChildrenView). w.room) c.self.view_is in
    let count : length i.places.items ≡ length s.places = sym (length-map i.places.items child_place) ∙ ap (λ (w : ChildrenView). length w.places) c.self.view_is in
    let may : MayKeep i.words o = subst (λ n. MayKeep n o) (sym words) c.requires.node in
    let less : length i.places.items < i.room = (let r = c.requires.room in omega arith) in
    let deep : c.args.depth ≤ i.vars = (let r = c.requires.depth in omega arith) in
    let child : Child = record { depth = c.args.depth; node = c.args.node; value = c.value-value.result; bound = c.args.bound } in
    let pushed : c.push_reserved.new.self.items ≡ i.places.items ++ child ∷ [] = (
    let value_is : to_z w64 (of_z w64 c.value-value.result) ≡ c.value-value.result = search rules in
    let bound_is : to_z w64 (of_z w64 c.args.bound) ≡ c.args.bound = search rules in
    c.push_reserved.ensures.items ∙ (ap (λ (x : Child). i.places.items ++ x ∷ []) c.at-child.ensures ∙ (ap (λ (x : ℤ). i.places.items ++ record child { value = x; bound = to_z w64 (of_z w64 c.args.bound) } ∷ []) value_is ∙ ap (λ (x : ℤ). i.places.items ++ record child { bound = x } ∷ []) bound_is))) in
    let long = row-long i.words o c.args.row.now may c.requires.row in
    let kept = c.append_path.auto.path in
    let whole = c.deref_mut.ensures.value in
    let len = c.deref_mut.ensures.len in
    let path : length (take i.path.len (c.append_path.new.path ++ drop (length c.append_path.new.path) i.path.items)) ≡ i.vars =
    rewritten-length i.path.len i.vars c.append_path.new.path i.path.items (let w = ap (λ p. length p) whole in omega arith) (let w = ap (λ p. length p) whole in omega arith) v.path_is in
    subst (λ ps. HasChildren i.words i.vars i.room ps (vec_capacity c.push_reserved.new.self) c.append_row.new.rows.items (vec_capacity c.append_row.new.rows) c.append_path.new.paths.items (vec_capacity c.append_path.new.paths) i.decisions.items
    (take i.path.len (c.append_path.new.path ++ drop (length c.append_path.new.path) i.path.items))) (sym pushed)
    (has-one-more i.words i.vars i.room (vec_capacity i.places) (vec_capacity i.rows) (vec_capacity i.paths) i.places.items i.rows.items i.paths.items i.decisions.items i.path.items v
    child c.args.row.now c.append_row.new.rows.items c.append_path.new.paths.items (take i.path.len (c.append_path.new.path ++ drop (length c.append_path.new.path) i.path.items))
    (vec_capacity c.push_reserved.new.self) (vec_capacity c.append_row.new.rows) (vec_capacity c.append_path.new.paths)
    less deep long c.append_row.ensures.items c.append_path.ensures.len path (let cap = c.push_reserved.ensures.capacity in omega arith) c.append_row.ensures.room c.append_path.ensures.room)
