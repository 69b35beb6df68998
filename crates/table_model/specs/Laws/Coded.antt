-- The numbers of a table spell it.
use Rattle.std.proofs.Common.{◌≡◌, ℕ, zero, suc, ℤ, pos, List, [], ◌∷◌, length, Option, Some, None, refl, sym, ap, ap₂, subst, ◌∙◌}
use Rattle.table_model.specs.Table.{LayerTable, Table}
use Rattle.table_model.specs.Numbers.{put_natural, put_whole, put_option, put_each, put_list, put_cells, put_layer, numbers_of, take_natural, take_whole, taken_some, take_option, taken_first, take_each, take_list, taken_then, take_cells, take_layer, table_spelled}

-- what was put in front of a rest is taken from it
abbrev pub TakesBack : {X : Type 0} → (X → List ℤ → List ℤ) → (List ℤ → X × List ℤ) → Type 0
TakesBack {X} put take = (x : X) (rest : List ℤ) → take (put x rest) ≡ (x, rest)

natural_back : TakesBack put_natural take_natural
natural_back n rest = refl

whole_back : TakesBack put_whole take_whole
whole_back z rest = refl

option_back : {X : Type 0} (put : X → List ℤ → List ℤ) (take : List ℤ → X × List ℤ) → TakesBack put take → TakesBack (put_option put) (take_option take)
option_back put take back None rest = refl
option_back put take back (Some x) rest = ap taken_some (back x rest)

each_back : {X : Type 0} (put : X → List ℤ → List ℤ) (take : List ℤ → X × List ℤ) → TakesBack put take → (xs : List X) (rest : List ℤ)
    → take_each take (length xs) (put_each put xs rest) ≡ (xs, rest)
unfolding take_each
each_back put take back [] rest = refl
each_back {X} put take back (x ∷ xs) rest =
    ap (λ (p : X × List ℤ). taken_first p.0 (take_each take (length xs) p.1)) (back x (put_each put xs rest)) ∙ ap (taken_first x) (each_back put take back xs rest)

list_back : {X : Type 0} (put : X → List ℤ → List ℤ) (take : List ℤ → X × List ℤ) → TakesBack put take → TakesBack (put_list put) (take_list take)
list_back put take back xs rest = each_back put take back xs rest

cells_back : TakesBack put_cells take_cells
cells_back =
    list_back (put_list (put_option put_whole)) (take_list (take_option take_whole))
    (list_back (put_option put_whole) (take_option take_whole) (option_back put_whole take_whole whole_back))

layer_back : TakesBack put_layer take_layer
layer_back l rest =
    let gain = put_cells l.gain rest in
    let next = put_list (put_list (put_option put_natural)) l.next gain in
    let rough = put_list (put_option put_whole) l.rough next in
    let merge = put_list (put_list put_natural) l.merge rough in
    let states = list_back (put_list put_natural) (take_list take_natural) (list_back put_natural take_natural natural_back) in
    let nexts = list_back (put_list (put_option put_natural)) (take_list (take_option take_natural)) (list_back (put_option put_natural) (take_option take_natural) (option_back put_natural take_natural natural_back)) in
    let bounds = list_back (put_option put_whole) (take_option take_whole) (option_back put_whole take_whole whole_back) in
    rw (cells_back l.gap merge, states l.merge rough, bounds l.rough next, nexts l.next gain, cells_back l.gain rest) refl

pub table_spelled-numbers_of : (t : Table) → table_spelled (numbers_of t) ≡ t
unfolding table_spelled
table_spelled-numbers_of t =
    ap (λ (p : List LayerTable × List ℤ). let r : Table = record { root_value = t.root_value; layers = p.0 } in r) (list_back put_layer take_layer layer_back t.layers [])

-- the same, of a root value and layers
pub spelled : (root_value : ℤ) (layers : List LayerTable) → table_spelled (numbers_of (record { root_value = root_value; layers = layers })) ≡ record { root_value = root_value; layers = layers }
spelled root_value layers = table_spelled-numbers_of (record { root_value = root_value; layers = layers })

pub ruleset round_trip = (spelled)
