-- The canonical text is short.
use Rattle.std.proofs.Common.{◌≡◌, ℕ, ◌+◌, ◌*◌, ◌^◌, ◌<◌, ◌≤◌, ℤ, pos, negsuc, neg_ℤ, ◌-ℤ◌, ◌≤ℤ◌, Bool, true, false, cond, List, [], ◌∷◌, ◌++◌, map, length, codes, nat_eq, Option, Some, None, sym, ◌∙◌, arith, length-append}
use Rattle.std.specs.List.{list_all}
use Rattle.std.proofs.lemmas.Bool.{and_parts, cond_both, eqb-true, false≢true}
use Rattle.std.proofs.lemmas.Fmt.{length-decimal-le, length_signed_le}
use Rattle.std.proofs.lemmas.Int.{ints}
use Rattle.json.specs.Print.{escape_byte, quoted}
use Rattle.serde_json.specs.Data.{Data, Members, array, member, no_members}
use Rattle.serde_json.specs.View.{items_of}
use Rattle.serde_json.specs.Written.{comma_if, compact_text, items_text, members_text}
use Rattle.table_model.proofs.RoundTrip.{first_few}
use Rattle.table_model.specs.Laws.Shaped.{is_between-is, IsTable, HasStates, has_states, HasDecisions, has_decisions}
use Rattle.table_model.specs.Printing.{cell_tree, state_tree, next_tree, row_tree, rows_tree, last_tree, inner_tree, layer_tree, tree_of, text_of}
use Rattle.table_model.specs.Shape.{is_small, is_cell_between, is_state_between, is_next_between, is_row, is_grid, is_last, are_decisions, is_layer, are_layers}
use Rattle.table_model.specs.Table.{LayerTable, Table, states_of_first}

-- ---- cells

whole_short : (z : ℤ) → neg_ℤ (pos (2 ^ 50)) ≤ℤ z → z ≤ℤ pos (2 ^ 50) → length (compact_text (cell_tree (Some z))) ≤ 17
whole_short (pos n) low high = let few : n ≤ 2 ^ 50 = omega (arith, ints, high) in omega (arith, length-decimal-le 16 n (omega arith) (omega (arith, few)) (omega (arith, few)))
whole_short (negsuc n) low high = let few : n < 2 ^ 50 = omega (arith, ints, low) in length_signed_le 16 (negsuc n) (omega (arith, few)) (omega (arith, few))

cell_short : (least : ℤ) → neg_ℤ (pos (2 ^ 50)) ≤ℤ least → (c : Option ℤ) → is_cell_between least (pos (2 ^ 50)) c ≡ true → length (compact_text (cell_tree c)) ≤ 17
cell_short least low None h = omega arith
cell_short least low (Some z) h = let b = is_between-is least (pos (2 ^ 50)) z h in whole_short z (let under = b.low in omega (arith, ints, low, under)) b.high

state_short : (m : ℕ) → m ≤ 32 → (n : ℕ) → is_state_between (pos 0) (pos m -ℤ pos 1) n ≡ true → length (compact_text (state_tree n)) ≤ 17
state_short m few n h =
    let high = (is_between-is (pos 0) (pos m -ℤ pos 1) (pos n) h).high in
    let small : n < 32 = omega (arith, ints, high, few) in
    omega (arith, length-decimal-le 2 n (omega arith) (omega (arith, small)) (omega (arith, small)))

next_short : (m : ℕ) → m ≤ 32 → (c : Option ℕ) → is_next_between (pos 0) (pos m -ℤ pos 1) c ≡ true → length (compact_text (next_tree c)) ≤ 17
next_short m few None h = omega arith
next_short m few (Some n) h = state_short m few n h

count_short : (n : ℕ) → n ≤ 32 → length (compact_text (state_tree n)) ≤ 2
count_short n few = length-decimal-le 2 n (omega arith) (omega (arith, few)) (omega (arith, few))

-- ---- lists

comma_short : (later : Bool) → length (comma_if later) ≤ 1
comma_short true = omega arith
comma_short false = omega arith

-- a list of items of fewer than this many bytes each
items_short : {X : Type 0} (tree : X → Data) (test : X → Bool) (most : ℕ) → ((x : X) → test x ≡ true → length (compact_text (tree x)) + 1 ≤ most) → (later : Bool) (xs : List X) → list_all test xs ≡ true
    → length (items_text later (items_of (map tree xs))) ≤ most * length xs + 1
items_short tree test most each later [] h = omega arith
items_short tree test most each later (x ∷ xs) h =
    let parts = and_parts _ _ h in
    let rest = items_text true (items_of (map tree xs)) in
    omega (arith, comma_short later, each x parts.0, items_short tree test most each true xs parts.1, length-append (comma_if later) (compact_text (tree x) ++ rest), length-append (compact_text (tree x)) rest)

row_short : {X : Type 0} (tree : X → Data) (test : X → Bool) → ((x : X) → test x ≡ true → length (compact_text (tree x)) ≤ 17) → (width : ℕ) → width ≤ 32 → (row : List X) → is_row test width row ≡ true
    → length (compact_text (row_tree tree row)) ≤ 600
row_short tree test each width few row h =
    let parts = and_parts _ _ h in
    let long : length row ≡ width = eqb-true _ _ parts.0 in
    let most = items_short tree test 18 (λ x passes. let one = each x passes in omega (arith, one)) false row parts.1 in
    omega (arith, most, long, few)

rows_short : {X : Type 0} (tree : X → Data) (test : X → Bool) → ((x : X) → test x ≡ true → length (compact_text (tree x)) ≤ 17) → (height width : ℕ) → height ≤ 32 → width ≤ 32 → (rows : List (List X))
    → is_grid test height width rows ≡ true → length (compact_text (rows_tree tree rows)) ≤ 20000
rows_short tree test each height width high few rows h =
    let parts = and_parts _ _ h in
    let long : length rows ≡ height = eqb-true _ _ parts.0 in
    let most = items_short (row_tree tree) (is_row test width) 601 (λ row passes. let one = row_short tree test each width few row passes in omega (arith, one)) false rows parts.1 in
    omega (arith, most, long, high)

-- ---- objects

member_short : (later : Bool) (k : List ℕ) (d : Data) (ms : Members) → length (members_text later (member k d ms)) ≤ length (quoted k) + length (compact_text d) + length (members_text true ms) + 2
member_short later k d ms =
    let rest = members_text true ms in
    omega (arith, comma_short later, length-append (comma_if later) (quoted k ++ 58 ∷ (compact_text d ++ rest)), length-append (quoted k) (58 ∷ (compact_text d ++ rest)), length-append (compact_text d) rest)

key_short : (length (quoted (codes "choices")) ≤ 20) × (length (quoted (codes "gain")) ≤ 20) × (length (quoted (codes "gap")) ≤ 20) × (length (quoted (codes "merge")) ≤ 20)
    × (length (quoted (codes "next")) ≤ 20) × (length (quoted (codes "rough")) ≤ 20) × (length (quoted (codes "states")) ≤ 20) × (length (quoted (codes "layers")) ≤ 20) × (length (quoted (codes "root_value")) ≤ 20)
unfolding escape_byte
key_short = (omega arith, omega arith, omega arith, omega arith, omega arith, omega arith, omega arith, omega arith, omega arith)

-- ---- layers

last_short : (l : LayerTable) → HasStates l → length (compact_text (last_tree l)) ≤ 50000
last_short l h =
    let gap = rows_short cell_tree _ (cell_short (pos 0) (omega (arith, ints))) l.states l.states h.few h.few l.gap h.gap in
    let merge = rows_short state_tree _ (state_short l.states h.few) l.states l.states h.few h.few l.merge h.merges in
    let rough = row_short cell_tree _ (cell_short (neg_ℤ (pos (2 ^ 50))) (omega (arith, ints))) l.states h.few l.rough h.rough in
    let states = count_short l.states h.few in
    let of_states = member (codes "states") (state_tree l.states) no_members in
    let of_rough = member (codes "rough") (row_tree cell_tree l.rough) of_states in
    let of_merge = member (codes "merge") (rows_tree state_tree l.merge) of_rough in
    let keys = key_short in
    omega (
      arith,
      gap,
      merge,
      rough,
      states,
      keys.2,
      keys.3,
      keys.5,
      keys.6,
      member_short false (codes "gap") (rows_tree cell_tree l.gap) of_merge,
      member_short true (codes "merge") (rows_tree state_tree l.merge) of_rough,
      member_short true (codes "rough") (row_tree cell_tree l.rough) of_states,
      member_short true (codes "states") (state_tree l.states) no_members,
    )

inner_short : (after : ℕ) (l : LayerTable) → after ≤ 32 → HasStates l → HasDecisions after l → length (compact_text (inner_tree l)) ≤ 100000
inner_short after l small h k =
    let gain = rows_short cell_tree _ (cell_short (neg_ℤ (pos (2 ^ 50))) (omega (arith, ints))) l.states l.choices h.few k.few l.gain k.gain in
    let gap = rows_short cell_tree _ (cell_short (pos 0) (omega (arith, ints))) l.states l.states h.few h.few l.gap h.gap in
    let merge = rows_short state_tree _ (state_short l.states h.few) l.states l.states h.few h.few l.merge h.merges in
    let next = rows_short next_tree _ (next_short after small) l.states l.choices h.few k.few l.next k.next in
    let rough = row_short cell_tree _ (cell_short (neg_ℤ (pos (2 ^ 50))) (omega (arith, ints))) l.states h.few l.rough h.rough in
    let states = count_short l.states h.few in
    let choices = count_short l.choices k.few in
    let of_states = member (codes "states") (state_tree l.states) no_members in
    let of_rough = member (codes "rough") (row_tree cell_tree l.rough) of_states in
    let of_next = member (codes "next") (rows_tree next_tree l.next) of_rough in
    let of_merge = member (codes "merge") (rows_tree state_tree l.merge) of_next in
    let of_gap = member (codes "gap") (rows_tree cell_tree l.gap) of_merge in
    let of_gain = member (codes "gain") (rows_tree cell_tree l.gain) of_gap in
    let keys = key_short in
    omega (
      arith,
      gain,
      gap,
      merge,
      next,
      rough,
      states,
      choices,
      keys.0,
      keys.1,
      keys.2,
      keys.3,
      keys.4,
      keys.5,
      keys.6,
      member_short false (codes "choices") (state_tree l.choices) of_gain,
      member_short true (codes "gain") (rows_tree cell_tree l.gain) of_gap,
      member_short true (codes "gap") (rows_tree cell_tree l.gap) of_merge,
      member_short true (codes "merge") (rows_tree state_tree l.merge) of_next,
      member_short true (codes "next") (rows_tree next_tree l.next) of_rough,
      member_short true (codes "rough") (row_tree cell_tree l.rough) of_states,
      member_short true (codes "states") (state_tree l.states) no_members,
    )

layer_short : (after : ℕ) (l : LayerTable) → after ≤ 32 → is_layer after l ≡ true → length (compact_text (layer_tree l)) ≤ 100000
layer_short after l small h =
    let parts = and_parts _ _ h in
    let states = has_states l parts.0 in
    cond_both (nat_eq after 0) (is_last l) (are_decisions after l) (λ b. b ≡ true → length (compact_text (layer_tree l)) ≤ 100000)
    (λ _ last. cond_both (nat_eq l.choices 0) (last_tree l) (inner_tree l) (λ d. length (compact_text d) ≤ 100000)
    (λ _. let most = last_short l states in omega (arith, most))
    (λ other. absurd (false≢true (sym other ∙ (and_parts _ _ (and_parts _ _ last).0).0))))
    (λ _ inner. cond_both (nat_eq l.choices 0) (last_tree l) (inner_tree l) (λ d. length (compact_text d) ≤ 100000)
    (λ _. let most = last_short l states in omega (arith, most))
    (λ _. inner_short after l small states (has_decisions after l inner)))
    parts.1

layers_short : (later : Bool) (ls : List LayerTable) → are_layers ls ≡ true → length (items_text later (items_of (map layer_tree ls))) ≤ 100001 * length ls + 1
layers_short later [] h = omega arith
layers_short later (l ∷ ls) h =
    let parts = and_parts _ _ h in
    let rest = items_text true (items_of (map layer_tree ls)) in
    omega (
      arith,
      comma_short later,
      layer_short (states_of_first ls) l (first_few ls parts.1) parts.0,
      layers_short true ls parts.1,
      length-append (comma_if later) (compact_text (layer_tree l) ++ rest),
      length-append (compact_text (layer_tree l)) rest,
    )

pub text_short : (t : Table) → IsTable t → length (text_of t) ≤ 2 ^ 30
text_short t h =
    let layers = layers_short false t.layers h.layers in
    let few = h.few in
    let root = is_between-is (neg_ℤ (pos (2 ^ 50))) (pos (2 ^ 50)) t.root_value h.root_value in
    let of_root = member (codes "root_value") (cell_tree (Some t.root_value)) no_members in
    let keys = key_short in
    omega (
      arith,
      layers,
      few,
      whole_short t.root_value root.low root.high,
      keys.7,
      keys.8,
      member_short false (codes "layers") (array (items_of (map layer_tree t.layers))) of_root,
      member_short true (codes "root_value") (cell_tree (Some t.root_value)) no_members,
      length-append (compact_text (tree_of t)) (10 ∷ []),
    )
