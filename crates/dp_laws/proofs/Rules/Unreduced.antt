-- The layers above the first one that is reduced are those of a restricted diagram.
use Rattle.std.proofs.Common.{◌≡◌, ℕ, ◌+◌, nat_le, ℤ, ◌+ℤ◌, int_le, Bool, true, false, cond, not, ◌||◌, List, [], ◌∷◌, ◌++◌, length, map, slice_get, Option, Some, None, is_some, inl, inr, IsTrue, refl, sym, ◌∙◌, ap, subst, arith, drop}
use Rattle.std.proofs.lemmas.List.{length-map, map-append}
use Rattle.dp_model.specs.Dp.{Dp}
use Rattle.dp_model.specs.Gaps.{covers_at, is_struck_by}
use Rattle.dp_model.specs.Reached.{Reached}
use Rattle.dp_model.proofs.Members.{Has}
use Rattle.dp_laws.specs.Restricted.Beam.{expanded, whole_layer}
use Rattle.dp_laws.specs.Restricted.Leaders.{unstruck, dominates, dominated, undominated}
use Rattle.dp_laws.specs.Restricted.Leaders as beam_leaders
use Rattle.dp_laws.specs.Diagrams.Nodes.{DdNode, prefix_at, as_member}
use Rattle.dp_laws.proofs.Diagrams.Places.{same-Some}
use Rattle.dp_laws.proofs.Diagrams.Walks.{exact-layer, exact-member}
use Rattle.dp_laws.proofs.Diagrams.Starts.{as-member-is}
use Rattle.dp_laws.specs.Rules.Redirects.{Redirect}
use Rattle.dp_laws.specs.Rules.Expanding.{is_exact_row, node_for, new_layer}
use Rattle.dp_laws.specs.Rules.Pruning.{Leader, redirect_within, first_redirect, at_leader, is_struck, leaders_past, pruned_nodes}
use Rattle.dp_laws.specs.Rules.Compiling.{expand, prune}
use Rattle.dp_model.specs.declared.limits.TheConstants.{MOST_LEADERS}

-- the nodes are exact and stand for the prefixes
abbrev pub StandFor : List DdNode → List Reached → Type 0
StandFor layer rs = map as_member layer ≡ map (λ (r : Reached). Some r) rs

first-of : (node : DdNode) (layer : List DdNode) (r : Reached) (rs : List Reached) → StandFor (node ∷ layer) (r ∷ rs) → as_member node ≡ Some r
first-of node layer r rs h = same-Some (as_member node) (Some r) (ap (λ l. slice_get l 0) h)

rest-of : (node : DdNode) (layer : List DdNode) (r : Reached) (rs : List Reached) → StandFor (node ∷ layer) (r ∷ rs) → StandFor layer rs
rest-of node layer r rs h = ap (λ l. drop 1 l) h

pub prefixes-are : (layer : List DdNode) (rs : List Reached) → StandFor layer rs → map prefix_at layer ≡ rs
prefixes-are [] [] h = refl
prefixes-are [] (r ∷ rs) h = absurd (let long = ap length h in omega arith)
prefixes-are (node ∷ layer) [] h = absurd (let long = ap length h in omega arith)
prefixes-are (node ∷ layer) (r ∷ rs) h =
    let one = as-member-is node r (first-of node layer r rs h) in
    let rest = prefixes-are layer rs (rest-of node layer r rs h) in
    ap (λ x. x ∷ map prefix_at layer) one ∙ ap (λ xs. r ∷ xs) rest

pub length-same : (layer : List DdNode) (rs : List Reached) → StandFor layer rs → length layer ≡ length rs
length-same layer rs h = sym (length-map layer as_member) ∙ (ap length h ∙ length-map rs (λ (r : Reached). Some r))

-- Expanding.

exact-rows : (dp : Dp) (k : ℕ) (layer : List DdNode) (row : List ℤ) → ((x : DdNode) → Has x layer → IsTrue x.exact) → is_exact_row dp k layer row ≡ true
exact-rows dp k [] row h = refl
exact-rows dp k (node ∷ layer) row h = let one : node.exact ≡ true = h node (inl refl) in let rest = exact-rows dp k layer row (λ x has. h x (inr has)) in rw (one, rest) refl

for-each : (dp : Dp) (k : ℕ) (layer : List DdNode) → ((x : DdNode) → Has x layer → IsTrue x.exact) → (rs : List Reached) → StandFor (map (node_for dp k layer) rs) rs
for-each dp k layer h [] = refl
for-each dp k layer h (r ∷ rs) =
    let one : as_member (node_for dp k layer r) ≡ Some r = (let e = exact-rows dp k layer r.row h in rw e refl) in
    let rest = for-each dp k layer h rs in
    ap (λ o. o ∷ map as_member (map (node_for dp k layer) rs)) one ∙ ap (λ os. Some r ∷ os) rest

expanded-stands : (dp : Dp) (k : ℕ) (layer : List DdNode) (rs : List Reached) → StandFor layer rs → StandFor (new_layer dp k layer) (expanded dp k rs)
expanded-stands dp k layer rs h =
    subst (λ qs. StandFor (new_layer dp k layer) (expanded dp k qs)) (prefixes-are layer rs h) (for-each dp k layer (exact-layer layer rs h) (expanded dp k (map prefix_at layer)))

-- Pruning.

-- leaders that are the same but for their places
record AreSameLeaders (as_ : List Leader) (rs : List Reached) : Type 0 where
  rows : map (λ (a : Leader). a.row) as_ ≡ map (λ (r : Reached). r.row) rs
  values : map (λ (a : Leader). a.value) as_ ≡ map (λ (r : Reached). r.value) rs

within-covers : (place : ℕ) (gap : Option ℤ) (above number : ℤ) → is_some (redirect_within place gap above number) ≡ covers_at gap above number
within-covers place None above number = refl
within-covers place (Some g) above number =
    let l : Redirect = record { place = place; longer = g } in
    elim (int_le (number +ℤ g) above) as (λ b. is_some (cond b (Some l) None) ≡ b) [ true ↦ refl | false ↦ refl ]

some-first : (one other : Option Redirect) → is_some (first_redirect one other) ≡ (is_some one || is_some other)
some-first None other = refl
some-first (Some l) other = refl

head-same : (x y : ℤ) (xs ys : List ℤ) → (x ∷ xs) ≡ (y ∷ ys) → x ≡ y
head-same x y xs ys e = same-Some x y (ap (λ l. slice_get l 0) e)

head-row : (x y : List ℤ) (xs ys : List (List ℤ)) → (x ∷ xs) ≡ (y ∷ ys) → x ≡ y
head-row x y xs ys e = same-Some x y (ap (λ l. slice_get l 0) e)

led-same : (dp : Dp) (k : ℕ) (as_ : List Leader) (rs : List Reached) (node : DdNode) (r : Reached) → AreSameLeaders as_ rs → prefix_at node ≡ r → is_some (at_leader dp k as_ node) ≡ dominated dp k rs r
led-same dp k [] [] node r h e = refl
led-same dp k [] (q ∷ rs) node r h e = absurd (let long = ap length h.rows in omega arith)
led-same dp k (a ∷ as_) [] node r h e = absurd (let long = ap length h.rows in omega arith)
led-same dp k (a ∷ as_) (q ∷ rs) node r h e =
    let row = head-row a.row q.row (map (λ (a : Leader). a.row) as_) (map (λ (r : Reached). r.row) rs) h.rows in
    let value = head-same a.value q.value (map (λ (a : Leader). a.value) as_) (map (λ (r : Reached). r.value) rs) h.values in
    let rest = led-same dp k as_ rs node r (record { rows = ap (drop 1) h.rows; values = ap (drop 1) h.values }) e in
    let here : covers_at (dp.gap k a.row node.row) a.value node.value ≡ dominates dp k q r =
    ap (λ s. covers_at (dp.gap k s node.row) a.value node.value) row ∙ (ap (λ v. covers_at (dp.gap k q.row node.row) v node.value) value ∙ ap (λ (x : Reached). covers_at (dp.gap k q.row x.row) q.value x.value) e) in
    some-first (redirect_within a.place (dp.gap k a.row node.row) a.value node.value) (at_leader dp k as_ node)
    ∙ (ap (λ b. b || is_some (at_leader dp k as_ node)) (within-covers a.place (dp.gap k a.row node.row) a.value node.value ∙ here) ∙ ap (λ b. dominates dp k q r || b) rest)

length-leaders : (as_ : List Leader) (rs : List Reached) → AreSameLeaders as_ rs → length as_ ≡ length rs
length-leaders as_ rs h = sym (length-map as_ (λ (a : Leader). a.row)) ∙ (ap length h.rows ∙ length-map rs (λ (r : Reached). r.row))

leaders-then : (as_ : List Leader) (rs : List Reached) (place : ℕ) (node : DdNode) (r : Reached) → AreSameLeaders as_ rs → prefix_at node ≡ r → AreSameLeaders (as_ ++ record { place = place; row = node.row; value = node.value } ∷ []) (rs ++ r ∷ [])
leaders-then as_ rs place node r h e = record {
  rows = map-append (λ (a : Leader). a.row) as_ (record { place = place; row = node.row; value = node.value } ∷ []) ∙ (ap (λ l. l ++ node.row ∷ []) h.rows ∙ (ap (λ (x : Reached). map (λ (r : Reached). r.row) rs ++ x.row ∷ []) e ∙ sym (map-append (λ (r : Reached). r.row) rs (r ∷ []))));
  values = map-append (λ (a : Leader). a.value) as_ (record { place = place; row = node.row; value = node.value } ∷ []) ∙ (ap (λ l. l ++ node.value ∷ []) h.values ∙ (ap (λ (x : Reached). map (λ (r : Reached). r.value) rs ++ x.value ∷ []) e ∙ sym (map-append (λ (r : Reached). r.value) rs (r ∷ []))));
}

leaders-led : (dp : Dp) (k : ℕ) (as_ : List Leader) (rs : List Reached) (place : ℕ) (node : DdNode) (r : Reached) → AreSameLeaders as_ rs → prefix_at node ≡ r → IsTrue node.exact → dominated dp k rs r ≡ false → AreSameLeaders (leaders_past as_ place node) (beam_leaders.leaders_after dp k rs r)
leaders-led dp k as_ rs place node r h e exact free =
    let long = length-leaders as_ rs h in
    let more = leaders-then as_ rs place node r h e in
    let full : nat_le MOST_LEADERS (length as_) ≡ nat_le MOST_LEADERS (length rs) = ap (nat_le MOST_LEADERS) long in
    rw (exact, free, full) (elim (nat_le MOST_LEADERS (length rs)) as (λ b. AreSameLeaders (cond (not b) (as_ ++ record { place = place; row = node.row; value = node.value } ∷ []) as_) (cond b rs (rs ++ r ∷ []))) [ true ↦ h | false ↦ more ])

-- what stays of the nodes stands for what stays of the prefixes

struck-same : (dp : Dp) (k : ℕ) (t : Option ℤ) (node : DdNode) (r : Reached) → prefix_at node ≡ r → is_struck dp k t node ≡ is_struck_by r.value (dp.rough k r.row) t
struck-same dp k t node r e = ap (λ (x : Reached). is_struck_by x.value (dp.rough k x.row) t) e

pruned-stand : (dp : Dp) (k : ℕ) (t : Option ℤ) (as_ : List Leader) (qs : List Reached) (place : ℕ) (layer : List DdNode) (rs : List Reached) → AreSameLeaders as_ qs → StandFor layer rs → StandFor (pruned_nodes dp k t as_ place layer) (undominated dp k qs (unstruck dp k t rs))
pruned-stand dp k t as_ qs place [] [] same h = refl
pruned-stand dp k t as_ qs place [] (r ∷ rs) same h = absurd (let long = ap length h in omega arith)
pruned-stand dp k t as_ qs place (node ∷ layer) [] same h = absurd (let long = ap length h in omega arith)
pruned-stand dp k t as_ qs place (node ∷ layer) (r ∷ rs) same h =
    let first = first-of node layer r rs h in
    let is = as-member-is node r first in
    let exact = exact-member node r first in
    let rest = rest-of node layer r rs h in
    let struck = struck-same dp k t node r is in
    let led-too = led-same dp k as_ qs node r same is in
    let Left : Bool → List DdNode → Type 0 = λ b ns. StandFor ns (undominated dp k qs (cond (not b) (r ∷ unstruck dp k t rs) (unstruck dp k t rs))) in
    let after : is_struck_by r.value (dp.rough k r.row) t ≡ false → (b : Bool) → dominated dp k qs r ≡ b → Left false (cond b (pruned_nodes dp k t as_ place layer) (node ∷ pruned_nodes dp k t (leaders_past as_ place node) (place + 1) layer)) = λ free b.
    elim b as (λ b. dominated dp k qs r ≡ b → Left false (cond b (pruned_nodes dp k t as_ place layer) (node ∷ pruned_nodes dp k t (leaders_past as_ place node) (place + 1) layer))) [
      | true ↦ λ e. rw e (pruned-stand dp k t as_ qs place layer rs same rest)
      | false ↦ λ e. (
          let more = leaders-led dp k as_ qs place node r same is exact e in
          let ih = pruned-stand dp k t (leaders_past as_ place node) (beam_leaders.leaders_after dp k qs r) (place + 1) layer rs more rest in
          let shape : undominated dp k qs (r ∷ unstruck dp k t rs) ≡ r ∷ undominated dp k (beam_leaders.leaders_after dp k qs r) (unstruck dp k t rs) = ap (λ b. cond b [] (r ∷ []) ++ undominated dp k (beam_leaders.leaders_after dp k qs r) (unstruck dp k t rs)) e in
          subst (λ us. StandFor (node ∷ pruned_nodes dp k t (leaders_past as_ place node) (place + 1) layer) us) (sym shape)
          (ap (λ o. o ∷ map as_member (pruned_nodes dp k t (leaders_past as_ place node) (place + 1) layer)) first ∙ ap (λ os. Some r ∷ os) ih))
    ] in
    let Goal : Bool → Bool → Bool → Type 0 = λ s l b. Left b (cond (s || l) (pruned_nodes dp k t as_ place layer) (node ∷ pruned_nodes dp k t (leaders_past as_ place node) (place + 1) layer)) in
    let split : (b : Bool) → is_struck_by r.value (dp.rough k r.row) t ≡ b → Goal b (dominated dp k qs r) b = λ b.
    elim b as (λ b. is_struck_by r.value (dp.rough k r.row) t ≡ b → Goal b (dominated dp k qs r) b) [
      | true ↦ λ e. pruned-stand dp k t as_ qs place layer rs same rest
      | false ↦ λ e. after e (dominated dp k qs r) refl
    ] in
    subst (λ s. Goal s (is_some (at_leader dp k as_ node)) (is_struck_by r.value (dp.rough k r.row) t)) (sym struck)
    (subst (λ l. Goal (is_struck_by r.value (dp.rough k r.row) t) l (is_struck_by r.value (dp.rough k r.row) t)) (sym led-too)
    (split (is_struck_by r.value (dp.rough k r.row) t) refl))

-- the next layer, before it is reduced, stands for the whole layer
pub next-stands : (dp : Dp) (k : ℕ) (t : Option ℤ) (layer : List DdNode) (rs : List Reached) → StandFor layer rs → StandFor (prune dp (k + 1) t (expand dp k layer)).next (whole_layer dp k t rs)
next-stands dp k t layer rs h = pruned-stand dp (k + 1) t [] [] 0 (new_layer dp k layer) (expanded dp k rs) (record { rows = refl; values = refl }) (expanded-stands dp k layer rs h)
