-- Leaders, one after another.
use Rattle.std.proofs.Common.{◌≡◌, ℕ, ◌+◌, ◌^◌, ◌<◌, ◌≤◌, nat_le, ℤ, pos, ◌+ℤ◌, ◌-ℤ◌, ◌≤ℤ◌, int_le, Bool, true, false, not, cond, ◌&&◌, List, [], ◌∷◌, ◌++◌, length, drop, get_or, Option, Some, None, IfSome, refl, sym, ◌∙◌, ap, ap₂, subst, arith}
use Rattle.std.proofs.lemmas.Int.{ints}
use Rattle.std.proofs.lemmas.List.{map-append, length-map, drop_more, drop_all}
use Rattle.dp_model.specs.Dp.{Dp}
use Rattle.dp_model.specs.Gaps.{IsStateOf, within, is_struck_by}
use Rattle.dp_model.specs.Laws.{IsLawful}
use Rattle.dp_model.specs.Lists.{Each}
use Rattle.dp_model.specs.Numbers.{IsSmall}
use Rattle.dp_model.proofs.Members.{Each-append}
use Rattle.dp_model.specs.declared.limits.TheConstants.{MOST_LEADERS}
use Rattle.dp_laws.specs.Diagrams.Nodes.{DdNode}
use Rattle.dp_laws.specs.Rules.Pruning.{Leader, redirect_within, first_redirect, at_leader, is_struck, leaders_past}
use Rattle.dp_laws.specs.Rules.Reducing.{redirect_by}
use Rattle.layer_nodes.specs.declared.node.Node.{Node}
use Rattle.layer_nodes.specs.declared.redirecting.LeaderAt.{LeaderAt}
use Rattle.layer_nodes.specs.Leading.{IsNodeBy, IsLeaderBy, leader_of, leaders_of, led_at, print_of, bare}

-- a gap is a small number
pub gap-small : (dp : Dp) → IsLawful dp → (k : ℕ) (a s : List ℤ) (o : Option ℤ) → IsStateOf dp k a → IsStateOf dp k s → o ≡ dp.gap k a s → IfSome o (λ g. IsSmall g)
gap-small dp laws k a s None x y e = tt
gap-small dp laws k a s (Some g) x y e = (laws.sizes.gap k a s g x y (sym e)).1

within-small : (most : ℤ) (o : Option ℤ) → IfSome o (λ g. IsSmall g) → IfSome (within most o) (λ g. IsSmall g)
within-small most None h = tt
within-small most (Some g) h = elim (int_le g most) as (λ b. IfSome (cond b (Some g) None) (λ g. IsSmall g)) [ true ↦ h | false ↦ tt ]

pub gap-within-small : (dp : Dp) → IsLawful dp → (k : ℕ) (a s : List ℤ) (most : ℤ) (o : Option ℤ) → IsStateOf dp k a → IsStateOf dp k s → o ≡ within most (dp.gap k a s) → IfSome o (λ g. IsSmall g)
gap-within-small dp laws k a s most o x y e = subst (λ o. IfSome o (λ g. IsSmall g)) (sym e) (within-small most (dp.gap k a s) (gap-small dp laws k a s (dp.gap k a s) x y refl))

within-all : (most : ℤ) (o : Option ℤ) → IfSome o (λ g. g ≤ℤ most) → within most o ≡ o
within-all most None h = refl
within-all most (Some g) h = let less : int_le g most ≡ true = grind (arith, ints) in ap (λ b. cond b (Some g) None) less

gap-high : (o : Option ℤ) → IfSome o (λ g. IsSmall g) → IfSome o (λ g. g ≤ℤ pos (2 ^ 50))
gap-high None h = tt
gap-high (Some g) h = h.high

-- each gap is within the greatest one
pub gap-within-all : (dp : Dp) → IsLawful dp → (k : ℕ) (a s : List ℤ) → IsStateOf dp k a → IsStateOf dp k s → within (pos (2 ^ 50)) (dp.gap k a s) ≡ dp.gap k a s
gap-within-all dp laws k a s x y = within-all (pos (2 ^ 50)) (dp.gap k a s) (gap-high (dp.gap k a s) (gap-small dp laws k a s (dp.gap k a s) x y refl))

compared : (g a v : ℤ) → int_le g (a -ℤ v) ≡ int_le (v +ℤ g) a
compared g a v = grind (arith, ints)

by-cond : (place : ℕ) (g : ℤ) (b : Bool) → redirect_by place (cond b (Some g) None) ≡ cond b (Some (record { place = place; longer = g })) None
by-cond place g true = refl
by-cond place g false = refl

-- the gap within the difference lifts the node's value to at most the leader's
pub by-within : (place : ℕ) (gap : Option ℤ) (a v : ℤ) → redirect_by place (within (a -ℤ v) gap) ≡ redirect_within place gap a v
by-within place None a v = refl
by-within place (Some g) a v =
    by-cond place g (int_le g (a -ℤ v)) ∙ ap (λ b. cond b (Some (record { place = place; longer = g })) None) (compared g a v)

-- leaders ask for no rough bound
pub leader_rough : (dp : Dp) (k : ℕ) (rough : ℕ → List ℤ → Option ℤ) (leaders : List Leader) (node : DdNode) → at_leader (record dp { rough = rough }) k leaders node ≡ at_leader dp k leaders node
leader_rough dp k rough [] node = refl
leader_rough dp k rough (l ∷ leaders) node = ap (first_redirect (redirect_within l.place (dp.gap k l.row node.row) l.value node.value)) (leader_rough dp k rough leaders node)

-- only the row and the value count
pub at-leader-same : (dp : Dp) (k : ℕ) (leaders : List Leader) (a b : DdNode) → a.row ≡ b.row → a.value ≡ b.value → at_leader dp k leaders a ≡ at_leader dp k leaders b
at-leader-same dp k [] a b row value = refl
at-leader-same dp k (l ∷ leaders) a b row value =
    ap₂ first_redirect (ap₂ (λ r v. redirect_within l.place (dp.gap k l.row r) l.value v) row value) (at-leader-same dp k leaders a b row value)

pub struck-same : (dp : Dp) (k : ℕ) (t : Option ℤ) (a b : DdNode) → a.row ≡ b.row → a.value ≡ b.value → is_struck dp k t a ≡ is_struck dp k t b
struck-same dp k t a b row value = ap₂ (λ r v. is_struck_by v (dp.rough k r) t) row value

module _ (dp : Dp) (k : ℕ) (row : ℕ → List ℤ) where
  pub leader-more : (leaders : List LeaderAt) (node : Node) (i : ℕ) (d : LeaderAt) → i < length leaders → at_leader dp k (leaders_of row (drop i leaders)) (bare row node)
      ≡ first_redirect (redirect_within (get_or leaders i d).place (dp.gap k (row (get_or leaders i d).row) (row node.row)) (get_or leaders i d).value node.value)
      (at_leader dp k (leaders_of row (drop (i + 1) leaders)) (bare row node))
  leader-more leaders node i d less = ap (λ l. at_leader dp k (leaders_of row l) (bare row node)) (drop_more leaders i d less)

  pub leader-end : (leaders : List LeaderAt) (node : Node) (i : ℕ) → length leaders ≤ i → at_leader dp k (leaders_of row (drop i leaders)) (bare row node) ≡ None
  leader-end leaders node i less = ap (λ l. at_leader dp k (leaders_of row l) (bare row node)) (drop_all i leaders less)

  -- a node that stays leads as it is shown
  pub leaders-led : (leaders : List LeaderAt) (place : ℕ) (node : Node) (shown : DdNode) → shown.row ≡ row node.row → shown.value ≡ node.value → shown.exact ≡ node.exact
      → leaders_of row (led_at leaders place node) ≡ leaders_past (leaders_of row leaders) place shown
  leaders-led leaders place node shown row_is value exact =
      let l : LeaderAt = record { place = place; row = node.row; value = node.value; print = print_of node } in
      let of = leaders_of row in
      let few : (node.exact && not (nat_le MOST_LEADERS (length leaders))) ≡ (shown.exact && not (nat_le MOST_LEADERS (length (of leaders)))) =
      ap₂ (λ b n. b && not (nat_le MOST_LEADERS n)) (sym exact) (sym (length-map leaders (leader_of row))) in
      let same : leader_of row l ≡ record { place = place; row = shown.row; value = shown.value } = ap₂ (λ r v. record { place = place; row = r; value = v }) (sym row_is) (sym value) in
      let one : (b : Bool) → of (cond b (leaders ++ l ∷ []) leaders) ≡ cond b (of leaders ++ record { place = place; row = shown.row; value = shown.value } ∷ []) (of leaders) = λ b.
      elim b as (λ b. of (cond b (leaders ++ l ∷ []) leaders) ≡ cond b (of leaders ++ record { place = place; row = shown.row; value = shown.value } ∷ []) (of leaders)) [
        | true ↦ map-append (leader_of row) leaders (l ∷ []) ∙ ap (λ x. of leaders ++ x ∷ []) same
        | false ↦ refl
      ] in
      one (node.exact && not (nat_le MOST_LEADERS (length leaders))) ∙ ap (λ b. cond b (of leaders ++ record { place = place; row = shown.row; value = shown.value } ∷ []) (of leaders)) few

  pub each-led : (leaders : List LeaderAt) (place : ℕ) (node : Node) → Each (IsLeaderBy dp k row) leaders → IsNodeBy dp k row node → Each (IsLeaderBy dp k row) (led_at leaders place node)
  each-led leaders place node all one =
      let l : LeaderAt = record { place = place; row = node.row; value = node.value; print = print_of node } in
      elim (node.exact && not (nat_le MOST_LEADERS (length leaders))) as (λ b. Each (IsLeaderBy dp k row) (cond b (leaders ++ l ∷ []) leaders)) [
        | true ↦ Each-append (IsLeaderBy dp k row) leaders (l ∷ []) all (one, tt)
        | false ↦ all
      ]
