-- Places sorted by state, of which the firsts are sorted by the reduction order.
use Rattle.std.proofs.Common.{◌≡◌, ◌≢◌, ℕ, zero, suc, ◌<◌, nat_lt, nat_eq, ℤ, ◌<ℤ◌, ◌≤ℤ◌, int_lt, Bool, true, false, cond, ◌&&◌, ◌||◌, List, [], ◌∷◌, length, map, get_or, IsPermutation, IsSortedBy, ◌⊎◌, inl, inr, refl, sym, ◌∙◌, ap, subst, arith}
use Rattle.std.proofs.lemmas.Int.{ints}
use Rattle.std.proofs.lemmas.Bool.Decides.{nat_tests}
use Rattle.std.proofs.lemmas.Cmp.{int_cmp_total, nat_cmp_total, on_total, then_total, back_total, lists_total, tied_itself}
use Rattle.std.specs.Cmp.{IsTotalOrder, IsStrictWeakOrder}
use Rattle.std.specs.Cmp.Lexicographic.{slice_cmp}
use Rattle.std.specs.Ordering.{int_cmp, nat_cmp, on, then_cmp, flip_args, is_lt, ordering_then}
use Rattle.std.specs.declared.cmp.Ordering.{Ordering}
use Rattle.std.specs.declared.cmp.Ordering.TheVariants.{Less, Equal, Greater}
use Rattle.dp_model.specs.Decisions.{below}
use Rattle.dp_model.specs.Dp.{Dp}
use Rattle.dp_model.specs.Lists.{Each, OneOf}
use Rattle.dp_model.specs.Numbers.{int_same}
use Rattle.dp_model.specs.Reached.{Reached}
use Rattle.dp_model.specs.Rows.{row_same, row_smaller}
use Rattle.dp_model.proofs.Members.{Has, each-has, each-of-all, Each-then, Each-map, Has-below, Has-below-from}
use Rattle.std.proofs.lemmas.Bool.{and_parts}
use Rattle.dp_model.proofs.RowLemmas.{row_same-self, row_same-is, int_same-is}
use Rattle.dp_laws.specs.Restricted.BestOfState.{IsBestOfState}
use Rattle.dp_laws.specs.Restricted.Extensions.{all_joined}
use Rattle.dp_laws.specs.Pairs.{EachTwo}
use Rattle.dp_laws.specs.Restricted.ReductionOrder.{stands_before, in_order}
use Rattle.dp_laws.specs.Restricted.Sorting.{at, comes_before, firsts_after, firsts, places_before, IsBestAt, SortingExpands}
use Rattle.dp_laws.proofs.Restricted.Differing.{rows-other}
use Rattle.dp_laws.proofs.Restricted.Joining.{expansions-unique}
use Rattle.dp_laws.proofs.Restricted.Orders.{is_lt-Less, then-test, row_smaller-cmp, then-Equal, rows-Equal, lesser-total, strict-by, before-strict, before-total}
use Rattle.dp_laws.proofs.Restricted.Permutations.{each-at, two-sorted, two-both, two-map, one-map, Has-permutation, each-permutation, one-permutation, keys-permutation, places-differ}

-- Rows.

rows-total : IsTotalOrder (slice_cmp int_cmp)
rows-total = lists_total int_cmp_total

smaller-strict : IsStrictWeakOrder row_smaller
smaller-strict = strict-by row_smaller (slice_cmp int_cmp) rows-total row_smaller-cmp

smaller-none : (a b : List ℤ) → a ≡ b → row_smaller a b ≡ false
smaller-none a b e = row_smaller-cmp a b ∙ (ap (λ r. is_lt (slice_cmp int_cmp a r)) (sym e) ∙ ap is_lt (tied_itself rows-total a))

smaller-total : (a b : List ℤ) → a ≢ b → row_smaller b a ≡ false → row_smaller a b ≡ true
smaller-total a b other h = row_smaller-cmp a b ∙ lesser-total (slice_cmp int_cmp) rows-total a b (λ e. other (rows-Equal a b e)) (sym (row_smaller-cmp b a) ∙ h)

not-alike : (a b : List ℤ) → slice_cmp int_cmp a b ≡ Greater → row_same a b ≡ false
not-alike a b h =
    let go : (c : Bool) → row_same a b ≡ c → c ≡ false = λ c. elim c as (λ c. row_same a b ≡ c → c ≡ false) [
      | true ↦ λ e. absurd (let tied : slice_cmp int_cmp a b ≡ Equal = ap (slice_cmp int_cmp a) (sym (row_same-is a b e)) ∙ tied_itself rows-total a in cc)
      | false ↦ λ e. refl
    ] in
    go (row_same a b) refl

-- a test of the smaller row and then of the rest, as a comparison
row-test : (a b : List ℤ) (rest : Bool) (o : Ordering) → rest ≡ is_lt o → (row_smaller a b || (row_same a b && rest)) ≡ is_lt (ordering_then (slice_cmp int_cmp a b) o)
row-test a b rest o is =
    let go : (q : Ordering) → slice_cmp int_cmp a b ≡ q → (row_smaller a b || (row_same a b && rest)) ≡ is_lt (ordering_then q o) =
    λ q. elim q as (λ q. slice_cmp int_cmp a b ≡ q → (row_smaller a b || (row_same a b && rest)) ≡ is_lt (ordering_then q o)) [
      | Less ↦ λ e. (let small : row_smaller a b ≡ true = row_smaller-cmp a b ∙ ap is_lt e in ap (λ c. c || (row_same a b && rest)) small)
      | Equal ↦ λ e. (
          let same = rows-Equal a b e in
          let small = smaller-none a b same in
          let alike : row_same a b ≡ true = subst (λ r. row_same a r ≡ true) same (row_same-self a) in
          ap (λ c. c || (row_same a b && rest)) small ∙ (ap (λ c. c && rest) alike ∙ is))
      | Greater ↦ λ e. (
          let small : row_smaller a b ≡ false = row_smaller-cmp a b ∙ ap is_lt e in
          let other : row_same a b ≡ false = not-alike a b e in
          ap (λ c. c || (row_same a b && rest)) small ∙ ap (λ c. c && rest) other)
    ] in
    go (slice_cmp int_cmp a b) refl

smaller-then : (a b c : List ℤ) → row_smaller a b ≡ true → row_smaller b c ≡ true → row_smaller a c ≡ true
smaller-then a b c h g =
    let first = is_lt-Less (slice_cmp int_cmp a b) (sym (row_smaller-cmp a b) ∙ h) in
    let second = is_lt-Less (slice_cmp int_cmp b c) (sym (row_smaller-cmp b c) ∙ g) in
    row_smaller-cmp a c ∙ ap is_lt (rows-total.trans a b c first second)

smaller-other : (a b : List ℤ) → row_smaller a b ≡ true → a ≢ b
smaller-other a b h e = let none = smaller-none a b e in absurd (cc)

-- Places by state.

abbrev state_cmp : List Reached → ℕ → ℕ → Ordering
state_cmp cs =
    then_cmp (on (λ i. (at cs i).row) (slice_cmp int_cmp))
    (then_cmp (flip_args (on (λ i. (at cs i).value) int_cmp)) nat_cmp)

state-total : (cs : List Reached) → IsTotalOrder (state_cmp cs)
state-total cs =
    then_total (on_total (λ i. (at cs i).row) rows-total)
    (then_total (back_total (on_total (λ i. (at cs i).value) int_cmp_total)) nat_cmp_total)

nat_lt-cmp : (i j : ℕ) → nat_lt i j ≡ is_lt (nat_cmp i j)
nat_lt-cmp i j = elim (nat_lt i j) as (λ b. b ≡ is_lt (cond b Less (cond (nat_eq i j) Equal Greater))) [
  | true ↦ refl
  | false ↦ elim (nat_eq i j) as (λ b. false ≡ is_lt (cond b Equal Greater)) [ true ↦ refl | false ↦ refl ]
]

comes_before-cmp : (cs : List Reached) (i j : ℕ) → comes_before cs i j ≡ is_lt (state_cmp cs i j)
comes_before-cmp cs i j =
    row-test (at cs i).row (at cs j).row _ _
    (then-test (at cs j).value (at cs i).value _ _ _ refl (nat_lt-cmp i j))

pub comes-strict : (cs : List Reached) → IsStrictWeakOrder (comes_before cs)
comes-strict cs = strict-by (comes_before cs) (state_cmp cs) (state-total cs) (comes_before-cmp cs)

equal-places : (i j : ℕ) → cond (nat_eq i j) Equal Greater ≡ Equal → i ≡ j
equal-places i j h =
    let go : (b : Bool) → nat_eq i j ≡ b → cond b Equal Greater ≡ Equal → i ≡ j =
    λ b. elim b as (λ b. nat_eq i j ≡ b → cond b Equal Greater ≡ Equal → i ≡ j) [ true ↦ λ e h. grind (arith, nat_tests) | false ↦ λ e h. absurd (cc) ] in
    go (nat_eq i j) refl h

nat_cmp-Equal : (i j : ℕ) → nat_cmp i j ≡ Equal → i ≡ j
nat_cmp-Equal i j h =
    let go : (b : Bool) → nat_lt i j ≡ b → cond b Less (cond (nat_eq i j) Equal Greater) ≡ Equal → i ≡ j =
    λ b. elim b as (λ b. nat_lt i j ≡ b → cond b Less (cond (nat_eq i j) Equal Greater) ≡ Equal → i ≡ j) [
      | true ↦ λ e h. absurd (cc)
      | false ↦ λ e h. equal-places i j h
    ] in
    go (nat_lt i j) refl h

comes-total : (cs : List Reached) (i j : ℕ) → i ≢ j → comes_before cs j i ≡ false → comes_before cs i j ≡ true
comes-total cs i j other h =
    comes_before-cmp cs i j ∙ lesser-total (state_cmp cs) (state-total cs) i j (λ e. other (nat_cmp-Equal i j (then-Equal (int_cmp (at cs j).value (at cs i).value) (nat_cmp i j) (then-Equal (slice_cmp int_cmp (at cs i).row (at cs j).row) _ e).1).1)) (sym (comes_before-cmp cs j i) ∙ h)

first-false : (a b : Bool) → (a || b) ≡ false → a ≡ false
first-false true b h = absurd (cc)
first-false false b h = refl

second-true : (a b c : Bool) → a ≡ false → (a || (b && c)) ≡ true → c ≡ true
second-true true b c e h = absurd (cc)
second-true false true c e h = h
second-true false false c e h = absurd (cc)

values-of : (v w : ℤ) (i j : ℕ) → (int_lt w v || (int_same w v && nat_lt i j)) ≡ true → (w <ℤ v) ⊎ ((w ≤ℤ v) × (i < j))
values-of v w i j h =
    let go : (b : Bool) → int_lt w v ≡ b → (b || (int_same w v && nat_lt i j)) ≡ true → (w <ℤ v) ⊎ ((w ≤ℤ v) × (i < j)) =
    λ b. elim b as (λ b. int_lt w v ≡ b → (b || (int_same w v && nat_lt i j)) ≡ true → (w <ℤ v) ⊎ ((w ≤ℤ v) × (i < j))) [
      | true ↦ λ e h. inl (grind (arith, ints))
      | false ↦ λ e h. (
          let parts = and_parts (int_same w v) (nat_lt i j) h in
          let same = int_same-is w v parts.0 in let less : nat_lt i j ≡ true = parts.1 in
          inr (omega (arith, ints), grind (arith, nat_tests)))
    ] in
    go (int_lt w v) refl h

-- a row does not come after that of a later place
comes-rows : (cs : List Reached) (i j : ℕ) → comes_before cs i j ≡ true → row_smaller (at cs j).row (at cs i).row ≡ false
comes-rows cs i j h = first-false (row_smaller (at cs j).row (at cs i).row) _ ((comes-strict cs).one_way i j h)

-- of one row the greater value comes first, and of one value the earlier place
comes-values : (cs : List Reached) (i j : ℕ) → comes_before cs i j ≡ true → (at cs j).row ≡ (at cs i).row → ((at cs j).value <ℤ (at cs i).value) ⊎ (((at cs j).value ≤ℤ (at cs i).value) × (i < j))
comes-values cs i j h same =
    let rest = second-true (row_smaller (at cs i).row (at cs j).row) (row_same (at cs i).row (at cs j).row) _ (smaller-none (at cs i).row (at cs j).row (sym same)) h in
    values-of (at cs i).value (at cs j).value i j rest

-- The best of a state by places.

-- an element within does not depend on the default
at-any : (P : Reached → Type 0) (cs : List Reached) (j : ℕ) (d : Reached) → j < length cs → P (at cs j) → P (get_or cs j d)
at-any P [] j d less h = absurd (omega arith)
at-any P (c ∷ cs) zero d less h = h
at-any P (c ∷ cs) (suc j) d less h = at-any P cs j d (omega arith) h

pub best-at : (cs : List Reached) (i : ℕ) → IsBestAt cs i → IsBestOfState cs (at cs i)
best-at [] i h = let within = h.within in absurd (omega arith)
best-at (c ∷ cs) zero h = record {
  before = [];
  after = cs;
  split = refl;
  earlier = tt;
  later = each-at (λ o. o.row ≡ c.row → o.value ≤ℤ c.value) cs (λ j d less. at-any (λ o. o.row ≡ c.row → o.value ≤ℤ c.value) cs j d less (h.later (suc j) (omega arith) (omega arith)));
}
best-at (c ∷ cs) (suc i) h =
    let more = best-at cs i (record {
      within = (let within = h.within in omega arith);
      earlier = λ j less. h.earlier (suc j) (omega arith);
      later = λ j less within. h.later (suc j) (omega arith) (omega arith);
    }) in
    record { before = c ∷ more.before; after = more.after; split = ap (λ l. c ∷ l) more.split; earlier = (h.earlier 0 (omega arith), more.earlier); later = more.later }

-- The firsts.

-- the place is the best of its state where those that come after it are all that have its row
first-best : (cs : List Reached) (i : ℕ) (ps : List ℕ) → i < length cs → Each (λ j. comes_before cs i j ≡ true) ps
    → ((j : ℕ) → j < length cs → (at cs j).row ≡ (at cs i).row → (j ≡ i) ⊎ Has j ps) → IsBestAt cs i
first-best cs i ps within before all = record {
  within = within;
  earlier = λ j less same. elim (all j (omega arith) same) as (λ _. (at cs j).value <ℤ (at cs i).value) [
    | inl e ↦ absurd (omega arith)
    | inr later ↦ elim (comes-values cs i j (each-has (λ j. comes_before cs i j ≡ true) ps j before later) same) as (λ _. (at cs j).value <ℤ (at cs i).value) [ inl lower ↦ lower | inr wrong ↦ absurd (let up = wrong.1 in omega arith) ]
  ];
  later = λ j less there same. elim (all j there same) as (λ _. (at cs j).value ≤ℤ (at cs i).value) [
    | inl e ↦ absurd (omega arith)
    | inr later ↦ elim (comes-values cs i j (each-has (λ j. comes_before cs i j ≡ true) ps j before later) same) as (λ _. (at cs j).value ≤ℤ (at cs i).value) [ inl lower ↦ omega (arith, ints) | inr equal ↦ equal.0 ]
  ];
}

module _ (cs : List Reached) where
  abbrev pub row_at : ℕ → List ℤ
  row_at i = (at cs i).row

  -- each place is among those that are left, or its row does not come after that of the last first
  abbrev Passed : ℕ → List ℕ → Type 0
  Passed i ps = (j : ℕ) → j < length cs → Has j ps ⊎ (row_smaller (row_at i) (row_at j) ≡ false)

  -- no row that is left comes before that of the last first
  abbrev NoneBefore : ℕ → List ℕ → Type 0
  NoneBefore i ps = Each (λ j. row_smaller (row_at j) (row_at i) ≡ false) ps

  abbrev BySort : List ℕ → Type 0
  BySort ps = EachTwo (λ a b. comes_before cs a b ≡ true) ps

  none-before : (i : ℕ) (ps : List ℕ) → Each (λ j. comes_before cs i j ≡ true) ps → NoneBefore i ps
  none-before i ps h = Each-then (λ j. comes_before cs i j ≡ true) (λ j. row_smaller (row_at j) (row_at i) ≡ false) ps (λ j before. comes-rows cs i j before) h

  best-after : (last : ℕ) (ps : List ℕ) → Passed last ps → NoneBefore last ps → BySort ps → Each (λ j. j < length cs) ps → Each (IsBestAt cs) (firsts_after cs last ps)
  best-after last [] passed after two within = tt
  best-after last (i ∷ ps) passed after two within =
      let go : (b : Bool) → row_same (row_at last) (row_at i) ≡ b → Each (IsBestAt cs) (cond b (firsts_after cs last ps) (i ∷ firsts_after cs i ps)) =
      λ b. elim b as (λ b. row_same (row_at last) (row_at i) ≡ b → Each (IsBestAt cs) (cond b (firsts_after cs last ps) (i ∷ firsts_after cs i ps))) [
        | true ↦ λ same. (
            let e = row_same-is (row_at last) (row_at i) same in
            best-after last ps (λ j less. elim (passed j less) as (λ _. Has j ps ⊎ (row_smaller (row_at last) (row_at j) ≡ false)) [
              | inl has ↦ elim has as (λ _. Has j ps ⊎ (row_smaller (row_at last) (row_at j) ≡ false)) [ inl here ↦ inr (smaller-none (row_at last) (row_at j) (e ∙ ap row_at here)) | inr later ↦ inl later ]
              | inr le ↦ inr le
            ]) after.1 two.1 within.1)
        | false ↦ λ other. (
            let less_row = smaller-total (row_at last) (row_at i) (rows-other (row_at last) (row_at i) other) after.0 in
            let all : (j : ℕ) → j < length cs → row_at j ≡ row_at i → (j ≡ i) ⊎ Has j ps = λ j less same. elim (passed j less) as (λ _. (j ≡ i) ⊎ Has j ps) [
              | inl has ↦ elim has as (λ _. (j ≡ i) ⊎ Has j ps) [ inl here ↦ inl (sym here) | inr later ↦ inr later ]
              | inr le ↦ absurd (let up : row_smaller (row_at last) (row_at j) ≡ true = ap (row_smaller (row_at last)) same ∙ less_row in cc)
            ] in
            let next : Passed i ps = λ j less. elim (passed j less) as (λ _. Has j ps ⊎ (row_smaller (row_at i) (row_at j) ≡ false)) [
              | inl has ↦ elim has as (λ _. Has j ps ⊎ (row_smaller (row_at i) (row_at j) ≡ false)) [ inl here ↦ inr (smaller-none (row_at i) (row_at j) (ap row_at here)) | inr later ↦ inl later ]
              | inr le ↦ inr (smaller-strict.chain (row_at i) (row_at last) (row_at j) after.0 le)
            ] in
            (first-best cs i ps within.0 two.0 all, best-after i ps next (none-before i ps two.0) two.1 within.1))
      ] in
      go (row_same (row_at last) (row_at i)) refl

  smaller-after : (last : ℕ) (ps : List ℕ) → NoneBefore last ps → BySort ps → Each (λ j. row_smaller (row_at last) (row_at j) ≡ true) (firsts_after cs last ps)
  smaller-after last [] after two = tt
  smaller-after last (i ∷ ps) after two =
      let Small : List ℕ → Type 0 = Each (λ j. row_smaller (row_at last) (row_at j) ≡ true) in
      let go : (b : Bool) → row_same (row_at last) (row_at i) ≡ b → Small (cond b (firsts_after cs last ps) (i ∷ firsts_after cs i ps)) =
      λ b. elim b as (λ b. row_same (row_at last) (row_at i) ≡ b → Small (cond b (firsts_after cs last ps) (i ∷ firsts_after cs i ps))) [
        | true ↦ λ same. smaller-after last ps after.1 two.1
        | false ↦ λ other. (
            let less_row = smaller-total (row_at last) (row_at i) (rows-other (row_at last) (row_at i) other) after.0 in
            let rest = smaller-after i ps (none-before i ps two.0) two.1 in
            (less_row, Each-then (λ j. row_smaller (row_at i) (row_at j) ≡ true) (λ j. row_smaller (row_at last) (row_at j) ≡ true) (firsts_after cs i ps) (λ j up. smaller-then (row_at last) (row_at i) (row_at j) less_row up) rest))
      ] in
      go (row_same (row_at last) (row_at i)) refl

  other-after : (last : ℕ) (ps : List ℕ) → NoneBefore last ps → BySort ps → Each (λ j. row_at last ≢ row_at j) (firsts_after cs last ps)
  other-after last ps after two =
      Each-then (λ j. row_smaller (row_at last) (row_at j) ≡ true) (λ j. row_at last ≢ row_at j) (firsts_after cs last ps) (λ j up. smaller-other (row_at last) (row_at j) up) (smaller-after last ps after two)

  differ-after : (last : ℕ) (ps : List ℕ) → NoneBefore last ps → BySort ps → EachTwo (λ a b. row_at a ≢ row_at b) (firsts_after cs last ps)
  differ-after last [] after two = tt
  differ-after last (i ∷ ps) after two =
      elim (row_same (row_at last) (row_at i)) as (λ b. EachTwo (λ a b. row_at a ≢ row_at b) (cond b (firsts_after cs last ps) (i ∷ firsts_after cs i ps))) [
        | true ↦ differ-after last ps after.1 two.1
        | false ↦ (other-after i ps (none-before i ps two.0) two.1, differ-after i ps (none-before i ps two.0) two.1)
      ]

  rows-after : (last : ℕ) (ps : List ℕ) (j : ℕ) → Has j ps → (row_at last ≡ row_at j) ⊎ OneOf (λ q. row_at q ≡ row_at j) (firsts_after cs last ps)
  rows-after last [] j has = absurd has
  rows-after last (i ∷ ps) j has =
      let go : (b : Bool) → row_same (row_at last) (row_at i) ≡ b → (row_at last ≡ row_at j) ⊎ OneOf (λ q. row_at q ≡ row_at j) (cond b (firsts_after cs last ps) (i ∷ firsts_after cs i ps)) =
      λ b. elim b as (λ b. row_same (row_at last) (row_at i) ≡ b → (row_at last ≡ row_at j) ⊎ OneOf (λ q. row_at q ≡ row_at j) (cond b (firsts_after cs last ps) (i ∷ firsts_after cs i ps))) [
        | true ↦ λ same. elim has as (λ _. (row_at last ≡ row_at j) ⊎ OneOf (λ q. row_at q ≡ row_at j) (firsts_after cs last ps)) [
          | inl here ↦ inl (row_same-is (row_at last) (row_at i) same ∙ ap row_at here)
          | inr later ↦ rows-after last ps j later
        ]
        | false ↦ λ other. elim has as (λ _. (row_at last ≡ row_at j) ⊎ OneOf (λ q. row_at q ≡ row_at j) (i ∷ firsts_after cs i ps)) [
          | inl here ↦ inr (inl (ap row_at here))
          | inr later ↦ inr (elim (rows-after i ps j later) as (λ _. OneOf (λ q. row_at q ≡ row_at j) (i ∷ firsts_after cs i ps)) [ inl same ↦ inl same | inr one ↦ inr one ])
        ]
      ] in
      go (row_same (row_at last) (row_at i)) refl

  -- what the firsts of all places are
  pub record AreFirsts (ks : List ℕ) : Type 0 where
    pub best : Each (IsBestAt cs) ks
    pub differ : EachTwo (λ a b. row_at a ≢ row_at b) ks
    pub all : (j : ℕ) → j < length cs → OneOf (λ q. row_at q ≡ row_at j) ks

  firsts-of : (ps : List ℕ) → ((j : ℕ) → j < length cs → Has j ps) → BySort ps → Each (λ j. j < length cs) ps → AreFirsts (firsts cs ps)
  firsts-of [] has two within = record { best = tt; differ = tt; all = λ j less. absurd (has j less) }
  firsts-of (i ∷ ps) has two within =
      let none = none-before i ps two.0 in
      let passed : Passed i ps = λ j less. elim (has j less) as (λ _. Has j ps ⊎ (row_smaller (row_at i) (row_at j) ≡ false)) [ inl here ↦ inr (smaller-none (row_at i) (row_at j) (ap row_at here)) | inr later ↦ inl later ] in
      record {
        best = (
          first-best cs i ps within.0 two.0 (λ j less same. elim (has j less) as (λ _. (j ≡ i) ⊎ Has j ps) [ inl here ↦ inl (sym here) | inr later ↦ inr later ]),
          best-after i ps passed none two.1 within.1,
        );
        differ = (other-after i ps none two.1, differ-after i ps none two.1);
        all = λ j less. elim (has j less) as (λ _. OneOf (λ q. row_at q ≡ row_at j) (i ∷ firsts_after cs i ps)) [
          | inl here ↦ inl (ap row_at here)
          | inr later ↦ elim (rows-after i ps j later) as (λ _. OneOf (λ q. row_at q ≡ row_at j) (i ∷ firsts_after cs i ps)) [ inl same ↦ inl same | inr one ↦ inr one ]
        ];
      }

  pub firsts-sorted : (sorted : List ℕ) → IsPermutation (below (length cs)) sorted → IsSortedBy (comes_before cs) sorted → AreFirsts (firsts cs sorted)
  firsts-sorted sorted moved up =
      firsts-of sorted (λ j less. Has-permutation (below (length cs)) sorted moved j (Has-below (length cs) j less))
      (two-both (λ a b. comes_before cs b a ≡ false) (λ (a b : ℕ). a ≢ b) (λ a b. comes_before cs a b ≡ true) (λ a b none other. comes-total cs a b other none) sorted (two-sorted (comes_before cs) (comes-strict cs) sorted up) (places-differ (length cs) sorted moved))
      (each-permutation (below (length cs)) sorted moved (λ j. j < length cs) (each-of-all (λ j. j < length cs) (below (length cs)) (λ j has. Has-below-from (length cs) j has)))

places-strict : (dp : Dp) (k : ℕ) (cs : List Reached) → IsStrictWeakOrder (places_before dp k cs)
places-strict dp k cs =
    let strict = before-strict dp k in
    record { one_way = λ i j h. strict.one_way (at cs i) (at cs j) h; chain = λ i j l h g. strict.chain (at cs i) (at cs j) (at cs l) h g }

sorted-expands : (dp : Dp) (k : ℕ) (cs : List Reached) (sorted kept : List ℕ) → IsPermutation (below (length cs)) sorted → IsSortedBy (comes_before cs) sorted
    → IsPermutation (firsts cs sorted) kept → IsSortedBy (places_before dp k cs) kept → map (at cs) kept ≡ in_order dp k (all_joined [] cs)
sorted-expands dp k cs sorted kept moved by_state moved_again by_order =
    let ks = firsts cs sorted in
    let first = firsts-sorted cs sorted moved by_state in
    let best = Each-then (IsBestAt cs) (λ i. IsBestOfState cs (at cs i)) kept (λ i h. best-at cs i h) (each-permutation ks kept moved_again (IsBestAt cs) first.best) in
    let differ = keys-permutation row_same row_same-is row_same-self (λ (i : ℕ). (at cs i).row) ks kept moved_again first.differ in
    let all = each-at (λ c. OneOf (λ r. r.row ≡ c.row) (map (at cs) kept)) cs (λ j d less. at-any (λ c. OneOf (λ r. r.row ≡ c.row) (map (at cs) kept)) cs j d less
    (one-map (at cs) (λ r. r.row ≡ (at cs j).row) kept (one-permutation ks kept moved_again (λ q. (at cs q).row ≡ (at cs j).row) (first.all j less)))) in
    let order = two-both (λ i j. places_before dp k cs j i ≡ false) (λ i j. (at cs i).row ≢ (at cs j).row) (λ i j. stands_before dp k (at cs i) (at cs j) ≡ true) (λ i j none other. before-total dp k (at cs i) (at cs j) other none) kept (two-sorted (places_before dp k cs) (places-strict dp k cs) kept by_order) differ in
    (expansions-unique dp).only k cs (map (at cs) kept) (record {
      has = record { best = Each-map (at cs) (IsBestOfState cs) kept best; all = all };
      order = two-map (at cs) (λ a b. stands_before dp k a b ≡ true) kept order;
    })

pub sorting-expands : (dp : Dp) → SortingExpands dp
sorting-expands dp = record { by_state = comes-strict; by_order = places-strict dp; best = best-at; gives = sorted-expands dp }
