-- The dominator among the entries so far, along the runs of a fold.
use Rattle.std.proofs.Common.{◌≡◌, ◌≢◌, ℕ, zero, suc, ◌+◌, ◌-◌, ◌<◌, ◌≤◌, ℤ, pos, List, [], ◌∷◌, ◌++◌, length, take, map, filter, get_or, Bool, true, false, cond, nat_le, Option, Some, None, ◌⊎◌, inl, inr, refl, sym, ◌∙◌, ap, ap₂, subst, arith}
use Rattle.std.proofs.lemmas.Bool.{cases_eq, ne_eqb}
use Rattle.std.proofs.lemmas.Bool.Decides.{nat_tests}
use Rattle.std.proofs.lemmas.List.{map-append, take_more, take_all}
use Rattle.std.proofs.lemmas.List.Elements.{filter-append}
use Rattle.dp_model.specs.Dp.{Dp}
use Rattle.dp_model.specs.Lists.{Each}
use Rattle.dominance_table.specs.declared.entry.Entry.{Entry}
use Rattle.dominance_table.specs.declared.groups.Run.{Run}
use Rattle.dominance_table.specs.Groups.{fold_at, depth_at, bucket_at, end_at, start_at, group_fold}
use Rattle.dominance_table.specs.Dominator.{lesser, least, entry_dominates, dominator, IsReached, AreStates}
use Rattle.dominance_table.specs.Entries.{TableEntry, AreGrouped, AreRising, entry_at, row_at, with_row, with_rows}
use Rattle.dominance_table.proofs.Puts.{start_is}
use Rattle.dominance_table.proofs.Rows.{least-append, with_rows_at, length_with_rows}

no_entry : TableEntry
no_entry = record { depth = 0; bucket = 0; row = []; rank = pos 0; value = pos 0; ticket = 0 }

-- at a place of a list
each_at : {X : Type 0} (P : X → Type 0) (xs : List X) (i : ℕ) (d : X) → i < length xs → Each P xs → P (get_or xs i d)
each_at P [] i d less all = absurd (omega arith)
each_at P (x ∷ xs) zero d less all = all.0
each_at P (x ∷ xs) (suc i) d less all = each_at P xs i d (omega arith) all.1

lesser_some : (a : Option ℕ) (t : ℕ) → (m : ℕ) × (lesser a (Some t) ≡ Some m) × (m ≤ t)
lesser_some None t = (t, refl, omega arith)
lesser_some (Some m) t = (cond (nat_le m t) m t, refl, grind (arith, nat_tests))

module _ (dp : Dp) (depth : ℕ) (row : List ℤ) (worth : ℤ) where
  dominator-append : (xs ys : List TableEntry) → dominator dp (xs ++ ys) depth row worth ≡ lesser (dominator dp xs depth row worth) (dominator dp ys depth row worth)
  dominator-append xs ys =
      let p = entry_dominates dp depth row worth in
      ap (λ l. least (map (λ (e : TableEntry). e.ticket) l)) (filter-append p xs ys)
      ∙ (ap least (map-append (λ (e : TableEntry). e.ticket) (filter p xs) (filter p ys)) ∙ least-append (map (λ e. e.ticket) (filter p xs)) (map (λ e. e.ticket) (filter p ys)))

  alone : (e : TableEntry) (b : Bool) → entry_dominates dp depth row worth e ≡ b → dominator dp (e ∷ []) depth row worth ≡ cond b (Some e.ticket) None
  alone e b is = ap (λ t. least (map (λ (x : TableEntry). x.ticket) (cond t (e ∷ []) []))) is ∙ by b
    where
      by : (b : Bool) → least (map (λ (x : TableEntry). x.ticket) (cond b (e ∷ []) [])) ≡ cond b (Some e.ticket) None
      by true = refl
      by false = refl

  none-left : (o : Option ℕ) → lesser o None ≡ o
  none-left None = refl
  none-left (Some n) = refl

  module _ (words : ℕ) (entries : List Entry) (cells : List ℤ) where
    abbrev pub seen : List TableEntry
    seen = with_rows words entries cells

    one-more : (at : ℕ) → at < length entries → take (at + 1) seen ≡ take at seen ++ with_row (entry_at entries at) (row_at cells words at) ∷ []
    one-more at less =
        take_more seen at no_entry (subst (λ n. at < n) (sym (length_with_rows words entries cells)) less)
        ∙ ap (λ e. take at seen ++ e ∷ []) (with_rows_at words entries cells at no_entry less)

    pub past_then : (at : ℕ) → at < length entries → entry_dominates dp depth row worth (with_row (entry_at entries at) (row_at cells words at)) ≡ true
        → dominator dp (take (at + 1) seen) depth row worth ≡ lesser (dominator dp (take at seen) depth row worth) (Some (entry_at entries at).ticket)
    past_then at less is =
        ap (λ l. dominator dp l depth row worth) (one-more at less) ∙ (dominator-append (take at seen) (with_row (entry_at entries at) (row_at cells words at) ∷ [])
        ∙ ap (λ o. lesser (dominator dp (take at seen) depth row worth) o) (alone (with_row (entry_at entries at) (row_at cells words at)) true is))

    pub past_else : (at : ℕ) → at < length entries → entry_dominates dp depth row worth (with_row (entry_at entries at) (row_at cells words at)) ≡ false
        → dominator dp (take (at + 1) seen) depth row worth ≡ dominator dp (take at seen) depth row worth
    past_else at less is =
        ap (λ l. dominator dp l depth row worth) (one-more at less) ∙ (dominator-append (take at seen) (with_row (entry_at entries at) (row_at cells words at) ∷ [])
        ∙ (ap (λ o. lesser (dominator dp (take at seen) depth row worth) o) (alone (with_row (entry_at entries at) (row_at cells words at)) false is) ∙ none-left (dominator dp (take at seen) depth row worth)))

    -- a row of the depth is a state, and its rank is the state's
    pub state_at : (at : ℕ) → at < length entries → AreStates dp depth seen → (entry_at entries at).depth ≡ depth → IsReached dp depth (row_at cells words at) (entry_at entries at).rank
    state_at at less states =
        let here = each_at (λ (e : TableEntry). e.depth ≡ depth → IsReached dp depth e.row e.rank) seen at no_entry (subst (λ n. at < n) (sym (length_with_rows words entries cells)) less) states in
        subst (λ (e : TableEntry). e.depth ≡ depth → IsReached dp depth e.row e.rank) (with_rows_at words entries cells at no_entry less) here

    -- past the last entry
    pub past_all : (at : ℕ) → length entries ≤ at → take at seen ≡ seen
    past_all at all = take_all at seen (subst (λ n. n ≤ at) (sym (length_with_rows words entries cells)) all)

    -- an entry of another group doesn't dominate
    other-group : (at : ℕ) → ((entry_at entries at).depth ≡ depth → (entry_at entries at).bucket ≡ dp.bucket depth row → ⊥)
        → entry_dominates dp depth row worth (with_row (entry_at entries at) (row_at cells words at)) ≡ false
    other-group at other = by (cases_eq (entry_at entries at).depth depth) (cases_eq (entry_at entries at).bucket (dp.bucket depth row))
      where
        by : ((entry_at entries at).depth ≡ depth) ⊎ ((entry_at entries at).depth ≢ depth) → ((entry_at entries at).bucket ≡ dp.bucket depth row) ⊎ ((entry_at entries at).bucket ≢ dp.bucket depth row)
            → entry_dominates dp depth row worth (with_row (entry_at entries at) (row_at cells words at)) ≡ false
        by (inl d) (inl b) = absurd (other d b)
        by (inr d) b = let k = ne_eqb _ _ d in cc
        by (inl d) (inr b) = let k = ne_eqb _ _ b in grind (arith, nat_tests)

    -- places of entries of other groups
    skipped : (at n : ℕ) → ((j : ℕ) → at ≤ j → j < at + n → (entry_at entries j).depth ≡ depth → (entry_at entries j).bucket ≡ dp.bucket depth row → ⊥)
        → at + n ≤ length entries → dominator dp (take (at + n) seen) depth row worth ≡ dominator dp (take at seen) depth row worth
    skipped at zero others all = let none : at + 0 ≡ at = omega arith in ap (λ k. dominator dp (take k seen) depth row worth) none
    skipped at (suc n) others all =
        let rest = skipped (at + 1) n (λ j from to. others j (omega arith) (omega arith)) (omega arith) in
        let first = past_else at (omega arith) (other-group at (others at (omega arith) (omega arith))) in
        let sum : at + suc n ≡ at + 1 + n = omega arith in
        ap (λ k. dominator dp (take k seen) depth row worth) sum ∙ (rest ∙ first)

    -- a run of another group
    pub skipped_run : (runs : List Run) (r : ℕ) → AreGrouped entries runs → r < length runs → (depth_at runs r ≡ depth → bucket_at runs r ≡ dp.bucket depth row → ⊥)
        → dominator dp (take (start_at runs (r + 1)) seen) depth row worth ≡ dominator dp (take (start_at runs r) seen) depth row worth
    skipped_run runs r grouped less other =
        let ordered = grouped.ordered r less in
        let within = grouped.within r less in
        let sum : start_at runs r + (end_at runs r - start_at runs r) ≡ end_at runs r = omega arith in
        ap (λ k. dominator dp (take k seen) depth row worth) (start_is runs r ∙ sym sum)
        ∙ skipped (start_at runs r) (end_at runs r - start_at runs r)
        (λ j from to d b. (let end : j < end_at runs r = omega arith in other (sym (grouped.depth r j less from end) ∙ d) (sym (grouped.bucket r j less from end) ∙ b))) (omega arith)

    -- runs that the chain leaves out
    skipped-runs : (runs : List Run) (at n : ℕ) → AreGrouped entries runs → at + n ≤ length runs
        → ((j : ℕ) → at ≤ j → j < at + n → fold_at runs j ≢ group_fold depth (dp.bucket depth row))
        → dominator dp (take (start_at runs (at + n)) seen) depth row worth ≡ dominator dp (take (start_at runs at) seen) depth row worth
    skipped-runs runs at zero grouped all others = let none : at + 0 ≡ at = omega arith in ap (λ k. dominator dp (take (start_at runs k) seen) depth row worth) none
    skipped-runs runs at (suc n) grouped all others =
        let rest = skipped-runs runs (at + 1) n grouped (omega arith) (λ j from to. others j (omega arith) (omega arith)) in
        let less : at < length runs = omega arith in
        let first = skipped_run runs at grouped less (λ d b. others at (omega arith) (omega arith) (grouped.fold at less ∙ ap₂ group_fold d b)) in
        let sum : at + suc n ≡ at + 1 + n = omega arith in
        ap (λ k. dominator dp (take (start_at runs k) seen) depth row worth) sum ∙ (rest ∙ first)

    -- before the first place
    pub at_start : None ≡ dominator dp (take 0 seen) depth row worth
    at_start = refl

    -- so far before the run at the place, or among all entries where that is past all runs
    abbrev pub IsSoFar : List Run → ℕ → Option ℕ → Type 0
    IsSoFar runs at o = (at < length runs → o ≡ dominator dp (take (start_at runs at) seen) depth row worth) × (length runs ≤ at → o ≡ dominator dp seen depth row worth)

    pub jumped : (runs : List Run) (at next : ℕ) (o : Option ℕ) → at ≤ next → at ≤ length runs → AreGrouped entries runs
        → ((j : ℕ) → at ≤ j → j < next → j < length runs → fold_at runs j ≢ group_fold depth (dp.bucket depth row))
        → o ≡ dominator dp (take (start_at runs at) seen) depth row worth → IsSoFar runs next o
    jumped runs at next o later within grouped others is = (
      λ less. (
          let sum : at + (next - at) ≡ next = omega arith in
          is ∙ sym (ap (λ k. dominator dp (take (start_at runs k) seen) depth row worth) (sym sum) ∙ skipped-runs runs at (next - at) grouped (omega arith) (λ j from to. others j from (omega arith) (omega arith)))),
      λ past. (
          let sum : at + (length runs - at) ≡ length runs = omega arith in
          let all : take (start_at runs (length runs)) seen ≡ seen = past_all (start_at runs (length runs)) (let k = grouped.all in omega arith) in
          is ∙ sym (ap (λ l. dominator dp l depth row worth) (sym all)
          ∙ (ap (λ k. dominator dp (take (start_at runs k) seen) depth row worth) (sym sum) ∙ skipped-runs runs at (length runs - at) grouped (omega arith) (λ j from to. others j from (omega arith) (omega arith))))),
    )

    -- where tickets rise, no later ticket is less than the least so far
    bound : (k m : ℕ) → k ≤ length entries → AreRising entries → dominator dp (take k seen) depth row worth ≡ Some m
        → (j : ℕ) → k ≤ j → j < length entries → m ≤ (entry_at entries j).ticket
    bound zero m all rising is j from less = let no : None ≡ Some m = is in absurd (cc)
    bound (suc k) m all rising is j from less = by (λ before. bound k m (omega arith) rising before j (omega arith) less) (entry_dominates dp depth row worth (with_row (entry_at entries k) (row_at cells words k))) refl
      where
        here : dominator dp (take (k + 1) seen) depth row worth ≡ Some m
        here = let one : k + 1 ≡ suc k = omega arith in ap (λ n. dominator dp (take n seen) depth row worth) one ∙ is

        by : (dominator dp (take k seen) depth row worth ≡ Some m → m ≤ (entry_at entries j).ticket)
            → (b : Bool) → entry_dominates dp depth row worth (with_row (entry_at entries k) (row_at cells words k)) ≡ b → m ≤ (entry_at entries j).ticket
        by earlier true own =
            let least = lesser_some (dominator dp (take k seen) depth row worth) (entry_at entries k).ticket in
            let same : Some least.0 ≡ Some m = sym least.1 ∙ (sym (past_then k (omega arith) own) ∙ here) in
            let number : least.0 ≡ m = cc in
            let most = least.2 in
            let step = rising k j (omega arith) less in omega arith
        by earlier false own = earlier (sym (past_else k (omega arith) own) ∙ here)

    lesser-same : (m t : ℕ) → m ≤ t → lesser (Some m) (Some t) ≡ Some m
    lesser-same m t most = ap (λ n. Some n) (grind (arith, nat_tests))

    stays-more : (k n m : ℕ) → k + n ≤ length entries → ((j : ℕ) → k ≤ j → j < length entries → m ≤ (entry_at entries j).ticket)
        → dominator dp (take k seen) depth row worth ≡ Some m → dominator dp (take (k + n) seen) depth row worth ≡ Some m
    stays-more k zero m all most is = let none : k + 0 ≡ k = omega arith in ap (λ n. dominator dp (take n seen) depth row worth) none ∙ is
    stays-more k (suc n) m all most is = by (stays-more k n m (omega arith) most is) (entry_dominates dp depth row worth (with_row (entry_at entries (k + n)) (row_at cells words (k + n)))) refl
      where
        sum : dominator dp (take (k + suc n) seen) depth row worth ≡ dominator dp (take (k + n + 1) seen) depth row worth
        sum = let one : k + suc n ≡ k + n + 1 = omega arith in ap (λ l. dominator dp (take l seen) depth row worth) one

        by : dominator dp (take (k + n) seen) depth row worth ≡ Some m
            → (b : Bool) → entry_dominates dp depth row worth (with_row (entry_at entries (k + n)) (row_at cells words (k + n))) ≡ b → dominator dp (take (k + suc n) seen) depth row worth ≡ Some m
        by so-far true own = sum ∙ (past_then (k + n) (omega arith) own ∙ (ap (λ o. lesser o (Some (entry_at entries (k + n)).ticket)) so-far ∙ lesser-same m (entry_at entries (k + n)).ticket (most (k + n) (omega arith) (omega arith))))
        by so-far false own = sum ∙ (past_else (k + n) (omega arith) own ∙ so-far)

    -- where tickets rise, the first that dominates has the least
    pub settled : (k n m : ℕ) → k ≤ n → n ≤ length entries → AreRising entries → dominator dp (take k seen) depth row worth ≡ Some m
        → dominator dp (take n seen) depth row worth ≡ Some m
    settled k n m later all rising is =
        let sum : k + (n - k) ≡ n = omega arith in
        ap (λ l. dominator dp (take l seen) depth row worth) (sym sum) ∙ stays-more k (n - k) m (omega arith) (bound k m (omega arith) rising is) is

    pub settled_all : (k m : ℕ) → k ≤ length entries → AreRising entries → dominator dp (take k seen) depth row worth ≡ Some m → dominator dp seen depth row worth ≡ Some m
    settled_all k m all rising is =
        ap (λ l. dominator dp l depth row worth) (sym (past_all (length entries) (omega arith))) ∙ settled k (length entries) m all (omega arith) rising is

    -- the least so far, where one more dominates, is there
    pub found_one : (at : ℕ) → (m : ℕ) × (lesser (dominator dp (take at seen) depth row worth) (Some (entry_at entries at).ticket) ≡ Some m)
    found_one at = let least = lesser_some (dominator dp (take at seen) depth row worth) (entry_at entries at).ticket in (least.0, least.1)
