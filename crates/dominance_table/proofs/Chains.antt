-- The chains of runs with one more, and with the last one longer.
use Rattle.std.proofs.Common.{◌≡◌, ◌≢◌, ℕ, ◌<◌, ◌≤◌, List, length, nat_eq, Option, Some, None, ◌⊎◌, inl, inr, refl, sym, ◌∙◌, ap, subst, arith}
use Rattle.std.proofs.lemmas.Bool.{cases_eq}
use Rattle.indexmap.specs.IndexMap.{get}
use Rattle.dominance_table.specs.declared.groups.Run.{Run}
use Rattle.dominance_table.specs.declared.groups.Ends.{Ends}
use Rattle.dominance_table.specs.Groups.{RunHeads, AreChained, IsAppended, IsLonger, fold_at, next_at, last_in, ends_after, no_place}

-- the last run is longer
pub chained_longer : (heads : RunHeads) (old new : List Run) (depth bucket end : ℕ) → AreChained heads old → IsLonger old new depth bucket end → AreChained heads new
chained_longer heads old new depth bucket end h is =
    let len = is.len in
    let there : (j : ℕ) → j < length new → j < length old = λ j less. omega arith in
    record {
      none = λ f j at less same. h.none f j at (there j less) (sym (is.folds j (there j less)) ∙ same);
      within = λ f e at. (let a = h.within f e at in omega arith);
      ordered = h.ordered;
      first = λ f e at. (let a = h.ordered f e at in let b = h.within f e at in is.folds e.first (omega arith) ∙ h.first f e at);
      last = λ f e at. is.folds e.last (h.within f e at) ∙ h.last f e at;
      before = λ f j e at less inside same. h.before f j e at less (there j inside) (sym (is.folds j (there j inside)) ∙ same);
      after = λ f j e at less inside same. h.after f j e at less (there j inside) (sym (is.folds j (there j inside)) ∙ same);
      later = λ i less. subst (λ n. i < n) (sym (is.nexts i (there i less))) (h.later i (there i less));
      next = λ i less inside.
          let own = there i less in
          let same = is.nexts i own in
          let within : next_at old i < length old = subst (λ n. n < length old) same (there (next_at new i) inside) in
          ap (fold_at new) same ∙ (is.folds (next_at old i) within ∙ (h.next i own within ∙ sym (is.folds i own)));
      none_next = λ i less.
          let own = there i less in
          let same = is.nexts i own in
          elim (h.none_next i own) as (λ _. (next_at new i < length new) ⊎ (next_at new i ≡ no_place)) [
            | inl within ↦ inl (omega arith)
            | inr ended ↦ inr (same ∙ ended)
          ];
      between = λ i j less before inside same.
          let own : i < length old = omega arith in
          h.between i j less (subst (λ n. j < n) (is.nexts i own) before) (there j inside) (sym (is.folds j (there j inside)) ∙ (same ∙ is.folds i own));
    }

last_after : (o : Option Ends) (place : ℕ) → (ends_after o place).last ≡ place
last_after None place = refl
last_after (Some e) place = refl

-- what stands before the first of the fold, once the place is its last
before_first : (heads : RunHeads) (runs : List Run) (f j : ℕ) (o : Option Ends) → AreChained heads runs → get nat_eq heads f ≡ o → j < (ends_after o (length runs)).first
    → (j < length runs) × (fold_at runs j ≢ f)
before_first heads runs f j None h is less = (less, h.none f j is less)
before_first heads runs f j (Some e) h is less =
    let within : j < length runs = (let a = h.ordered f e is in let b = h.within f e is in omega arith) in
    (within, h.before f j e is less within)

module _ (heads heads' : RunHeads) (runs runs' : List Run) (fold : ℕ) (h : AreChained heads runs) (more : IsAppended runs runs' (last_in (get nat_eq heads fold)) fold) where
  -- an entry that was there, or the new one
  old-or-new : (j : ℕ) → j < length runs' → (j < length runs) ⊎ (j ≡ length runs)
  old-or-new j less = let len = more.entered.len in grind arith

  -- an entry of another fold has not the new one's
  other-fold : (f j : ℕ) → f ≢ fold → j < length runs' → (j < length runs → fold_at runs j ≢ f) → fold_at runs' j ≢ f
  other-fold f j other less old same = elim (old-or-new j less) as (λ _. ⊥) [
    | inl there ↦ old there (sym (more.entered.kept j there) ∙ same)
    | inr here ↦ other (sym same ∙ (ap (fold_at runs') here ∙ more.entered.fold_is))
  ]

  -- an entry is the last of the fold, or it keeps its next
  last-or-not : (i : ℕ) → i < length runs → (last_in (get nat_eq heads fold) ≡ Some i) ⊎ (next_at runs' i ≡ next_at runs i)
  last-or-not i less = by (last_in (get nat_eq heads fold)) refl
    where
      by : (o : Option ℕ) → last_in (get nat_eq heads fold) ≡ o → (last_in (get nat_eq heads fold) ≡ Some i) ⊎ (next_at runs' i ≡ next_at runs i)
      by None is = inr (more.nexts i less (λ e. cc))
      by (Some l) is = elim (cases_eq l i) as (λ _. (last_in (get nat_eq heads fold) ≡ Some i) ⊎ (next_at runs' i ≡ next_at runs i)) [
        | inl same ↦ inl (is ∙ ap (λ n. Some n) same)
        | inr other ↦ inr (more.nexts i less (λ e. other (let k : Some l ≡ Some i = sym is ∙ e in cc)))
      ]

  -- the last of the fold
  ends-of : (i : ℕ) → last_in (get nat_eq heads fold) ≡ Some i → (e : Ends) × (get nat_eq heads fold ≡ Some e) × (e.last ≡ i)
  ends-of i is = by (get nat_eq heads fold) refl is
    where
      by : (o : Option Ends) → get nat_eq heads fold ≡ o → last_in o ≡ Some i → (e : Ends) × (get nat_eq heads fold ≡ Some e) × (e.last ≡ i)
      by None at is = absurd (cc)
      by (Some e) at is = (e, at, cc)

  -- the new one has not the fold of an entry that does not come last in its own
  new-fold : (i : ℕ) → i < length runs → length runs < next_at runs i → last_in (get nat_eq heads fold) ≢ Some i → fold_at runs i ≢ fold
  new-fold i less later not-last same = by (get nat_eq heads fold) refl
    where
      by : (o : Option Ends) → get nat_eq heads fold ≡ o → ⊥
      by None at = h.none fold i at less same
      by (Some e) at =
          let within = h.within fold e at in
          let no : e.last ≢ i = λ k. not-last (ap last_in at ∙ ap (λ n. Some n) k) in
          let side : (e.last < i) ⊎ (i < e.last) = grind arith in
          elim side as (λ _. ⊥) [
            | inl past ↦ h.after fold i e at past less same
            | inr before ↦ h.between i e.last before (omega arith) within (h.last fold e at ∙ sym same)
          ]

  pub chained_more : get nat_eq heads' fold ≡ Some (ends_after (get nat_eq heads fold) (length runs)) → ((f : ℕ) → f ≢ fold → get nat_eq heads' f ≡ get nat_eq heads f) → AreChained heads' runs'
  chained_more ends others =
      let len = more.entered.len in
      let now : (f : ℕ) (e : Ends) → f ≡ fold → get nat_eq heads' f ≡ Some e → e ≡ ends_after (get nat_eq heads fold) (length runs) =
      λ f e same at. (let k : get nat_eq heads' fold ≡ Some e = subst (λ n. get nat_eq heads' n ≡ Some e) same at in cc) in
      let last-now : (f : ℕ) (e : Ends) → f ≡ fold → get nat_eq heads' f ≡ Some e → e.last ≡ length runs =
      λ f e same at. ap (λ (x : Ends). x.last) (now f e same at) ∙ last_after (get nat_eq heads fold) (length runs) in
      let was : (f : ℕ) (o : Option Ends) → f ≢ fold → get nat_eq heads' f ≡ o → get nat_eq heads f ≡ o = λ f o other at. sym (others f other) ∙ at in
      record {
        none = λ f j at less same. elim (cases_eq f fold) as (λ _. ⊥) [
          | inl here ↦ (let k : get nat_eq heads' fold ≡ None = subst (λ n. get nat_eq heads' n ≡ None) here at in cc)
          | inr other ↦ other-fold f j other less (λ there. h.none f j (was f None other at) there) same
        ];
        within = λ f e at. elim (cases_eq f fold) as (λ _. e.last < length runs') [
          | inl here ↦ (let k = last-now f e here at in omega arith)
          | inr other ↦ (let k = h.within f e (was f (Some e) other at) in omega arith)
        ];
        ordered = λ f e at. elim (cases_eq f fold) as (λ _. e.first ≤ e.last) [
          | inl here ↦ (let k = now f e here at in subst (λ (x : Ends). x.first ≤ x.last) (sym k) (first-last (get nat_eq heads fold) refl))
          | inr other ↦ h.ordered f e (was f (Some e) other at)
        ];
        first = λ f e at. elim (cases_eq f fold) as (λ _. fold_at runs' e.first ≡ f) [
          | inl here ↦ ap (λ (x : Ends). fold_at runs' x.first) (now f e here at) ∙ (first-fold (get nat_eq heads fold) refl ∙ sym here)
          | inr other ↦ (let k = was f (Some e) other at in
              let a = h.ordered f e k in let b = h.within f e k in
              more.entered.kept e.first (omega arith) ∙ h.first f e k)
        ];
        last = λ f e at. elim (cases_eq f fold) as (λ _. fold_at runs' e.last ≡ f) [
          | inl here ↦ ap (fold_at runs') (last-now f e here at) ∙ (more.entered.fold_is ∙ sym here)
          | inr other ↦ (let k = was f (Some e) other at in more.entered.kept e.last (h.within f e k) ∙ h.last f e k)
        ];
        before = λ f j e at less there same. elim (cases_eq f fold) as (λ _. ⊥) [
          | inl here ↦ (
              let k = before_first heads runs fold j (get nat_eq heads fold) h refl (subst (λ (x : Ends). j < x.first) (now f e here at) less) in
              k.1 (sym (more.entered.kept j k.0) ∙ (same ∙ here)))
          | inr other ↦ other-fold f j other there (λ within. h.before f j e (was f (Some e) other at) less within) same
        ];
        after = λ f j e at less there same. elim (cases_eq f fold) as (λ _. ⊥) [
          | inl here ↦ (let k = last-now f e here at in absurd (omega arith))
          | inr other ↦ other-fold f j other there (λ within. h.after f j e (was f (Some e) other at) less within) same
        ];
        later = λ i less. elim (old-or-new i less) as (λ _. i < next_at runs' i) [
          | inl there ↦ elim (last-or-not i there) as (λ _. i < next_at runs' i) [
            | inl is ↦ (let k = more.joined i is in omega arith)
            | inr keeps ↦ (let k = h.later i there in omega arith)
          ]
          | inr here ↦ subst (λ n. n < next_at runs' n) (sym here) (subst (λ n. length runs < n) (sym more.next_is) more.few)
        ];
        next = λ i less there. elim (old-or-new i less) as (λ _. fold_at runs' (next_at runs' i) ≡ fold_at runs' i) [
          | inl old ↦ elim (last-or-not i old) as (λ _. fold_at runs' (next_at runs' i) ≡ fold_at runs' i) [
            | inl is ↦ (let k = ends-of i is in
                ap (fold_at runs') (more.joined i is) ∙ (more.entered.fold_is ∙ (sym (ap (fold_at runs) (sym k.2) ∙ h.last fold k.0 k.1) ∙ sym (more.entered.kept i old))))
            | inr keeps ↦ elim (h.none_next i old) as (λ _. fold_at runs' (next_at runs' i) ≡ fold_at runs' i) [
              | inl within ↦ ap (fold_at runs') keeps ∙ (more.entered.kept (next_at runs i) within ∙ (h.next i old within ∙ sym (more.entered.kept i old)))
              | inr ended ↦ absurd (let few = more.few in omega arith)
            ]
          ]
          | inr here ↦ absurd (let k : next_at runs' i ≡ no_place = subst (λ n. next_at runs' n ≡ no_place) (sym here) more.next_is in let few = more.few in omega arith)
        ];
        none_next = λ i less. elim (old-or-new i less) as (λ _. (next_at runs' i < length runs') ⊎ (next_at runs' i ≡ no_place)) [
          | inl old ↦ elim (last-or-not i old) as (λ _. (next_at runs' i < length runs') ⊎ (next_at runs' i ≡ no_place)) [
            | inl is ↦ inl (let k = more.joined i is in omega arith)
            | inr keeps ↦ elim (h.none_next i old) as (λ _. (next_at runs' i < length runs') ⊎ (next_at runs' i ≡ no_place)) [
              | inl within ↦ inl (omega arith)
              | inr ended ↦ inr (keeps ∙ ended)
            ]
          ]
          | inr here ↦ inr (subst (λ n. next_at runs' n ≡ no_place) (sym here) more.next_is)
        ];
        between = λ i j less next there same.
            let first : i < length runs = omega arith in
            let fold-of : fold_at runs' j ≡ fold_at runs i = same ∙ more.entered.kept i first in
            elim (old-or-new j there) as (λ _. ⊥) [
              | inl within ↦ (
                  let old : fold_at runs j ≡ fold_at runs i = sym (more.entered.kept j within) ∙ fold-of in
                  elim (last-or-not i first) as (λ _. ⊥) [
                    | inl is ↦ (let k = ends-of i is in
                        let own : fold_at runs i ≡ fold = ap (fold_at runs) (sym k.2) ∙ h.last fold k.0 k.1 in
                        let at-last = k.2 in
                        h.after fold j k.0 k.1 (omega arith) within (old ∙ own))
                    | inr keeps ↦ h.between i j less (omega arith) within old
                  ])
              | inr here ↦ elim (last-or-not i first) as (λ _. ⊥) [
                | inl is ↦ absurd (let k = more.joined i is in omega arith)
                | inr keeps ↦ elim (cases_last i) as (λ _. ⊥) [
                  | inl is ↦ absurd (let k = more.joined i is in omega arith)
                  | inr not-last ↦ new-fold i first (omega arith) not-last (sym fold-of ∙ (ap (fold_at runs') here ∙ more.entered.fold_is))
                ]
              ]
            ];
      }
    where
      first-last : (o : Option Ends) → get nat_eq heads fold ≡ o → (ends_after o (length runs)).first ≤ (ends_after o (length runs)).last
      first-last None at = omega arith
      first-last (Some e) at = let a = h.ordered fold e at in let b = h.within fold e at in omega arith

      first-fold : (o : Option Ends) → get nat_eq heads fold ≡ o → fold_at runs' (ends_after o (length runs)).first ≡ fold
      first-fold None at = more.entered.fold_is
      first-fold (Some e) at = let a = h.ordered fold e at in let b = h.within fold e at in more.entered.kept e.first (omega arith) ∙ h.first fold e at

      cases_last : (i : ℕ) → (last_in (get nat_eq heads fold) ≡ Some i) ⊎ (last_in (get nat_eq heads fold) ≢ Some i)
      cases_last i = by (last_in (get nat_eq heads fold))
        where
          by : (o : Option ℕ) → (o ≡ Some i) ⊎ (o ≢ Some i)
          by None = inr (λ e. cc)
          by (Some l) = elim (cases_eq l i) as (λ _. (Some l ≡ Some i) ⊎ (Some l ≢ Some i)) [ inl same ↦ inl (ap (λ n. Some n) same) | inr other ↦ inr (λ e. other (let k = e in cc)) ]
