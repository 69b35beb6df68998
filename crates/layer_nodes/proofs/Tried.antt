-- One trial more.
use Rattle.std.proofs.Common.{◌≡◌, ◌≢◌, ℕ, ◌+◌, ◌<◌, ◌≤◌, nat_eq, ℤ, Bool, true, false, not, cond, add-one, ◌&&◌, ◌||◌, List, [], ◌∷◌, ◌++◌, length, map, ◌⊎◌, inl, inr, refl, sym, ap, ap₂, subst, ◌∙◌, arith}
use Rattle.std.proofs.lemmas.Bool.Decides.{nat_tests}
use Rattle.std.proofs.lemmas.List.{append-nil, map-append, get_or-set_same, get_or-set_other}
use Rattle.std.proofs.lemmas.List.Elements.{filter-append}
use Rattle.dp_model.specs.Decisions.{below}
use Rattle.dp_model.specs.Dp.{Dp}
use Rattle.dp_model.specs.Rows.{row_same}
use Rattle.dp_laws.specs.declared.arc.DdArc.{DdArc}
use Rattle.dp_laws.specs.Restricted.Extensions.{extended, all_joined}
use Rattle.layer_candidates.specs.declared.way.Way.{Way}
use Rattle.layer_candidates.specs.Extending.{HasExtended, parent_as, all_allowed}
use Rattle.layer_candidates.specs.Table.{IsPlaced}
use Rattle.layer_candidates.specs.Ways.{reached_at, all_reached, AreDistinctRows}
use Rattle.layer_candidates.proofs.Joined.{same_rows, other_rows}
use Rattle.row_region.proofs.Rows.{length-table}
use Rattle.layer_nodes.specs.Expanding.{Trial, trial, made_by, trials_by, arc_to, AreArcsOf, all_exact, mark_at, marked, AreTried}

-- Arcs.

module _ (dp : Dp) (k : ℕ) (row : ℕ → List ℤ) (count : ℕ) where
  pub arcs-append : (ts us : List Trial) (arcs bs : List DdArc) → AreArcsOf dp k row count ts arcs → AreArcsOf dp k row count us bs → AreArcsOf dp k row count (ts ++ us) (arcs ++ bs)
  arcs-append [] us [] bs h g = g
  arcs-append [] us (a ∷ arcs) bs h g = absurd h
  arcs-append (t ∷ ts) us [] bs h g = absurd h
  arcs-append (t ∷ ts) us (a ∷ arcs) bs h g = (h.0, arcs-append ts us arcs bs h.1 g)

  pub length-arcs : (ts : List Trial) (arcs : List DdArc) → AreArcsOf dp k row count ts arcs → length arcs ≡ length ts
  length-arcs [] [] h = refl
  length-arcs [] (a ∷ arcs) h = absurd h
  length-arcs (t ∷ ts) [] h = absurd h
  length-arcs (t ∷ ts) (a ∷ arcs) h = (let rest = length-arcs ts arcs h.1 in omega arith)

  -- a row that none of them makes is exact
  pub exact-none : (ts : List Trial) (arcs : List DdArc) (new : List ℤ) → AreArcsOf dp k row count ts arcs → ((p : ℕ) → p < count → row p ≢ new) → all_exact dp k ts new ≡ true
  exact-none [] [] new h none = refl
  exact-none [] (a ∷ arcs) new h none = absurd h
  exact-none (t ∷ ts) [] new h none = absurd h
  exact-none (t ∷ ts) (a ∷ arcs) new h none =
      let one = h.0 in
      let other : row_same (made_by dp k t) new ≡ false = other_rows (made_by dp k t) new (λ e. none one.place one.within (one.made ∙ e)) in
      ap₂ (λ b c. (t.exact || not b) && c) other (exact-none ts arcs new h.1 none) ∙ or-true t.exact
    where
      or-true : (e : Bool) → ((e || not false) && true) ≡ true
      or-true true = refl
      or-true false = refl

pub arcs-stay : (dp : Dp) (k : ℕ) (row row2 : ℕ → List ℤ) (count count2 : ℕ) → count ≤ count2 → ((i : ℕ) → i < count → row2 i ≡ row i)
    → (ts : List Trial) (arcs : List DdArc) → AreArcsOf dp k row count ts arcs → AreArcsOf dp k row2 count2 ts arcs
arcs-stay dp k row row2 count count2 more stay [] [] h = tt
arcs-stay dp k row row2 count count2 more stay [] (a ∷ arcs) h = absurd h
arcs-stay dp k row row2 count count2 more stay (t ∷ ts) [] h = absurd h
arcs-stay dp k row row2 count count2 more stay (t ∷ ts) (a ∷ arcs) h =
    let one = h.0 in let low = one.within in
    (record { place = one.place; is = one.is; within = omega arith; made = stay one.place one.within ∙ one.made }, arcs-stay dp k row row2 count count2 more stay ts arcs h.1)

-- where the rows stay
pub tried-stay : (dp : Dp) (k : ℕ) (row row2 : ℕ → List ℤ) (count : ℕ) (ts : List Trial) (marks : List Bool) (arcs : List DdArc) → ((i : ℕ) → i < count → row2 i ≡ row i)
    → AreTried dp k row count ts marks arcs → AreTried dp k row2 count ts marks arcs
tried-stay dp k row row2 count ts marks arcs stay h = record {
  arcs_are = arcs-stay dp k row row2 count count (omega arith) stay ts arcs h.arcs_are;
  marks_are = λ i less. h.marks_are i less ∙ ap (all_exact dp k ts) (sym (stay i less));
}

-- Marks.

and-assoc : (a b c : Bool) → (a && (b && c)) ≡ ((a && b) && c)
and-assoc true b c = refl
and-assoc false b c = refl

pub exact-more : (dp : Dp) (k : ℕ) (ts : List Trial) (t : Trial) (row : List ℤ) → all_exact dp k (ts ++ t ∷ []) row ≡ (all_exact dp k ts row && (t.exact || not (row_same (made_by dp k t) row)))
exact-more dp k [] t row = elim (t.exact || not (row_same (made_by dp k t) row)) as (λ b. (b && true) ≡ b) [ true ↦ refl | false ↦ refl ]
exact-more dp k (x ∷ ts) t row =
    ap (λ b. (x.exact || not (row_same (made_by dp k x) row)) && b) (exact-more dp k ts t row)
    ∙ and-assoc (x.exact || not (row_same (made_by dp k x) row)) (all_exact dp k ts row) (t.exact || not (row_same (made_by dp k t) row))

found-mark : (e a : Bool) → (e && (false || a)) ≡ (a && (e || not true))
found-mark true true = refl
found-mark true false = refl
found-mark false true = refl
found-mark false false = refl

new-mark : (e m : Bool) → (e && (true || m)) ≡ (true && (e || not true))
new-mark true m = refl
new-mark false m = refl

other-mark : (e a : Bool) → (a && (e || not false)) ≡ a
other-mark true true = refl
other-mark true false = refl
other-mark false true = refl
other-mark false false = refl

same-or : (a b : ℕ) → (a ≡ b) ⊎ (a ≢ b)
same-or a b = grind arith

three : (p q : ℕ) → p ≢ q → (p < q) ⊎ (q < p)
three p q h = grind arith

pub placed-low : (dp : Dp) (k : ℕ) (row : ℕ → List ℤ) (count count2 : ℕ) (t : Trial) (place : ℕ) → IsPlaced row count count2 (made_by dp k t) place → place ≤ count
placed-low dp k row count count2 t place h = elim h.grown as (λ _. place ≤ count) [ inl g ↦ (let e = g.0 in omega arith) | inr g ↦ (let e = g.0 in omega arith) ]

-- a trial was made, and its row stands at the place
module _ (dp : Dp) (k : ℕ) (row row2 : ℕ → List ℤ) (count count2 : ℕ) (ts : List Trial) (t : Trial) (place : ℕ) (marks : List Bool) (arcs : List DdArc)
    (placed : IsPlaced row2 count count2 (made_by dp k t) place) (stay : (i : ℕ) → i < count → row2 i ≡ row i) (apart : AreDistinctRows row2 count2)
    (room : place < length marks) (tried : AreTried dp k row count ts marks arcs) where
  more : count ≤ count2
  more = elim placed.grown as (λ _. count ≤ count2) [ inl h ↦ (let e = h.1 in omega arith) | inr h ↦ (let e = h.1 in omega arith) ]

  inside : place < count2
  inside = elim placed.grown as (λ _. place < count2) [ inl h ↦ (let l = h.0 in let e = h.1 in omega arith) | inr h ↦ (let l = h.0 in let e = h.1 in omega arith) ]

  differ : (i j : ℕ) → i < count2 → j < count2 → i ≢ j → row2 i ≢ row2 j
  differ i j a b n e = elim (three i j n) as (λ _. ⊥) [ inl l ↦ apart i j l b e | inr l ↦ apart j i l a (sym e) ]

  abbrev value : Bool
  value = t.exact && (nat_eq place count || mark_at marks place)

  abbrev exact_so_far : List ℤ → Bool
  exact_so_far row = all_exact dp k ts row

  here-exact : all_exact dp k (ts ++ t ∷ []) (row2 place) ≡ (exact_so_far (row2 place) && (t.exact || not true))
  here-exact = exact-more dp k ts t (row2 place) ∙ ap (λ b. exact_so_far (row2 place) && (t.exact || not b)) (same_rows (made_by dp k t) (row2 place) (sym placed.same))

  here : value ≡ all_exact dp k (ts ++ t ∷ []) (row2 place)
  here = go placed.grown
    where
      go : ((place < count) × (count2 ≡ count)) ⊎ ((place ≡ count) × (count2 ≡ count + 1)) → value ≡ all_exact dp k (ts ++ t ∷ []) (row2 place)
      go (inl h) =
          let less = h.0 in
          let no : nat_eq place count ≡ false = grind (arith, nat_tests) in
          let was : mark_at marks place ≡ exact_so_far (row2 place) = tried.marks_are place less ∙ ap exact_so_far (sym (stay place less)) in
          ap₂ (λ b m. t.exact && (b || m)) no was ∙ (found-mark t.exact (exact_so_far (row2 place)) ∙ sym here-exact)
      go (inr h) =
          let new = h.0 in
          let yes : nat_eq place count ≡ true = grind (arith, nat_tests) in
          let none : exact_so_far (row2 place) ≡ true =
          exact-none dp k row count ts arcs (row2 place) tried.arcs_are
          (λ p less e. differ p place (let m = more in omega arith) inside (λ s. omega arith) (stay p less ∙ e)) in
          ap (λ b. t.exact && (b || mark_at marks place)) yes ∙ (new-mark t.exact (mark_at marks place)
          ∙ (ap (λ b. b && (t.exact || not true)) (sym none) ∙ sym here-exact))

  there : (i : ℕ) → i < count2 → i ≢ place → mark_at marks i ≡ all_exact dp k (ts ++ t ∷ []) (row2 i)
  there i less n =
      let low : i < count = elim placed.grown as (λ _. i < count) [ inl h ↦ (let e = h.1 in omega arith) | inr h ↦ (let l = h.0 in let e = h.1 in grind arith) ] in
      let other : row_same (made_by dp k t) (row2 i) ≡ false =
      other_rows (made_by dp k t) (row2 i) (λ e. differ i place less inside n (sym e ∙ sym placed.same)) in
      let after : all_exact dp k (ts ++ t ∷ []) (row2 i) ≡ exact_so_far (row2 i) =
      exact-more dp k ts t (row2 i) ∙ (ap (λ b. exact_so_far (row2 i) && (t.exact || not b)) other ∙ other-mark t.exact (exact_so_far (row2 i))) in
      tried.marks_are i low ∙ (ap exact_so_far (sym (stay i low)) ∙ sym after)

  pub tried-more : (arc : DdArc) → arc ≡ arc_to dp k t place → AreTried dp k row2 count2 (ts ++ t ∷ []) (marked marks count place t.exact) (arcs ++ arc ∷ [])
  tried-more arc is = record {
    arcs_are = arcs-append dp k row2 count2 ts (t ∷ []) arcs (arc ∷ [])
        (arcs-stay dp k row row2 count count2 more stay ts arcs tried.arcs_are)
        (record { place = place; is = is; within = inside; made = placed.same }, tt);
    marks_are = λ i less. go i less (same-or i place);
  }
    where
      go : (i : ℕ) → i < count2 → (i ≡ place) ⊎ (i ≢ place) → mark_at (marked marks count place t.exact) i ≡ all_exact dp k (ts ++ t ∷ []) (row2 i)
      go i less (inl e) = subst (λ (j : ℕ). mark_at (marked marks count place t.exact) j ≡ all_exact dp k (ts ++ t ∷ []) (row2 j)) (sym e)
          (get_or-set_same marks place value _ room ∙ here)
      go i less (inr n) = get_or-set_other marks place i value _ n ∙ there i less n

-- Decisions.

module _ (dp : Dp) (k : ℕ) (s : List ℤ) (exact : Bool) where
  pub trials-one : (d : ℕ) → dp.allowed k s d ≡ true → trials_by dp k s exact (d ∷ []) ≡ trial s exact d ∷ []
  trials-one d e = ap (λ b. map (trial s exact) (cond b (d ∷ []) [])) e

  pub trials-none : (d : ℕ) → dp.allowed k s d ≡ false → trials_by dp k s exact (d ∷ []) ≡ []
  trials-none d e = ap (λ b. map (trial s exact) (cond b (d ∷ []) [])) e

  pub trials-next : (n : ℕ) → trials_by dp k s exact (below (n + 1)) ≡ trials_by dp k s exact (below n) ++ trials_by dp k s exact (n ∷ [])
  trials-next n =
      ap (λ l. trials_by dp k s exact l) (ap below (add-one n))
      ∙ (ap (map (trial s exact)) (filter-append (dp.allowed k s) (below n) (n ∷ [])) ∙ map-append (trial s exact) (all_allowed dp k s (below n)) (all_allowed dp k s (n ∷ [])))

-- a decision that is not allowed makes no way
refused : (dp : Dp) (k step : ℕ) (s : List ℤ) (value : ℤ) (live d : ℕ) (row row2 : ℕ → List ℤ) (ways ways2 : List Way) (hashes heads next : List ℕ) → dp.allowed k s d ≡ false
    → HasExtended dp k step s value (d ∷ []) live row ways row2 ways2 hashes heads next → length ways2 ≡ length ways
refused dp k step s value live d row row2 ways ways2 hashes heads next bars h =
    let paths : ℕ → List ℕ = λ i. [] in
    let list = h.list paths ∙ ap (λ b. all_joined (all_reached paths row ways) (map (extended dp k (parent_as paths step s value)) (cond b (d ∷ []) []))) bars in
    sym (length-table (reached_at paths row2 ways2) (length ways2)) ∙ (ap length list ∙ length-table (reached_at paths row ways) (length ways))

pub tried-none : (dp : Dp) (k step : ℕ) (s : List ℤ) (value : ℤ) (exact : Bool) (live d : ℕ) (row row2 : ℕ → List ℤ) (ways ways2 : List Way) (hashes heads next : List ℕ) (ts : List Trial) (marks : List Bool) (arcs : List DdArc) → dp.allowed k s d ≡ false
    → HasExtended dp k step s value (d ∷ []) live row ways row2 ways2 hashes heads next → ((i : ℕ) → i < length ways → row2 i ≡ row i)
    → AreTried dp k row (length ways) ts marks arcs → AreTried dp k row2 (length ways2) (ts ++ trials_by dp k s exact (d ∷ [])) marks arcs
tried-none dp k step s value exact live d row row2 ways ways2 hashes heads next ts marks arcs bars h stay tried =
    let few : length ways2 ≡ length ways = refused dp k step s value live d row row2 ways ways2 hashes heads next bars h in
    let all : ts ++ trials_by dp k s exact (d ∷ []) ≡ ts = ap (λ us. ts ++ us) (trials-none dp k s exact d bars) ∙ append-nil ts in
    subst (λ us. AreTried dp k row2 (length ways2) us marks arcs) (sym all)
    (subst (λ n. AreTried dp k row2 n ts marks arcs) (sym few) (tried-stay dp k row row2 (length ways) ts marks arcs stay tried))
