-- The last place that passes, and the table.
use Rattle.std.specs.Int.{IsPowerOfTwo}
use Rattle.std.proofs.Common.{◌≡◌, ◌≢◌, ℕ, zero, suc, ◌-◌, ◌<◌, ◌≤◌, nat_eq, ℤ, Bool, true, false, List, length, get_or, set, refl, sym, ap, subst, ◌∙◌, ◌⊎◌, inl, inr, arith}
use Rattle.std.proofs.lemmas.Bool.Decides.{nat_tests}
use Rattle.std.proofs.lemmas.List.{get_or-set_same, get_or-set_other, length-set}
use Rattle.layer_candidates.specs.Rows.{live_at}
use Rattle.layer_candidates.specs.Table.{slot_of, top, has_slot, IsTable, IsSearched}

pub true_false : (b : Bool) → b ≡ true → b ≡ false → ⊥
true_false b h k = let e : true ≡ false = sym h ∙ k in cc

pub top_within : (p : ℕ → Bool) (n : ℕ) → top p n ≤ n
top_within p zero = omega arith
top_within p (suc n) = go (p n) refl (top_within p n)
  where
    go : (b : Bool) → p n ≡ b → top p n ≤ n → top p (suc n) ≤ suc n
    go true e h = rw e (omega arith)
    go false e h = rw e (omega arith)

pub top_here : (p : ℕ → Bool) (n : ℕ) → 0 < top p n → p (top p n - 1) ≡ true
top_here p zero h = absurd (omega arith)
top_here p (suc n) h = go (p n) refl (top_here p n)
  where
    go : (b : Bool) → p n ≡ b → (0 < top p n → p (top p n - 1) ≡ true) → p (top p (suc n) - 1) ≡ true
    go true e again = let one : suc n - 1 ≡ n = omega arith in rw (e, one) e
    go false e again = let k : 0 < top p n = rw e at h in rw e (again k)

last_or : (k n : ℕ) → k < suc n → (k ≡ n) ⊎ (k < n)
last_or k n h = grind arith

pub top_past : (p : ℕ → Bool) (n k : ℕ) → top p n ≤ k → k < n → p k ≡ false
top_past p zero k h l = absurd (omega arith)
top_past p (suc n) k h l = go (p n) refl (last_or k n l) (λ a b. top_past p n k a b)
  where
    go : (b : Bool) → p n ≡ b → (k ≡ n) ⊎ (k < n) → (top p n ≤ k → k < n → p k ≡ false) → p k ≡ false
    go true e w again = let above : suc n ≤ k = rw e at h in absurd (omega arith)
    go false e (inl same) again = ap p same ∙ e
    go false e (inr less) again = again (rw e at h) less

pub top_same : (p q : ℕ → Bool) (n : ℕ) → ((k : ℕ) → k < n → q k ≡ p k) → top q n ≡ top p n
top_same p q zero same = refl
top_same p q (suc n) same =
    let e = same n (omega arith) in
    let rest = top_same p q n (λ k h. same k (omega arith)) in
    rw (e, rest) refl

slot_true : (a b : ℕ) → nat_eq a b ≡ true → a ≡ b
slot_true a b h = grind (arith, nat_tests)

true_slot : (a b : ℕ) → a ≡ b → nat_eq a b ≡ true
true_slot a b h = grind (arith, nat_tests)

false_slot : (a b : ℕ) → a ≢ b → nat_eq a b ≡ false
false_slot a b h = grind (arith, nat_tests)

pub search_starts : (row : ℕ → List ℤ) (live count : ℕ) (new : List ℤ) (hash : ℕ) (hashes heads next : List ℕ) → IsTable count hashes heads next → slot_of hash (length heads) < length heads
    → IsSearched row live count new hash hashes (length heads) (get_or heads (slot_of hash (length heads)) 0)
search_starts row live count new hash hashes heads next t less =
    let slot = slot_of hash (length heads) in
    let p = has_slot hashes (length heads) slot in
    rw (t.heads_are slot less) (record {
      within = top_within p count;
      here = top_here p count;
      past = λ k a b passes same. true_false (p k) passes (top_past p count k a b);
    })

-- the next one of the chain
pub next_is : (row : ℕ → List ℤ) (live count : ℕ) (new : List ℤ) (hash : ℕ) (hashes heads next : List ℕ) (i : ℕ) → IsTable count hashes heads next → IsSearched row live count new hash hashes (length heads) i → 0 < i
    → get_or next (i - 1) 0 ≡ top (has_slot hashes (length heads) (slot_of hash (length heads))) (i - 1)
next_is row live count new hash hashes heads next i t s positive =
    let w = s.within in
    let slot = slot_true (slot_of (get_or hashes (i - 1) 0) (length heads)) (slot_of hash (length heads)) (s.here positive) in
    t.next_are (i - 1) (omega arith) ∙ ap (λ (j : ℕ). top (has_slot hashes (length heads) j) (i - 1)) slot

either : (a b : ℕ) → (a ≡ b) ⊎ (a ≢ b)
either a b = grind arith

three : (k i : ℕ) → 0 < i → (k < i - 1) ⊎ ((k ≡ i - 1) ⊎ (i ≤ k))
three k i h = grind arith

pub search_steps : (row : ℕ → List ℤ) (live count : ℕ) (new : List ℤ) (hash : ℕ) (hashes heads next : List ℕ) (i : ℕ) → IsTable count hashes heads next → IsSearched row live count new hash hashes (length heads) i → 0 < i → live_at row live (i - 1) ≢ new
    → IsSearched row live count new hash hashes (length heads) (get_or next (i - 1) 0)
search_steps row live count new hash hashes heads next i t s positive other =
    let p = has_slot hashes (length heads) (slot_of hash (length heads)) in
    let w = s.within in
    let few = top_within p (i - 1) in
    rw (next_is row live count new hash hashes heads next i t s positive) (record {
      within = omega arith;
      here = top_here p (i - 1);
      past = λ k a b passes. go k a b passes (three k i positive);
    })
  where
    go : (k : ℕ) → top (has_slot hashes (length heads) (slot_of hash (length heads))) (i - 1) ≤ k → k < count → has_slot hashes (length heads) (slot_of hash (length heads)) k ≡ true → (k < i - 1) ⊎ ((k ≡ i - 1) ⊎ (i ≤ k)) → live_at row live k ≢ new
    go k a b passes (inl less) = absurd (true_false (has_slot hashes (length heads) (slot_of hash (length heads)) k) passes (top_past (has_slot hashes (length heads) (slot_of hash (length heads))) (i - 1) k a less))
    go k a b passes (inr (inl same)) = subst (λ (j : ℕ). live_at row live j ≢ new) (sym same) other
    go k a b passes (inr (inr above)) = s.past k above b passes

pub search_smaller : (row : ℕ → List ℤ) (live count : ℕ) (new : List ℤ) (hash : ℕ) (hashes heads next : List ℕ) (i : ℕ) → IsTable count hashes heads next → IsSearched row live count new hash hashes (length heads) i → 0 < i → get_or next (i - 1) 0 < i
search_smaller row live count new hash hashes heads next i t s positive =
    let e = next_is row live count new hash hashes heads next i t s positive in
    let few = top_within (has_slot hashes (length heads) (slot_of hash (length heads))) (i - 1) in
    omega arith

pub inserted : (count hash : ℕ) (hashes heads next : List ℕ) → IsTable count hashes heads next → count < length hashes → count < length next → slot_of hash (length heads) < length heads
    → IsTable (suc count) (set hashes count hash) (set heads (slot_of hash (length heads)) (suc count)) (set next count (get_or heads (slot_of hash (length heads)) 0))
inserted count hash hashes heads next t in_hashes in_next less =
    let size = length heads in
    let at = slot_of hash size in
    let same : length (set heads at (suc count)) ≡ size = length-set heads at (suc count) in
    record {
      hashes_size = let e = length-set hashes count hash in omega arith;
      next_size = let e = length-set next count (get_or heads at 0) in omega arith;
      slots = subst IsPowerOfTwo (sym same) t.slots;
      heads_are = λ slot h. subst (λ (j : ℕ). get_or (set heads at (suc count)) slot 0 ≡ top (has_slot (set hashes count hash) j slot) (suc count)) (sym same) (head slot (subst (λ (j : ℕ). slot < j) same h) (either slot at));
      next_are = λ k h. subst (λ (j : ℕ). get_or (set next count (get_or heads at 0)) k 0 ≡ top (has_slot (set hashes count hash) j (slot_of (get_or (set hashes count hash) k 0) j)) k) (sym same) (nexted k (last_or k count h));
    }
  where
    tops2 : (slot n : ℕ) → n ≤ count → top (has_slot (set hashes count hash) (length heads) slot) n ≡ top (has_slot hashes (length heads) slot) n
    tops2 slot n le = top_same (has_slot hashes (length heads) slot) (has_slot (set hashes count hash) (length heads) slot) n (λ k h. ap (λ (f : ℕ). nat_eq (slot_of f (length heads)) slot) (get_or-set_other hashes count k hash 0 (λ e. omega arith)))

    head : (slot : ℕ) → slot < length heads → (slot ≡ slot_of hash (length heads)) ⊎ (slot ≢ slot_of hash (length heads)) → get_or (set heads (slot_of hash (length heads)) (suc count)) slot 0 ≡ top (has_slot (set hashes count hash) (length heads) slot) (suc count)
    head slot h (inl e) =
        let here : has_slot (set hashes count hash) (length heads) slot count ≡ true = true_slot (slot_of (get_or (set hashes count hash) count 0) (length heads)) slot (ap (λ (f : ℕ). slot_of f (length heads)) (get_or-set_same hashes count hash 0 in_hashes) ∙ sym e) in
        rw here (rw e (get_or-set_same heads (slot_of hash (length heads)) (suc count) 0 less))
    head slot h (inr n) =
        let here : has_slot (set hashes count hash) (length heads) slot count ≡ false = false_slot (slot_of (get_or (set hashes count hash) count 0) (length heads)) slot (λ e. n (sym e ∙ ap (λ (f : ℕ). slot_of f (length heads)) (get_or-set_same hashes count hash 0 in_hashes))) in
        rw here (get_or-set_other heads (slot_of hash (length heads)) slot (suc count) 0 n ∙ t.heads_are slot h ∙ sym (tops2 slot count (omega arith)))

    nexted : (k : ℕ) → (k ≡ count) ⊎ (k < count) → get_or (set next count (get_or heads (slot_of hash (length heads)) 0)) k 0 ≡ top (has_slot (set hashes count hash) (length heads) (slot_of (get_or (set hashes count hash) k 0) (length heads))) k
    nexted k (inl e) =
        rw (e, get_or-set_same hashes count hash 0 in_hashes) (get_or-set_same next count (get_or heads (slot_of hash (length heads)) 0) 0 in_next ∙ t.heads_are (slot_of hash (length heads)) less ∙ sym (tops2 (slot_of hash (length heads)) count (omega arith)))
    nexted k (inr l) =
        let old : get_or (set hashes count hash) k 0 ≡ get_or hashes k 0 = get_or-set_other hashes count k hash 0 (λ e. omega arith) in
        rw old (get_or-set_other next count k (get_or heads (slot_of hash (length heads)) 0) 0 (λ e. omega arith) ∙ t.next_are k l ∙ sym (tops2 (slot_of (get_or hashes k 0) (length heads)) k (omega arith)))
