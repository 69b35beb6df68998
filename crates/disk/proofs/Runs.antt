-- How a run of calls goes on, as for what a crash may leave meanwhile.
use Rattle.std.proofs.Common.{inl, inr, ⊎_elim, ℕ, List, arith}
use Rattle.disk.specs.Disk.{LeavesOnly}

module _ {D : Type 0} (moment : D → ℕ) (left_since : D → ℕ → List ℕ → Type 0) where
  -- before the first call
  pub started : (old : D) (P : List ℕ → Type 0) → ((c : List ℕ) → left_since old (moment old) c → P c) → LeavesOnly moment left_since old old P
  started old P here = record { later = omega arith; each = here; before = λ t c le left. inl left }

  -- two runs, one after the other
  pub then : (old mid new : D) (P Q R : List ℕ → Type 0) → LeavesOnly moment left_since old mid P → LeavesOnly moment left_since mid new Q
      → ((c : List ℕ) → P c → R c) → ((c : List ℕ) → Q c → R c) → LeavesOnly moment left_since old new R
  then old mid new P Q R first second p q = record {
    later = omega (arith, first.later, second.later);
    each = λ c left. ⊎_elim (λ mid_left. p c (first.each c mid_left)) (q c) (second.before (moment old) c first.later left);
    before = λ t c le left. ⊎_elim (λ mid_left. ⊎_elim (λ old_left. inl old_left) (λ has. inr (p c has)) (first.before t c le mid_left)) (λ has. inr (q c has)) (second.before t c (omega (arith, le, first.later)) left);
  }

  -- with a weaker statement
  pub weaker : (old new : D) (P R : List ℕ → Type 0) → LeavesOnly moment left_since old new P → ((c : List ℕ) → P c → R c) → LeavesOnly moment left_since old new R
  weaker old new P R run p = record {
    later = run.later;
    each = λ c left. p c (run.each c left);
    before = λ t c le left. ⊎_elim (λ old_left. inl old_left) (λ has. inr (p c has)) (run.before t c le left);
  }
