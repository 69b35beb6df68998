-- A part of a lawful problem is lawful, and chained where the problem is.
use Rattle.std.proofs.Common.{◌≡◌, ℕ, zero, suc, ◌+◌, ◌%◌, ◌≤◌, ℤ, pos, ◌+ℤ◌, ◌≤ℤ◌, Bool, true, false, nat_eq, cond, List, [], ◌∷◌, Some, None, IsTrue, refl, sym, ap, subst, ◌∙◌, arith}
use Rattle.std.proofs.lemmas.Bool.{and_parts}
use Rattle.std.proofs.lemmas.Int.{ints}
use Rattle.dp_model.specs.Dp.{Dp, IsAllowed}
use Rattle.dp_model.specs.Gaps.{IsStateOf, Matches, IsSoundGap, HasGap}
use Rattle.dp_model.specs.Laws.{StepsAreStates, GapsAreSound, RoughBounds, SizesHold, IsLawful, IsChained, MergesInAnyOrder}
use Rattle.dp_model.specs.Numbers.{AtMost, IsSmall}
use Rattle.dp_model.specs.Prefixes.{IsPath, gain_of, IsContinuation}
use Rattle.dp_model.specs.Rows.{row_same}
use Rattle.dp_model.proofs.RowLemmas.{row_same-self, row_same-is}
use Rattle.dp_laws.proofs.Diagrams.Places.{same-Some}
use Rattle.parts.specs.Part.{state_in_part, allowed_in_part, merged_in_part, gap_in_part, part_program}

-- what stands where a row covers itself alone
cond_some : (b : Bool) (g : ℤ) → cond b (Some (pos 0)) None ≡ Some g → (b ≡ true) × (g ≡ pos 0)
cond_some true g h = (refl, sym (same-Some (pos 0) g h))
cond_some false g h = absurd (grind arith)

module _ (dp : Dp) (index of : ℕ) where
  abbrev part : Dp
  part = part_program dp index of

  -- below layer 0 the part is the whole problem
  state_below : (k : ℕ) (s : List ℤ) → 1 ≤ k → state_in_part dp k s ≡ dp.is_state k s
  state_below zero s below = absurd (omega arith)
  state_below (suc k) s below = refl

  allowed_below : (k : ℕ) (s : List ℤ) (d : ℕ) → 1 ≤ k → allowed_in_part dp index of k s d ≡ dp.allowed k s d
  allowed_below zero s d below = absurd (omega arith)
  allowed_below (suc k) s d below = refl

  allowed_in_whole : (k : ℕ) (s : List ℤ) (d : ℕ) → IsAllowed part k s d → IsAllowed dp k s d
  allowed_in_whole zero s d h = record { layer = h.layer; choice = h.choice; test = (and_parts (dp.allowed zero s d) (nat_eq (d % of) index) h.test).0 }
  allowed_in_whole (suc k) s d h = record { layer = h.layer; choice = h.choice; test = h.test }

  allowed_in_the_part : (k : ℕ) (s : List ℤ) (d : ℕ) → 1 ≤ k → IsAllowed dp k s d → IsAllowed part k s d
  allowed_in_the_part k s d below h = record { layer = h.layer; choice = h.choice; test = allowed_below k s d below ∙ h.test }

  pub path_in_whole : (c : List ℕ) (k : ℕ) (s : List ℤ) → IsPath part k s c → IsPath dp k s c
  path_in_whole [] k s h = tt
  path_in_whole (d ∷ c) k s h = (allowed_in_whole k s d h.0, path_in_whole c (k + 1) (dp.step k s d) h.1)

  pub path_in_part : (c : List ℕ) (k : ℕ) (s : List ℤ) → 1 ≤ k → IsPath dp k s c → IsPath part k s c
  path_in_part [] k s below h = tt
  path_in_part (d ∷ c) k s below h = (allowed_in_the_part k s d below h.0, path_in_part c (k + 1) (dp.step k s d) (omega arith) h.1)

  pub gain_same : (c : List ℕ) (k : ℕ) (s : List ℤ) → gain_of part k s c ≡ gain_of dp k s c
  gain_same [] k s = refl
  gain_same (d ∷ c) k s = ap (λ (z : ℤ). dp.gain k s d +ℤ z) (gain_same c (k + 1) (dp.step k s d))

  continuation_in_whole : (k : ℕ) (s : List ℤ) (c : List ℕ) → IsContinuation part k s c → IsContinuation dp k s c
  continuation_in_whole k s c h = record { path = path_in_whole c k s h.path; whole = h.whole }

  continuation_in_part : (k : ℕ) (s : List ℤ) (c : List ℕ) → 1 ≤ k → IsContinuation dp k s c → IsContinuation part k s c
  continuation_in_part k s c below h = record { path = path_in_part c k s below h.path; whole = h.whole }

  module _ (laws : IsLawful dp) where
    -- a state of the part is one of the whole
    state_in_whole : (k : ℕ) (s : List ℤ) → IsStateOf part k s → IsStateOf dp k s
    state_in_whole zero s h = record { layer = h.layer; test = subst (λ (r : List ℤ). IsTrue (dp.is_state 0 r)) (sym (row_same-is s dp.root h.test)) laws.states.root }
    state_in_whole (suc k) s h = record { layer = h.layer; test = h.test }

    -- two states of layer 0 are one
    one_root : (a s : List ℤ) → IsStateOf part 0 a → IsStateOf part 0 s → a ≡ s
    one_root a s h k = row_same-is a dp.root h.test ∙ sym (row_same-is s dp.root k.test)

    states : StepsAreStates part
    states = record { root = row_same-self dp.root; step = step; merged = merged }
      where
        step : (k : ℕ) (s : List ℤ) (d : ℕ) → IsStateOf part k s → IsAllowed part k s d → IsTrue (state_in_part dp (k + 1) (dp.step k s d))
        step k s d h allowed = state_below (k + 1) (dp.step k s d) (omega arith) ∙ laws.states.step k s d (state_in_whole k s h) (allowed_in_whole k s d allowed)

        merged : (k : ℕ) (a s : List ℤ) → IsStateOf part k a → IsStateOf part k s → IsTrue (state_in_part dp k (part.merged k a s))
        merged zero a s h g = h.test
        merged (suc k) a s h g = laws.states.merged (suc k) a s (state_in_whole (suc k) a h) (state_in_whole (suc k) s g)

    gaps : GapsAreSound part
    gaps = record { sound = sound; own = own; merge_new = merge_new; merge_old = merge_old }
      where
        same_gap : (a s : List ℤ) → a ≡ s → gap_in_part dp 0 a s ≡ Some (pos 0)
        same_gap a s e = ap (λ b. cond b (Some (pos 0)) None) (subst (λ (r : List ℤ). row_same a r ≡ true) e (row_same-self a))

        sound : (k : ℕ) (a s : List ℤ) (g : ℤ) → IsStateOf part k a → IsStateOf part k s → part.gap k a s ≡ Some g → IsSoundGap part k a s g
        sound zero a s g h j is c continues = record {
          by = c;
          continuation = subst (λ (r : List ℤ). IsContinuation part 0 r c) (one_root s a j h) continues;
          enough = enough;
        }
          where
            enough : gain_of part 0 s c ≤ℤ (gain_of part 0 a c +ℤ g)
            enough =
                let zero_gap = (cond_some (row_same a s) g is).1 in
                let same : gain_of part 0 a c ≡ gain_of part 0 s c = ap (λ (r : List ℤ). gain_of part 0 r c) (one_root a s h j) in
                omega (arith, ints)
        sound (suc k) a s g h j is c continues = record {
          by = m.by;
          continuation = continuation_in_part (suc k) a m.by (omega arith) m.continuation;
          enough = enough;
        }
          where
            m : Matches dp (suc k) a g (gain_of dp (suc k) s c)
            m = laws.gaps.sound (suc k) a s g (state_in_whole (suc k) a h) (state_in_whole (suc k) s j) is c (continuation_in_whole (suc k) s c continues)

            enough : gain_of part (suc k) s c ≤ℤ (gain_of part (suc k) a m.by +ℤ g)
            enough = subst (λ (z : ℤ). z ≤ℤ (gain_of part (suc k) a m.by +ℤ g)) (sym (gain_same c (suc k) s))
                (subst (λ (z : ℤ). gain_of dp (suc k) s c ≤ℤ (z +ℤ g)) (sym (gain_same m.by (suc k) a)) m.enough)

        own : (k : ℕ) (s : List ℤ) → IsStateOf part k s → part.gap k s s ≡ Some (pos 0)
        own zero s h = same_gap s s refl
        own (suc k) s h = laws.gaps.own (suc k) s (state_in_whole (suc k) s h)

        merge_new : (k : ℕ) (a s : List ℤ) → IsStateOf part k a → IsStateOf part k s → HasGap part k (part.merged k a s) s
        merge_new zero a s h j = record { gap = pos 0; is = same_gap a s (one_root a s h j) }
        merge_new (suc k) a s h j =
            let old = laws.gaps.merge_new (suc k) a s (state_in_whole (suc k) a h) (state_in_whole (suc k) s j) in
            record { gap = old.gap; is = old.is }

        merge_old : (k : ℕ) (a s u : List ℤ) → IsStateOf part k a → IsStateOf part k s → IsStateOf part k u → HasGap part k a u → HasGap part k (part.merged k a s) u
        merge_old zero a s u h j i gap = gap
        merge_old (suc k) a s u h j i gap =
            let old = laws.gaps.merge_old (suc k) a s u (state_in_whole (suc k) a h) (state_in_whole (suc k) s j) (state_in_whole (suc k) u i) (record { gap = gap.gap; is = gap.is }) in
            record { gap = old.gap; is = old.is }

    rough : RoughBounds part
    rough = record { bounds = bounds; last = last }
      where
        bounds : (k : ℕ) (s : List ℤ) (c : List ℕ) → IsStateOf part k s → IsContinuation part k s c → AtMost (gain_of part k s c) (dp.rough k s)
        bounds k s c h continues = subst (λ (z : ℤ). AtMost z (dp.rough k s)) (sym (gain_same c k s)) (laws.rough.bounds k s c (state_in_whole k s h) (continuation_in_whole k s c continues))

        last : (s : List ℤ) → IsStateOf part dp.vars s → dp.rough dp.vars s ≡ Some (pos 0)
        last s h = laws.rough.last s (state_in_whole dp.vars s h)

    sizes : SizesHold part
    sizes = record {
      vars = laws.sizes.vars;
      some_words = laws.sizes.some_words;
      words = laws.sizes.words;
      some_choices = laws.sizes.some_choices;
      choices = laws.sizes.choices;
      root_value = laws.sizes.root_value;
      cells = λ k s h. laws.sizes.cells k s (state_in_whole k s h);
      state = λ k s h. laws.sizes.state k s (state_in_whole k s h);
      gain = λ k s d h allowed. laws.sizes.gain k s d (state_in_whole k s h) (allowed_in_whole k s d allowed);
      gap = gap;
      rough = λ k s r h. laws.sizes.rough k s r (state_in_whole k s h);
    }
      where
        gap : (k : ℕ) (a s : List ℤ) (g : ℤ) → IsStateOf part k a → IsStateOf part k s → part.gap k a s ≡ Some g → (pos 0 ≤ℤ g) × IsSmall g
        gap zero a s g h j is =
            let e = (cond_some (row_same a s) g is).1 in
            (omega (arith, ints), record { low = omega (arith, ints); high = omega (arith, ints) })
        gap (suc k) a s g h j is = laws.sizes.gap (suc k) a s g (state_in_whole (suc k) a h) (state_in_whole (suc k) s j) is

    -- the six laws
    pub lawful_part : IsLawful part
    lawful_part = record { states = states; gaps = gaps; rough = rough; sizes = sizes }

    -- the chain
    pub chained_part : IsChained dp → IsChained part
    chained_part chained zero a b c g h at_a at_b at_c left right =
        let first = (cond_some (row_same a b) g left).1 in
        record { gap = h; is = subst (λ (r : List ℤ). gap_in_part dp 0 r c ≡ Some h) (one_root b a at_b at_a) right; within = omega (arith, ints) }
    chained_part chained (suc k) a b c g h at_a at_b at_c left right =
        let old = chained (suc k) a b c g h (state_in_whole (suc k) a at_a) (state_in_whole (suc k) b at_b) (state_in_whole (suc k) c at_c) left right in
        record { gap = old.gap; is = old.is; within = old.within }

-- a state of a part is one of the whole, whose root is one
pub state_test : (dp : Dp) (k : ℕ) (s : List ℤ) → IsTrue (dp.is_state 0 dp.root) → IsTrue (state_in_part dp k s) → IsTrue (dp.is_state k s)
state_test dp zero s root h = subst (λ (r : List ℤ). IsTrue (dp.is_state 0 r)) (sym (row_same-is s dp.root h)) root
state_test dp (suc k) s root h = h

pub whole_state : (dp : Dp) (index of k : ℕ) (s : List ℤ) → IsTrue (dp.is_state 0 dp.root) → IsStateOf (part_program dp index of) k s → IsStateOf dp k s
whole_state dp index of k s root h = record { layer = h.layer; test = state_test dp k s root h.test }

-- states of a part may be merged in any order where those of the whole may
pub any_order_part : (dp : Dp) (index of : ℕ) → IsTrue (dp.is_state 0 dp.root) → MergesInAnyOrder dp → MergesInAnyOrder (part_program dp index of)
any_order_part dp index of root any = record { swapped = swapped; regrouped = regrouped }
  where
    swapped : (k : ℕ) (a b : List ℤ) → IsStateOf (part_program dp index of) k a → IsStateOf (part_program dp index of) k b → merged_in_part dp k a b ≡ merged_in_part dp k b a
    swapped zero a b at_a at_b = row_same-is a dp.root at_a.test ∙ sym (row_same-is b dp.root at_b.test)
    swapped (suc k) a b at_a at_b = any.swapped (suc k) a b (whole_state dp index of (suc k) a root at_a) (whole_state dp index of (suc k) b root at_b)

    regrouped : (k : ℕ) (a b c : List ℤ) → IsStateOf (part_program dp index of) k a → IsStateOf (part_program dp index of) k b → IsStateOf (part_program dp index of) k c
        → merged_in_part dp k (merged_in_part dp k a b) c ≡ merged_in_part dp k a (merged_in_part dp k b c)
    regrouped zero a b c at_a at_b at_c = refl
    regrouped (suc k) a b c at_a at_b at_c =
        any.regrouped (suc k) a b c (whole_state dp index of (suc k) a root at_a) (whole_state dp index of (suc k) b root at_b) (whole_state dp index of (suc k) c root at_c)
