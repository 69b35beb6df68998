-- A beam at its start and at its end.
use Rattle.std.proofs.Common.{◌≡◌, ℕ, ◌+◌, ◌-◌, ◌*◌, ◌<◌, ◌≤◌, nat_lt, ℤ, Bool, true, false, cond, List, [], ◌∷◌, length, take, find, is_some, Option, Some, None, option_map, slice_get, vec_capacity, refl, sym, ap, ap₂, subst, ◌∙◌, add-one, arith}
use Rattle.std.proofs.lemmas.Bool.Decides.{nat_tests}
use Rattle.dp_model.specs.Decisions.{below}
use Rattle.dp_model.specs.Dp.{Dp}
use Rattle.dp_model.specs.Gaps.{IsStateOf}
use Rattle.dp_model.specs.Laws.{IsLawful}
use Rattle.dp_model.specs.Lists.{Each}
use Rattle.dp_model.specs.Prefixes.{IsPrefix, value_of, state_of}
use Rattle.dp_model.specs.Reached.{Reached, reached}
use Rattle.dp_model.proofs.Paths.{state_of-state}
use Rattle.dp_laws.specs.Restricted.Beam.{layer_below, is_too_wide}
use Rattle.dp_laws.specs.Restricted.Beams.{beam, wide, first_of_all}
use Rattle.dp_laws.specs.Restricted.Members.{IsMember}
use Rattle.dp_laws.proofs.Lists.{each-take}
use Rattle.dp_laws.proofs.Prefixes.{layers-prefixes}
use Rattle.layer_candidates.specs.declared.beam.Beam.{Beam}
use Rattle.layer_candidates.specs.declared.member.Member.{Member}
use Rattle.layer_candidates.specs.Beaming.{HasBeamRows, HasLayers, kept_at, took, IsBuilt}
use Rattle.layer_candidates.specs.HeldRows.{AreLive, held_row}
use Rattle.layer_candidates.specs.Layering.{HasMemory}
use Rattle.layer_candidates.specs.Members.{member_rows, members_as, IsHeldAt, IsMemberOf}
use Rattle.layer_candidates.specs.Steps.{path_at, AreBackward, IsReachedWithin}
use Rattle.layer_candidates.specs.Ways.{IsNear}
use Rattle.layer_candidates.proofs.HeldRows.{held-is}
use Rattle.row_region.specs.Region.{RegionView}

pub prefix-state : (dp : Dp) → IsLawful dp → (p : List ℕ) → IsPrefix dp p → IsStateOf dp (length p) (state_of dp p)
prefix-state dp laws p h = state_of-state dp laws.states p h

-- the row of a prefix has as many cells as each row
pub prefix-cells : (dp : Dp) → IsLawful dp → (p : List ℕ) (row : List ℤ) (cells : ℕ) → IsPrefix dp p → row ≡ state_of dp p → cells ≡ dp.words → length row ≡ cells
prefix-cells dp laws p row cells h row_is cells_are = ap length row_is ∙ (laws.sizes.cells (length p) (state_of dp p) (prefix-state dp laws p h) ∙ sym cells_are)

abbrev start_member : ℤ → ℤ → ℕ → ℕ → Member
start_member value rank hash place = record { value = value; rank = rank; hash = hash; row = place; step = 0 }

-- the memory is what it was
pub layers-same : (dp : Dp) (w : ℕ) (old new : Beam) → HasLayers dp w old → ((words count : ℕ) → HasMemory words count old.candidates → HasMemory words count new.candidates)
    → vec_capacity new.members ≡ vec_capacity old.members → vec_capacity new.steps ≡ vec_capacity old.steps → HasLayers dp w new
layers-same dp w old new h candidates members steps = record {
  room = h.room;
  widest = h.widest;
  enough = h.enough;
  positive = h.positive;
  candidates = candidates dp.words h.room h.candidates;
  members = subst (λ (m : ℕ). h.widest ≤ m) (sym members) h.members;
  steps = subst (λ (m : ℕ). h.widest + dp.vars * w ≤ m) (sym steps) h.steps;
  small = h.small;
}

pub members-of : (dp : Dp) (k : ℕ) (region : RegionView) (members : List Member) → Each (IsHeldAt dp k region) members → Each (λ (m : Member). IsNear m.value) members → Each (IsMemberOf dp k region) members
members-of dp k region [] held near = tt
members-of dp k region (m ∷ members) held near = (record { held = held.0; value = near.0 }, members-of dp k region members held.1 near.1)

-- a beam holds the prefix alone, whose row is at the place
pub record IsAlone (dp : Dp) (p : List ℕ) (b : Beam) (region : RegionView) (place : ℕ) (row : List ℤ) (value rank : ℤ) (hash : ℕ) : Type 0 where
  pub region_words : region.words ≡ dp.words
  pub found : slice_get region.rows place ≡ Some (Some row)
  pub row_is : row ≡ state_of dp p
  pub value_is : value ≡ value_of dp p
  pub rank_is : rank ≡ dp.rank (length p) row
  pub hash_is : hash ≡ dp.hash (length p) row
  pub members : b.members.items ≡ start_member value rank hash place ∷ []
  pub steps : b.steps.items ≡ []

pub built-start : (dp : Dp) → IsLawful dp → (p : List ℕ) (w : ℕ) (t : Option ℤ) (b : Beam) (region : RegionView) (place : ℕ) (row : List ℤ) (value rank : ℤ) (hash : ℕ) → IsPrefix dp p → length p < dp.vars → HasLayers dp w b → HasBeamRows dp w (region.spare + 1)
    → IsAlone dp p b region place row value rank hash → IsBuilt dp p w t (length p) b region false
built-start dp laws p w t b region place row value rank hash is_prefix shorter room enough a =
    let zero_is : length p - length p ≡ 0 = omega arith in
    let inside : nat_lt (length p) dp.vars ≡ true = grind (arith, nat_tests) in
    let here : held_row region place ≡ row = held-is region place row a.found in
    let first : members_as (path_at p b.steps.items) region (start_member value rank hash place ∷ []) ≡ reached dp p ∷ [] =
    ap (λ l. members_as (path_at p l) region (start_member value rank hash place ∷ [])) a.steps
    ∙ ap₂ (λ (r : List ℤ) (v : ℤ). record { decisions = p; row = r; value = v } ∷ []) (here ∙ a.row_is) a.value_is in
    let count : length b.members.items ≡ 1 = ap length a.members in
    let none : length b.steps.items ≡ 0 = ap length a.steps in
    record {
      has_room = room;
      region_words = a.region_words;
      region_room = subst (λ (n : ℕ). HasBeamRows dp w (region.spare + n)) (sym count) enough;
      live = subst (AreLive region) (sym (ap member_rows a.members)) (record { live = ((row, a.found), tt); apart = (tt, tt) });
      deep = omega arith;
      list = ap (members_as (path_at p b.steps.items) region) a.members ∙ (first
          ∙ sym (ap (λ j. kept_at dp (length p) (layer_below dp (reached dp p) w t j)) zero_is ∙ ap (λ b. cond b (reached dp p ∷ []) (take 1 (reached dp p ∷ []))) inside));
      held = subst (Each (IsHeldAt dp (length p) region)) (sym a.members) (
        record {
          live = (row, a.found);
          state = subst (IsStateOf dp (length p)) (sym (here ∙ a.row_is)) (prefix-state dp laws p is_prefix);
          rank = a.rank_is ∙ ap (dp.rank (length p)) (sym here);
          hash = a.hash_is ∙ ap (dp.hash (length p)) (sym here);
        },
        tt,
      );
      reached_by = subst (Each (IsReachedWithin (length b.steps.items))) (sym a.members) (omega arith, tt);
      backward = subst AreBackward (sym a.steps) (λ j less. absurd (omega arith));
      one = λ e. count;
      none = λ e. none;
      second = λ e. absurd (omega arith);
      later = λ less. absurd (omega arith);
      few = λ less. absurd (omega arith);
      reduced_is = sym (ap (took dp p w t) zero_is);
    }

-- The end.

first-take : (rs : List Reached) → first_of_all (take 1 rs) ≡ first_of_all rs
first-take [] = refl
first-take (r ∷ rs) = refl

map-some : (o : Option ℕ) (f : ℕ → ℕ) → is_some (option_map f o) ≡ is_some o
map-some None f = refl
map-some (Some n) f = refl

module _ (dp : Dp) (p : List ℕ) (w : ℕ) (t : Option ℤ) (b : Beam) (region : RegionView) (reduced : Bool) (h : IsBuilt dp p w t dp.vars b region reduced) (is_prefix : IsPrefix dp p) where
  last : members_as (path_at p b.steps.items) region b.members.items ≡ take 1 (layer_below dp (reached dp p) w t (dp.vars - length p))
  last =
      let past : nat_lt dp.vars dp.vars ≡ false = grind (arith, nat_tests) in
      h.list ∙ ap (λ c. cond c (layer_below dp (reached dp p) w t (dp.vars - length p)) (take 1 (layer_below dp (reached dp p) w t (dp.vars - length p)))) past

  pub beam-is : first_of_all (members_as (path_at p b.steps.items) region b.members.items) ≡ beam dp p w t
  beam-is = ap first_of_all last ∙ first-take (layer_below dp (reached dp p) w t (dp.vars - length p))

  pub wide-is : reduced ≡ is_some (wide dp p w t)
  wide-is =
      h.reduced_is ∙ (ap (λ n. is_some (find (is_too_wide dp (reached dp p) w t) (below n))) (sym (add-one (dp.vars - length p)))
      ∙ sym (map-some (find (is_too_wide dp (reached dp p) w t) (below (dp.vars - length p + 1))) (λ m. length p + m)))

  whole-paths : (members : List Member) → Each (IsMember dp p dp.vars) (members_as (path_at p b.steps.items) region members)
      → (size : ℕ) → size ≡ dp.vars → Each (λ m. size ≡ length (path_at p b.steps.items m.step)) members
  whole-paths [] all size is = tt
  whole-paths (m ∷ members) all size is = (is ∙ sym all.0.deep, whole-paths members all.1 size is)

  pub paths-whole : (size : ℕ) → size ≡ dp.vars → Each (λ m. size ≡ length (path_at p b.steps.items m.step)) b.members.items
  paths-whole size is =
      let d = h.deep in
      let deep : length p + (dp.vars - length p) ≡ dp.vars = omega arith in
      let all = subst (λ n. Each (IsMember dp p n) (layer_below dp (reached dp p) w t (dp.vars - length p))) deep (layers-prefixes dp p w t (dp.vars - length p) is_prefix (omega arith)) in
      whole-paths b.members.items (subst (Each (IsMember dp p dp.vars)) (sym last) (each-take (IsMember dp p dp.vars) 1 (layer_below dp (reached dp p) w t (dp.vars - length p)) all)) size is
