-- Kept keys become members, whose paths are those of their ways.
use Rattle.std.proofs.Common.{◌≡◌, ℕ, ◌+◌, ◌<◌, ◌≤◌, ℤ, List, [], ◌∷◌, ◌++◌, length, map, get_or, refl, sym, ap, ap₂, ◌∙◌, append_assoc, arith}
use Rattle.std.proofs.lemmas.List.{length_push, get_or_append_left}
use Rattle.std.proofs.Math.Seq.{get_or-append_seam}
use Rattle.dp_model.specs.Lists.{Each}
use Rattle.dp_model.specs.Reached.{Reached}
use Rattle.dp_model.proofs.Members.{Each-then}
use Rattle.layer_candidates.specs.declared.key.Key.{Key}
use Rattle.layer_candidates.specs.declared.member.Member.{Member}
use Rattle.layer_candidates.specs.declared.step.Step.{Step}
use Rattle.layer_candidates.specs.declared.way.Way.{Way}
use Rattle.layer_candidates.specs.Members.{member_rows, members_as}
use Rattle.layer_candidates.specs.Pruning.{all_keyed}
use Rattle.layer_candidates.specs.HeldRows.{AreSame, held_row}
use Rattle.layer_candidates.specs.KeyOrder.{key_rows}
use Rattle.layer_candidates.specs.Steps.{paths_after, path_at, step_of, entered, IsReachedWithin}
use Rattle.layer_candidates.specs.Ways.{way_at}
use Rattle.layer_candidates.proofs.HeldRows.{held-same}
use Rattle.row_region.specs.Region.{RegionView, IsLive}

-- Paths.

paths-both : (paths : List (List ℕ)) (xs ys : List Step) → paths_after paths (xs ++ ys) ≡ paths_after (paths_after paths xs) ys
paths-both paths [] ys = refl
paths-both paths (x ∷ xs) ys = paths-both (paths ++ (get_or paths x.before [] ++ x.decision ∷ []) ∷ []) xs ys

paths-stay : (paths : List (List ℕ)) (steps : List Step) (i : ℕ) → i < length paths → get_or (paths_after paths steps) i [] ≡ get_or paths i []
paths-stay paths [] i less = refl
paths-stay paths (s ∷ steps) i less =
    let p = get_or paths s.before [] ++ s.decision ∷ [] in
    paths-stay (paths ++ p ∷ []) steps i (let e = length_push paths p in omega arith) ∙ get_or_append_left paths (p ∷ []) [] i less

length-paths : (paths : List (List ℕ)) (steps : List Step) → length (paths_after paths steps) ≡ length paths + length steps
length-paths paths [] = omega arith
length-paths paths (s ∷ steps) =
    let p = get_or paths s.before [] ++ s.decision ∷ [] in
    let e = length-paths (paths ++ p ∷ []) steps in let n = length_push paths p in omega arith

module _ (prefix : List ℕ) where
  pub path-stays : (steps more : List Step) (i : ℕ) → i ≤ length steps → path_at prefix (steps ++ more) i ≡ path_at prefix steps i
  path-stays steps more i within =
      let size = length-paths (prefix ∷ []) steps in
      ap (λ (l : List (List ℕ)). get_or l i []) (paths-both (prefix ∷ []) steps more) ∙ paths-stay (paths_after (prefix ∷ []) steps) more i (omega arith)

  pub path-first : (steps : List Step) → path_at prefix steps 0 ≡ prefix
  path-first steps = paths-stay (prefix ∷ []) steps 0 (omega arith)

  pub path-new : (steps : List Step) (s : Step) → path_at prefix (steps ++ s ∷ []) (length steps + 1) ≡ path_at prefix steps s.before ++ s.decision ∷ []
  path-new steps s =
      let old = paths_after (prefix ∷ []) steps in
      let p = get_or old s.before [] ++ s.decision ∷ [] in
      let size : length steps + 1 ≡ length old = (let e = length-paths (prefix ∷ []) steps in omega arith) in
      ap (λ (l : List (List ℕ)). get_or l (length steps + 1) []) (paths-both (prefix ∷ []) steps (s ∷ []))
      ∙ (ap (λ n. get_or (old ++ p ∷ []) n []) size ∙ get_or-append_seam old p [] [])

  module _ (region : RegionView) (ways : List Way) where
    keyed-stays : (steps more : List Step) (keys : List Key) → Each (λ key. (way_at ways key.place).parent ≤ length steps) keys
        → all_keyed (path_at prefix (steps ++ more)) region ways keys ≡ all_keyed (path_at prefix steps) region ways keys
    keyed-stays steps more [] h = refl
    keyed-stays steps more (key ∷ keys) h =
        ap₂ (λ (r : Reached) rs. r ∷ rs) (ap (λ (p : List ℕ). record { decisions = p ++ (way_at ways key.place).decision ∷ []; row = held_row region key.row; value = key.value }) (path-stays steps more (way_at ways key.place).parent h.0)) (keyed-stays steps more keys h.1)

    -- the members that are entered stand for the prefixes of their keys' ways
    pub descended : (steps : List Step) (keys : List Key) → Each (λ key. (way_at ways key.place).parent ≤ length steps) keys
        → members_as (path_at prefix (steps ++ map (step_of ways) keys)) region (entered ways (length steps) keys) ≡ all_keyed (path_at prefix steps) region ways keys
    descended steps [] h = refl
    descended steps (key ∷ keys) h =
        let s = step_of ways key in
        let more = steps ++ s ∷ [] in
        let count : length more ≡ length steps + 1 = length_push steps s in
        let split : more ++ map (step_of ways) keys ≡ steps ++ s ∷ map (step_of ways) keys = append_assoc steps (s ∷ []) (map (step_of ways) keys) in
        let first : path_at prefix (steps ++ s ∷ map (step_of ways) keys) (length steps + 1) ≡ path_at prefix steps s.before ++ s.decision ∷ [] =
        ap (λ l. path_at prefix l (length steps + 1)) (sym split) ∙ (path-stays more (map (step_of ways) keys) (length steps + 1) (omega arith) ∙ path-new steps s) in
        let later : Each (λ (key : Key). (way_at ways key.place).parent ≤ length more) keys =
        Each-then (λ (key : Key). (way_at ways key.place).parent ≤ length steps) (λ (key : Key). (way_at ways key.place).parent ≤ length more) keys (λ key low. omega arith) h.1 in
        let rest : members_as (path_at prefix (steps ++ s ∷ map (step_of ways) keys)) region (entered ways (length steps + 1) keys) ≡ all_keyed (path_at prefix steps) region ways keys =
        ap₂ (λ l n. members_as (path_at prefix l) region (entered ways n keys)) (sym split) (sym count) ∙ (descended more keys later ∙ keyed-stays steps (s ∷ []) keys h.1) in
        ap₂ (λ (r : Reached) rs. r ∷ rs) (ap (λ (p : List ℕ). record { decisions = p; row = held_row region key.row; value = key.value }) first) rest

  -- the members of the layer above stand for the same prefixes
  pub members-stay : (region : RegionView) (steps more : List Step) (members : List Member) → Each (IsReachedWithin (length steps)) members
      → members_as (path_at prefix (steps ++ more)) region members ≡ members_as (path_at prefix steps) region members
  members-stay region steps more [] h = refl
  members-stay region steps more (m ∷ members) h =
      ap₂ (λ (r : Reached) rs. r ∷ rs) (ap (λ (p : List ℕ). record { decisions = p; row = held_row region m.row; value = m.value }) (path-stays steps more m.step h.0)) (members-stay region steps more members h.1)

-- Members, key by key.

pub entered-push : (ways : List Way) (n : ℕ) (keys : List Key) (key : Key) → entered ways n (keys ++ key ∷ []) ≡ entered ways n keys ++ record { value = key.value; rank = key.rank; hash = (way_at ways key.place).hash; row = key.row; step = n + length keys + 1 } ∷ []
entered-push ways n [] key = ap (λ (s : ℕ). record { value = key.value; rank = key.rank; hash = (way_at ways key.place).hash; row = key.row; step = s } ∷ []) (omega arith)
entered-push ways n (k ∷ keys) key =
    ap (λ (l : List Member). record { value = k.value; rank = k.rank; hash = (way_at ways k.place).hash; row = k.row; step = n + 1 } ∷ l)
    (entered-push ways (n + 1) keys key ∙ ap (λ (s : ℕ). entered ways (n + 1) keys ++ record { value = key.value; rank = key.rank; hash = (way_at ways key.place).hash; row = key.row; step = s } ∷ []) (omega arith))

pub length-entered : (ways : List Way) (n : ℕ) (keys : List Key) → length (entered ways n keys) ≡ length keys
length-entered ways n [] = refl
length-entered ways n (k ∷ keys) = let e = length-entered ways (n + 1) keys in omega arith

pub entered-within : (ways : List Way) (n m : ℕ) (keys : List Key) → n + length keys ≤ m → Each (IsReachedWithin m) (entered ways n keys)
entered-within ways n m [] h = tt
entered-within ways n m (k ∷ keys) h = (omega arith, entered-within ways (n + 1) m keys (omega arith))

pub entered-rows : (ways : List Way) (n : ℕ) (keys : List Key) → member_rows (entered ways n keys) ≡ key_rows keys
entered-rows ways n [] = refl
entered-rows ways n (key ∷ keys) = ap (λ (l : List ℕ). key.row ∷ l) (entered-rows ways (n + 1) keys)

-- where the rows of the keys stay
pub entered-same : (ways : List Way) (paths : ℕ → List ℕ) (old new : RegionView) (n : ℕ) (keys : List Key) → AreSame old new (key_rows keys) → Each (λ key. IsLive old key.row) keys
    → members_as paths new (entered ways n keys) ≡ members_as paths old (entered ways n keys)
entered-same ways paths old new n [] same live = refl
entered-same ways paths old new n (key ∷ keys) same live =
    ap₂ (λ (r : Reached) rs. r ∷ rs) (ap (λ (row : List ℤ). record { decisions = paths (n + 1); row = row; value = key.value }) (held-same old new key.row live.0 same.0))
    (entered-same ways paths old new (n + 1) keys same.1 live.1)
