-- Subproblems of their own, one after another.
use Rattle.std.proofs.Common.{◌≡◌, ℕ, suc, ◌+◌, ◌*◌, ◌<◌, ℤ, List, [], ◌∷◌, ◌++◌, length, get_or, take, drop, sym, ◌∙◌, ap, arith, append_assoc, drop-cons, length-drop}
use Rattle.dp_model.specs.Subproblem.{Subproblem, SubView}
use Rattle.exact_cutset.specs.declared.child.Child.{Child}
use Rattle.exact_cutset.specs.Seen.{subproblems}
use Rattle.exact_cutset.specs.Stored.{shown_sub, shown_subs, depths_of}
use Rattle.exact_cutset.proofs.Kept.{map-last, rows-rest}

-- the child at the place, and those after it
pub following : (cs : List Child) (i : ℕ) (d : Child) → i < length cs → drop i cs ≡ get_or cs i d ∷ drop (i + 1) cs
following cs i d less = let next : suc i ≡ i + 1 = omega arith in drop-cons cs i d less ∙ ap (λ n. get_or cs i d ∷ drop n cs) next

-- what is left to be made
pub record IsLeft (words : ℕ) (cs : List Child) (i : ℕ) (all : List Subproblem) (made : List SubView) (rows : List ℤ) (paths : List ℕ) : Type 0 where
  pub made_is : subproblems made ++ shown_subs words (drop i cs) rows paths ≡ all
  pub rows_are : length rows ≡ length (drop i cs) * words
  pub paths_are : length paths ≡ depths_of (drop i cs)

pub one-made : (words : ℕ) (cs : List Child) (i : ℕ) (all : List Subproblem) (made : List SubView) (rows rest-rows : List ℤ) (paths rest-paths : List ℕ) (d : Child) (new : List SubView) (s : SubView) (row : List ℤ) (path : List ℕ) → i < length cs
    → subproblems made ++ shown_subs words (drop i cs) rows paths ≡ all → length rows ≡ length (drop i cs) * words → length paths ≡ depths_of (drop i cs)
    → row ≡ take words rows → rest-rows ≡ drop words rows → path ≡ take (get_or cs i d).depth paths → rest-paths ≡ drop (get_or cs i d).depth paths
    → s.subproblem ≡ shown_sub (get_or cs i d) row path → new ≡ made ++ s ∷ [] → IsLeft words cs (i + 1) all new rest-rows rest-paths
one-made words cs i all made rows rest-rows paths rest-paths d new s row path less m a b r1 r2 p1 p2 is n =
    let x = get_or cs i d in
    let rest = drop (i + 1) cs in
    let left = following cs i d less in
    let sub : s.subproblem ≡ shown_sub x (take words rows) (take x.depth paths) = is ∙ (ap (λ r. shown_sub x r path) r1 ∙ ap (λ p. shown_sub x (take words rows) p) p1) in
    let tail = shown_subs words rest (drop words rows) (drop x.depth paths) in
    let long : length rows ≡ suc (length rest) * words = a ∙ ap (λ l. length l * words) left in
    record {
      made_is =
          ap (λ v. subproblems v ++ shown_subs words rest rest-rows rest-paths) n
          ∙ (ap (λ v. v ++ shown_subs words rest rest-rows rest-paths) (map-last (λ (v : SubView). v.subproblem) made s)
          ∙ (append_assoc (subproblems made) (s.subproblem ∷ []) (shown_subs words rest rest-rows rest-paths)
          ∙ (ap (λ v. subproblems made ++ v ∷ shown_subs words rest rest-rows rest-paths) sub
          ∙ (ap (λ r. subproblems made ++ shown_sub x (take words rows) (take x.depth paths) ∷ shown_subs words rest r rest-paths) r2
          ∙ (ap (λ p. subproblems made ++ shown_sub x (take words rows) (take x.depth paths) ∷ shown_subs words rest (drop words rows) p) p2
          ∙ (ap (λ l. subproblems made ++ shown_subs words l rows paths) (sym left) ∙ m))))));
      rows_are = ap (λ r. length r) r2 ∙ rows-rest rows (length rest) words long;
      paths_are = (let e = b ∙ ap depths_of left in let f = ap (λ p. length p) p2 in let g = length-drop x.depth paths in omega arith);
    }
