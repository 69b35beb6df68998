-- The size of a record that names children in memory.
use Rattle.std.proofs.Common.{◌≡◌, ℕ, ◌+◌, ◌*◌, ◌≤◌, ◌^◌, ℤ, List, [], ◌∷◌, length, take, drop, arith, length-drop}
use Rattle.std.proofs.lemmas.List.{length-take-le}
use Rattle.std.proofs.lemmas.Nat.{mul-le}
use Rattle.std.proofs.lemmas.List.Sums.{sum_by-cons}
use Rattle.dp_model.specs.Subproblem.{Subproblem}
use Rattle.dp_model.specs.Lists.{Each}
use Rattle.dp_laws.specs.Children.{children_size}
use Rattle.exact_cutset.specs.declared.child.Child.{Child}
use Rattle.exact_cutset.specs.Stored.{shown_sub, shown_subs, depths_of}
use Rattle.exact_cutset.proofs.Kept.{depths-most}

-- 12 bytes, 20 for each child, and 4 for each decision
pub shown-size : (words : ℕ) (cs : List Child) (rows : List ℤ) (paths : List ℕ) → length paths ≡ depths_of cs → children_size (shown_subs words cs rows paths) ≡ 12 + 20 * length cs + 4 * length paths
shown-size words [] rows paths e = omega arith
shown-size words (c ∷ cs) rows paths e =
    let front = length-take-le c.depth paths (omega arith) in
    let back = length-drop c.depth paths in
    let ih = shown-size words cs (drop words rows) (drop c.depth paths) (omega arith) in
    let rest = shown_subs words cs (drop words rows) (drop c.depth paths) in
    let sum = sum_by-cons (λ (x : Subproblem). 20 + 4 * length x.decisions) (shown_sub c (take words rows) (take c.depth paths)) rest in
    omega arith

-- this many decisions are few
pub few-decisions : (vars : ℕ) (cs : List Child) (paths : List ℕ) → vars ≤ 1024 → length cs ≤ 2 ^ 34 → Each (λ (c : Child). c.depth ≤ vars) cs → length paths ≡ depths_of cs → length paths ≤ 2 ^ 44
few-decisions vars cs paths low few deep e =
    let most = depths-most vars cs deep in
    let bound : length cs * vars ≤ 2 ^ 34 * 1024 = mul-le (length cs) vars (2 ^ 34) 1024 few low in
    omega arith
