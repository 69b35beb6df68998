-- The room of the table after puts.
use Rattle.std.proofs.Common.{◌≡◌, ◌≢◌, ℕ, suc, ◌+◌, ◌-◌, ◌<◌, ◌≤◌, nat_eq, Bool, true, false, cond, List, [], ◌∷◌, ◌++◌, length, ◌⊎◌, inl, inr, refl, ◌∙◌, length-append, arith}
use Rattle.std.proofs.lemmas.Bool.Decides.{nat_tests}
use Rattle.dp_model.specs.Dp.{Dp}
use Rattle.dp_model.specs.Subproblem.{Subproblem}
use Rattle.dominance_table.specs.Entries.{TableEntry, TableView, after_put, is_full}
use Rattle.board_laws.specs.Entering.{entry_of}
use Rattle.board_laws.specs.Pushes.{noted_by, put_each}
use Rattle.board_laws.specs.declared.fate.Fate.{Fate}
use Rattle.board_laws.specs.declared.fate.Fate.TheVariants.{Below, Kept, Dominated, Replaced, Entered}
use Rattle.board.specs.Kept.{HasRows}

pub rows_fewer : (m n : ℕ) (t : TableView) → m ≤ n → HasRows n t → HasRows m t
rows_fewer m n t le (inl h) = inl (omega arith)
rows_fewer m n t le (inr h) = inr h

pub rows_first : (n : ℕ) (t : TableView) → 1 ≤ n → HasRows n t → HasRows 1 t
rows_first n t some h = rows_fewer 1 n t some h

-- what a put keeps
pub record PutKeeps (t later : TableView) : Type 0 where
  pub words : later.words ≡ t.words
  pub limit : later.limit ≡ t.limit
  pub limited : length t.entries ≤ t.limit → length later.entries ≤ later.limit
  pub rows : (n : ℕ) → HasRows (suc n) t → HasRows n later

put-full : (t : TableView) (n : ℕ) → HasRows (suc n) t → HasRows n t
put-full t n h = rows_fewer n (suc n) t (omega arith) h

put-more : (t : TableView) (e : TableEntry) (n : ℕ) → length t.entries ≢ t.limit → length t.entries ≤ t.limit → HasRows (suc n) t → HasRows n (record t { entries = t.entries ++ e ∷ []; spare = t.spare - 1 })
put-more t e n room most (inl h) = inl (omega arith)
put-more t e n room most (inr h) = (let long = length-append t.entries (e ∷ []) in inr (omega arith))

pub put_keeps : (t : TableView) (e : TableEntry) → length t.entries ≤ t.limit → PutKeeps t (after_put t e)
put_keeps t e most =
    let more : TableView = record t { entries = t.entries ++ e ∷ []; spare = t.spare - 1 } in
    let go : (b : Bool) → is_full t ≡ b → PutKeeps t (cond b t more) = λ b. elim b as (λ b. is_full t ≡ b → PutKeeps t (cond b t more)) [
      | true ↦ λ e. record { words = refl; limit = refl; limited = λ h. h; rows = put-full t }
      | false ↦ λ no.
          let left : length t.entries ≢ t.limit = grind (arith, nat_tests) in
          record { words = refl; limit = refl; limited = λ h. (let long = length-append t.entries (e ∷ []) in omega arith); rows = λ n h. put-more t e n left most h }
    ] in
    go (is_full t) refl

none-put : (t : TableView) → PutKeeps t t
none-put t = record { words = refl; limit = refl; limited = λ h. h; rows = put-full t }

-- one child by its fate
pub noted_keeps : (dp : Dp) (t : TableView) (c : Subproblem) (f : Fate) → length t.entries ≤ t.limit → PutKeeps t (put_each t (noted_by dp c f))
noted_keeps dp t c Below most = none-put t
noted_keeps dp t c (Kept by) most = none-put t
noted_keeps dp t c (Dominated by) most = none-put t
noted_keeps dp t c (Replaced own old) most = put_keeps t (entry_of dp (record { ticket = own; subproblem = c })) most
noted_keeps dp t c (Entered own) most = put_keeps t (entry_of dp (record { ticket = own; subproblem = c })) most

-- what a put asks
pub put_room : (t : TableView) → HasRows 1 t → length t.entries ≤ t.limit → (0 < t.spare) ⊎ (length t.entries ≡ t.limit)
put_room t (inl h) most = inl (omega arith)
put_room t (inr h) most =
    let Goal : Type 0 = (0 < t.spare) ⊎ (length t.entries ≡ t.limit) in
    let go : (b : Bool) → nat_eq t.spare 0 ≡ b → Goal = λ b. elim b as (λ b. nat_eq t.spare 0 ≡ b → Goal) [
      | true ↦ λ e. (let none : t.spare ≡ 0 = grind (arith, nat_tests) in inr (omega arith))
      | false ↦ λ e. (let some : t.spare ≢ 0 = grind (arith, nat_tests) in inl (omega arith))
    ] in
    go (nat_eq t.spare 0) refl

-- all the entries of a list
pub record PutsKeep (t later : TableView) (n : ℕ) : Type 0 where
  pub words : later.words ≡ t.words
  pub limit : later.limit ≡ t.limit
  pub rows : (m : ℕ) → HasRows (m + n) t → HasRows m later

pub puts_keep : (t : TableView) (es : List TableEntry) → length t.entries ≤ t.limit → PutsKeep t (put_each t es) (length es)
puts_keep t [] most = record { words = refl; limit = refl; rows = λ m h. rows_fewer m (m + 0) t (omega arith) h }
puts_keep t (e ∷ es) most =
    let first = put_keeps t e most in
    let rest = puts_keep (after_put t e) es (first.limited most) in
    record {
      words = rest.words ∙ first.words;
      limit = rest.limit ∙ first.limit;
      rows = λ m h. rest.rows m (first.rows (m + length es) (rows_fewer (suc (m + length es)) (m + length (e ∷ es)) t (omega arith) h));
    }
