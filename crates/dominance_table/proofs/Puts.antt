-- A table at a put.
use Rattle.std.proofs.Common.{◌≡◌, ℕ, zero, suc, ◌+◌, ◌-◌, ◌*◌, ◌<◌, ◌≤◌, ◌⊎◌, inl, inr, ℤ, pos, List, [], ◌∷◌, ◌++◌, length, true, false, cond, refl, sym, ◌∙◌, ap, ap₂, subst, arith, add-one, Result, Ok, Err, IsOk, is_ok}
use Rattle.std.proofs.Math.Nat.{suc-mul, add-mul}
use Rattle.std.proofs.lemmas.Bool.{eq-eqb, ne_eqb}
use Rattle.std.proofs.lemmas.Nat.{mul-le}
use Rattle.std.proofs.lemmas.List.{get_or_append_left, length-append}
use Rattle.std.proofs.Math.Seq.{get_or-append_seam}
use Rattle.dominance_table.specs.declared.entry.Entry.{Entry}
use Rattle.dominance_table.specs.declared.put.Put.TheVariants.{Yes, AtLimit}
use Rattle.dominance_table.specs.declared.groups.Run.{Run}
use Rattle.dominance_table.specs.Groups.{HasEnteredRun, fold_at, depth_at, bucket_at, end_at, start_at, group_fold}
use Rattle.dominance_table.specs.Entries.{TableEntry, TableView, HasRoom, HasRunRoom, AreGrouped, AreRising, entry_at, is_full, put_gives, after_put, with_row, with_rows}
use Rattle.dominance_table.proofs.Rows.{length_with_rows, with_rows_more}

-- a table as its fields show it
abbrev pub seen : ℕ → ℕ → ℕ → ℕ → List Entry → List ℤ → TableView
seen words limit room len es cells = record { entries = with_rows words es cells; words = words; limit = limit; spare = room - len }

-- it is full where there are as many entries as the limit
pub full_then : (t : TableView) (words limit room len : ℕ) (es : List Entry) (cells : List ℤ) → seen words limit room len es cells ≡ t → len ≡ length es → len ≡ limit → is_full t ≡ true
full_then t words limit room len es cells is long at =
    subst (λ (v : TableView). is_full v ≡ true) is (eq-eqb _ _ (length_with_rows words es cells ∙ (sym long ∙ at)))

-- and else not
pub full_else : (t : TableView) (words limit room len : ℕ) (es : List Entry) (cells : List ℤ) → seen words limit room len es cells ≡ t → len ≡ length es → (len ≡ limit → ⊥) → is_full t ≡ false
full_else t words limit room len es cells is long at =
    subst (λ (v : TableView). is_full v ≡ false) is (ne_eqb _ _ (λ e. at (long ∙ (sym (length_with_rows words es cells) ∙ e))))

pub answers_full : (t : TableView) → is_full t ≡ true → AtLimit ≡ put_gives t
answers_full t h = ap (λ b. cond b AtLimit Yes) (sym h)

pub answers_put : (t : TableView) → is_full t ≡ false → Yes ≡ put_gives t
answers_put t h = ap (λ b. cond b AtLimit Yes) (sym h)

pub stays_full : (t : TableView) (e : TableEntry) → is_full t ≡ true → t ≡ after_put t e
stays_full t e h = ap (λ b. cond b t (record t { entries = t.entries ++ e ∷ []; spare = t.spare - 1 })) (sym h)

-- one more entry fits
pub room_left : (t : TableView) (words limit room len : ℕ) (es : List Entry) (cells : List ℤ) → seen words limit room len es cells ≡ t → len ≡ length es → (len ≡ limit → ⊥)
    → (0 < t.spare) ⊎ (length t.entries ≡ t.limit) → len < room
room_left t words limit room len es cells is long at may =
    let here : (0 < room - len) ⊎ (length (with_rows words es cells) ≡ limit) = subst (λ (v : TableView). (0 < v.spare) ⊎ (length v.entries ≡ v.limit)) (sym is) may in
    elim here as (λ _. len < room) [ inl h ↦ omega arith | inr h ↦ absurd (at (long ∙ (sym (length_with_rows words es cells) ∙ h))) ]

one_more : (n words : ℕ) → (n + 1) * words ≡ n * words + words
one_more n words = ap (λ k. k * words) (add-one n) ∙ suc-mul n words

-- so does its row
pub row_fits : (words limit room len capacity cells cells_capacity : ℕ) → HasRoom words limit room len capacity cells cells_capacity → len < room → cells + words ≤ cells_capacity
row_fits words limit room len capacity cells cells_capacity h more =
    let block = mul-le (len + 1) words room words (omega arith) (omega arith) in
    let sum : (len + 1) * words ≡ len * words + words = one_more len words in
    let rows = h.rows in let blocks = h.blocks in omega arith

pub kept_room : (words limit room len capacity cells cells_capacity : ℕ) → HasRoom words limit room len capacity cells cells_capacity → len < room → (len ≡ limit → ⊥)
    → HasRoom words limit room (len + 1) capacity (cells + words) cells_capacity
kept_room words limit room len capacity cells cells_capacity h more at =
    let sum = one_more len words in
    let rows = h.rows in let limited = h.limited in
    let under : len < limit = grind arith in
    record { some = h.some; limited = omega arith; placed = omega arith; entries = h.entries; rows = omega arith; blocks = h.blocks }

-- the table after the put, as its fields show it
pub put_step : (t : TableView) (words limit room len : ℕ) (es : List Entry) (cells : List ℤ) (e : Entry) (row : List ℤ) → seen words limit room len es cells ≡ t → is_full t ≡ false
    → length cells ≡ length es * words → length row ≡ words → seen words limit room (len + 1) (es ++ e ∷ []) (cells ++ row) ≡ after_put t (with_row e row)
put_step t words limit room len es cells e row is room_is h k =
    let entries = with_rows_more words es cells e row h k in
    let spare : room - (len + 1) ≡ room - len - 1 = omega arith in
    let now : seen words limit room (len + 1) (es ++ e ∷ []) (cells ++ row) ≡ record { entries = with_rows words es cells ++ with_row e row ∷ []; words = words; limit = limit; spare = room - len - 1 } =
    ap (λ l. record { entries = l; words = words; limit = limit; spare = room - (len + 1) }) entries ∙ ap (λ n. record { entries = with_rows words es cells ++ with_row e row ∷ []; words = words; limit = limit; spare = n }) spare in
    now ∙ subst (λ (v : TableView). record { entries = with_rows words es cells ++ with_row e row ∷ []; words = words; limit = limit; spare = room - len - 1 } ≡ cond (is_full t) t (record v { entries = v.entries ++ with_row e row ∷ []; spare = v.spare - 1 })) is
    (ap (λ b. cond b t (record { entries = with_rows words es cells ++ with_row e row ∷ []; words = words; limit = limit; spare = room - len - 1 })) (sym room_is))

-- there is room for this many entries more
pub reserved_room : (words limit room len capacity cells cells_capacity rows block now now_len now_capacity now_cells now_cells_capacity : ℕ) → HasRoom words limit room len capacity cells cells_capacity
    → now ≡ len + rows → block ≡ rows * words → now_len ≡ len → now_len + rows ≤ now_capacity → now_cells ≡ cells → now_cells + block ≤ now_cells_capacity
    → HasRoom words limit now now_len now_capacity now_cells now_cells_capacity
reserved_room words limit room len capacity cells cells_capacity rows block now now_len now_capacity now_cells now_cells_capacity h e b l c k d =
    let split : now * words ≡ len * words + rows * words = ap (λ n. n * words) e ∙ add-mul len rows words in
    let same : now_len * words ≡ len * words = ap (λ n. n * words) l in
    let there = h.rows in let limited = h.limited in
    record { some = h.some; limited = omega arith; placed = omega arith; entries = omega arith; rows = omega arith; blocks = omega arith }

-- a row that fits is appended
pub row_put : {E : Type 0} (r : Result (Unit {0}) E) (words cells capacity now : ℕ) (old row items : List ℤ) → (cells + length row ≤ capacity → IsOk r) → cells + words ≤ capacity → length row ≡ words
    → items ≡ cond (is_ok r) (old ++ row) old → now ≡ cond (is_ok r) (cells + length row) cells → (items ≡ old ++ row) × (now ≡ cells + words)
row_put (Ok x) words cells capacity now old row items may fits long is count = (is, count ∙ ap (λ n. cells + n) long)
row_put (Err e) words cells capacity now old row items may fits long is count = let no : false ≡ true = may (omega arith) in absurd (cc)

-- the entry at a place, with one more at the end
entry_before : (es : List Entry) (e : Entry) (i : ℕ) → i < length es → entry_at (es ++ e ∷ []) i ≡ entry_at es i
entry_before es e i less = get_or_append_left es (e ∷ []) (record { depth = 0; bucket = 0; rank = pos 0; value = pos 0; ticket = 0 }) i less

entry_last : (es : List Entry) (e : Entry) (i : ℕ) → i ≡ length es → entry_at (es ++ e ∷ []) i ≡ e
entry_last es e i here = ap (entry_at (es ++ e ∷ [])) here ∙ get_or-append_seam es e [] (record { depth = 0; bucket = 0; rank = pos 0; value = pos 0; ticket = 0 })

before_or_last : (es : List Entry) (e : Entry) (i : ℕ) → i < length (es ++ e ∷ []) → (i < length es) ⊎ (i ≡ length es)
before_or_last es e i less = let sum = length-append es (e ∷ []) in grind arith

-- there is room for as many runs more as entries, with one entry more
pub run_room_more : (room len runs runs' runs_room : ℕ) → HasRunRoom room len runs runs_room → len < room → (runs' ≡ runs) ⊎ (runs' ≡ runs + 1) → HasRunRoom room (len + 1) runs' runs_room
run_room_more room len runs runs' runs_room h more step = elim step as (λ _. HasRunRoom room (len + 1) runs' runs_room) [ inl same ↦ omega arith | inr one ↦ omega arith ]

-- the run after a place starts where the one at it ends
pub start_is : (runs : List Run) (r : ℕ) → start_at runs (r + 1) ≡ end_at runs r
start_is runs r = ap (start_at runs) (add-one r)

-- no run starts past all entries
pub start_within : (es : List Entry) (runs : List Run) (r : ℕ) → AreGrouped es runs → r ≤ length runs → start_at runs r ≤ length es
start_within es runs zero h at = omega arith
start_within es runs (suc r) h at = h.within r (omega arith)

-- one more entry is grouped
module _ (es : List Entry) (e : Entry) (runs runs' : List Run) (h : AreGrouped es runs) (more : HasEnteredRun runs runs' e.depth e.bucket (group_fold e.depth e.bucket) (length es + 1)) where
  starts : (r : ℕ) → r < length runs' → start_at runs' r ≡ start_at runs r
  starts zero less = refl
  starts (suc r) less = more.ends r (omega arith)

  most : length runs' ≤ length runs + 1
  most = elim more.len as (λ _. length runs' ≤ length runs + 1) [ inl same ↦ omega arith | inr one ↦ omega arith ]

  least : length runs ≤ length runs'
  least = elim more.len as (λ _. length runs ≤ length runs') [ inl same ↦ omega arith | inr one ↦ omega arith ]

  last-or-not : (r : ℕ) → r < length runs' → (r + 1 < length runs') ⊎ (r + 1 ≡ length runs')
  last-or-not r less = grind arith

  -- a run that is not the last is as it was
  ended : (r : ℕ) → r + 1 < length runs' → (r < length runs) × (end_at runs' r ≡ end_at runs r)
  ended r less = (let k = most in omega arith, more.ends r less)

  -- an entry that was there is in a run that was there
  was-in : (r i : ℕ) → i < length es → r < length runs' → start_at runs r ≤ i → i < end_at runs' r → (r < length runs) × (i < end_at runs r)
  was-in r i there less from to = elim (last-or-not r less) as (λ _. (r < length runs) × (i < end_at runs r)) [
    | inl before ↦ (let k = ended r before in (k.0, subst (λ n. i < n) k.1 to))
    | inr last ↦ (
        let side : (r < length runs) ⊎ (r ≡ length runs) = (let k = most in grind arith) in
        elim side as (λ _. (r < length runs) × (i < end_at runs r)) [
          | inl old ↦ (let k = least in
              let end : r + 1 ≡ length runs = omega arith in
              let all : end_at runs r ≡ length es = sym (start_is runs r) ∙ (ap (start_at runs) end ∙ h.all) in
              (old, omega arith))
          | inr new ↦ absurd (let all : start_at runs r ≡ length es = ap (start_at runs) new ∙ h.all in omega arith)
        ])
  ]

  -- a new entry is in the last run
  is-last : (r : ℕ) → r < length runs' → length es < end_at runs' r → r + 1 ≡ length runs'
  is-last r less to = elim (last-or-not r less) as (λ _. r + 1 ≡ length runs') [
    | inl before ↦ absurd (let k = ended r before in let w = h.within r k.0 in let same = k.1 in omega arith)
    | inr last ↦ last
  ]

  within-more : (r : ℕ) → r < length runs' → end_at runs' r ≤ length es + 1
  within-more r less = elim (last-or-not r less) as (λ _. end_at runs' r ≤ length es + 1) [
    | inl before ↦ (let k = ended r before in let w = h.within r k.0 in let same = k.1 in omega arith)
    | inr last ↦ (let k = more.end_is r last in omega arith)
  ]

  ordered-more : (r : ℕ) → r < length runs' → start_at runs' r ≤ end_at runs' r
  ordered-more r less = elim (last-or-not r less) as (λ _. start_at runs' r ≤ end_at runs' r) [
    | inl before ↦ (let k = ended r before in let w = h.ordered r k.0 in let same = k.1 in let start = starts r less in omega arith)
    | inr last ↦ (
        let k = more.end_is r last in
        let start = starts r less in
        let m = most in
        let w = start_within es runs r h (omega arith) in omega arith)
  ]

  group-more : (r i : ℕ) → r < length runs' → start_at runs' r ≤ i → i < end_at runs' r
      → ((entry_at (es ++ e ∷ []) i).depth ≡ depth_at runs' r) × ((entry_at (es ++ e ∷ []) i).bucket ≡ bucket_at runs' r)
  group-more r i less from to =
      let sum = length-append es (e ∷ []) in
      let top = within-more r less in
      let start = starts r less in
      let begun : start_at runs r ≤ i = omega arith in
      elim (before_or_last es e i (omega arith)) as (λ _. ((entry_at (es ++ e ∷ []) i).depth ≡ depth_at runs' r) × ((entry_at (es ++ e ∷ []) i).bucket ≡ bucket_at runs' r)) [
        | inl there ↦ (let k = was-in r i there less begun to in
            let own = entry_before es e i there in
            (ap (λ (x : Entry). x.depth) own ∙ (h.depth r i k.0 begun k.1 ∙ sym (more.depths r k.0)), ap (λ (x : Entry). x.bucket) own ∙ (h.bucket r i k.0 begun k.1 ∙ sym (more.buckets r k.0))))
        | inr here ↦ (
            let last = is-last r less (omega arith) in
            let own = entry_last es e i here in
            (ap (λ (x : Entry). x.depth) own ∙ sym (more.depth_is r last), ap (λ (x : Entry). x.bucket) own ∙ sym (more.bucket_is r last)))
      ]

  fold-more : (r : ℕ) → r < length runs' → fold_at runs' r ≡ group_fold (depth_at runs' r) (bucket_at runs' r)
  fold-more r less =
      let m = most in
      let side : (r < length runs) ⊎ (r ≡ length runs) = grind arith in
      elim side as (λ _. fold_at runs' r ≡ group_fold (depth_at runs' r) (bucket_at runs' r)) [
        | inl old ↦ more.folds r old ∙ (h.fold r old ∙ ap₂ group_fold (sym (more.depths r old)) (sym (more.buckets r old)))
        | inr new ↦ (
            let one : length runs' ≡ length runs + 1 = omega arith in
            let last : r + 1 ≡ length runs' = omega arith in
            ap (fold_at runs') new ∙ (more.fold_is one ∙ ap₂ group_fold (sym (more.depth_is r last)) (sym (more.bucket_is r last))))
      ]

  pub grouped_more : AreGrouped (es ++ e ∷ []) runs'
  grouped_more =
      let sum = length-append es (e ∷ []) in
      let some = more.some in
      let last : length runs' - 1 + 1 ≡ length runs' = omega arith in
      record {
        all = ap (start_at runs') (sym last) ∙ (start_is runs' (length runs' - 1) ∙ (more.end_is (length runs' - 1) last ∙ sym sum));
        within = λ r less. (let k = within-more r less in omega arith);
        ordered = ordered-more;
        depth = λ r i less from to. (group-more r i less from to).0;
        bucket = λ r i less from to. (group-more r i less from to).1;
        fold = fold-more;
      }

-- tickets rise with one more that is no less than the last
pub rising_more : (es : List Entry) (e : Entry) → AreRising es → ((i : ℕ) → i + 1 ≡ length es → (entry_at es i).ticket ≤ e.ticket) → AreRising (es ++ e ∷ [])
rising_more es e rising last i j before less = elim (before_or_last es e j less) as (λ _. (entry_at (es ++ e ∷ []) i).ticket ≤ (entry_at (es ++ e ∷ []) j).ticket) [
  | inl there ↦ subst (λ (x : Entry). x.ticket ≤ (entry_at (es ++ e ∷ []) j).ticket) (sym (entry_before es e i (omega arith)))
      (subst (λ (x : Entry). (entry_at es i).ticket ≤ x.ticket) (sym (entry_before es e j there)) (rising i j before there))
  | inr here ↦ subst (λ (x : Entry). (entry_at (es ++ e ∷ []) i).ticket ≤ x.ticket) (sym (entry_last es e j here)) (
      let side : (i < length es) ⊎ (i ≡ length es) = grind arith in
      elim side as (λ _. (entry_at (es ++ e ∷ []) i).ticket ≤ e.ticket) [
        | inl there ↦ subst (λ (x : Entry). x.ticket ≤ e.ticket) (sym (entry_before es e i there)) (
            let end : length es - 1 + 1 ≡ length es = omega arith in
            let one = rising i (length es - 1) (omega arith) (omega arith) in
            let two = last (length es - 1) end in omega arith)
        | inr same ↦ subst (λ (x : Entry). x.ticket ≤ e.ticket) (sym (entry_last es e i same)) (omega arith)
      ])
]
