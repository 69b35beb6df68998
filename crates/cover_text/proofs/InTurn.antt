-- Sections that are tested as they are read give the verdict on the cover that they are read as.
use Rattle.std.proofs.Common.{◌≡◌, ℕ, zero, suc, Bool, true, false, cond, List, [], ◌∷◌, ◌++◌, length, ℤ, Option, refl, sym, ◌∙◌, ap, arith}
use Rattle.std.specs.Prelude.{⊤, Result, Ok, Err, codes, decimal}
use Rattle.tokens.specs.Text.{TextState, text_start, finish_at}
use Rattle.tokens.specs.declared.place.Place.{Place}
use Rattle.tokens.specs.declared.text_error.TextError.{TextError}
use Rattle.tokens.specs.declared.comment.Comment.TheVariants.{Never}
use Rattle.dp_model.specs.Dp.{Dp}
use Rattle.bound_cover.specs.Covers.{CoverRow}
use Rattle.bound_cover.specs.InTurn.{begun, taken, all_taken, concluded}
use Rattle.bound_cover.specs.Stored.{with_row}
use Rattle.bound_cover.specs.Verdicts.{solution_fault, claim_of, verdict}
use Rattle.bound_cover.specs.declared.layer_tests.LayerTests.{LayerTests}
use Rattle.bound_cover.proofs.InTurn.{count-taken, none-yet, taken-last, concluded-is}
use Rattle.cover_text.specs.Grammar.{CoverError, read_then, part_then, passed_then, end_then, until, never, stands, fixed_at, small_at, Fails}
use Rattle.cover_text.specs.declared.cover_error.CoverError.TheVariants.{Text, Word, OutOfMemory}
use Rattle.cover_text.specs.Instances.{end_place, moved}
use Rattle.cover_text.specs.RowLines.{bound_at, semicolon_at, state_word_at, ends_words, arcs_at, row_into}
use Rattle.cover_text.specs.Sections.{numbered_at, layer_at, sections_at}
use Rattle.cover_text.specs.Tested.{tested_at, tested_sections}
use Rattle.cover_text.specs.Texts.{and_then, moved_by, cover_after, OpenView, verdict_after}

-- ---- chains whose outcomes are made into others

then-same : {A B C : Type 0} (part : Result (A × TextState) CoverError) (f : A → TextState → Result (B × TextState) CoverError) (k : B → TextState → Result C CoverError) (g : A → TextState → Result C CoverError)
    → ((x : A) (s : TextState) → part_then (f x s) k ≡ g x s) → part_then (part_then part f) k ≡ part_then part g
then-same (Ok (x, s)) f k g same = same x s
then-same (Err e) f k g same = refl

passed-same : {B C : Type 0} (part : Result TextState CoverError) (f : TextState → Result (B × TextState) CoverError) (k : B → TextState → Result C CoverError) (g : TextState → Result C CoverError)
    → ((s : TextState) → part_then (f s) k ≡ g s) → part_then (passed_then part f) k ≡ passed_then part g
passed-same (Ok s) f k g same = same s
passed-same (Err e) f k g same = refl

made-or : {A B : Type 0} (over : Bool) (a : A) (s : TextState) (f : A → B) (rest : Result (A × TextState) CoverError) (more : Result (B × TextState) CoverError)
    → part_then rest (λ x t. Ok (f x, t)) ≡ more → part_then (cond over (Ok (a, s)) rest) (λ x t. Ok (f x, t)) ≡ cond over (Ok (f a, s)) more
made-or true a s f rest more same = refl
made-or false a s f rest more same = same

-- parts that go by what is made of those before them
made-until : {A B : Type 0} (ends : TextState → Bool) (f : A → B) (from : A → TextState → Result (A × TextState) CoverError) (to : B → TextState → Result (B × TextState) CoverError)
    → ((a : A) (s : TextState) → part_then (from a s) (λ x t. Ok (f x, t)) ≡ to (f a) s)
    → (n : ℕ) (a : A) (s : TextState) → part_then (until ends from n a s) (λ x t. Ok (f x, t)) ≡ until ends to n (f a) s
unfolding until
made-until ends f from to same zero a s = refl
made-until ends f from to same (suc n) a s =
    made-or (ends s) a s f (part_then (from a s) (λ more t. until ends from n more t)) (part_then (to (f a) s) (λ more t. until ends to n more t))
    (then-same (from a s) (λ more t. until ends from n more t) (λ x t. Ok (f x, t)) (λ more t. until ends to n (f more) t) (λ more t. made-until ends f from to same n more t)
    ∙ (sym (then-same (from a s) (λ x t. Ok (f x, t)) (λ more t. until ends to n more t) (λ more t. until ends to n (f more) t) (λ more t. refl))
    ∙ ap (λ part. part_then part (λ more t. until ends to n more t)) (same a s)))

-- ---- a layer that is read alone

with-last : (layers : List (List CoverRow)) (rows : List CoverRow) (row : CoverRow) → layers ++ (rows ++ row ∷ []) ∷ [] ≡ with_row (layers ++ rows ∷ []) row
with-last [] rows row = refl
with-last (layer ∷ []) rows row = refl
with-last (layer ∷ next ∷ layers) rows row = ap (λ following. layer ∷ following) (with-last (next ∷ layers) rows row)

-- a row after those before it
row_after : ℕ → List CoverRow → TextState → Result (List CoverRow × TextState) CoverError
row_after most rows s =
    part_then (bound_at s) (λ bound t.
    passed_then (semicolon_at t) (λ u.
    part_then (until ends_words state_word_at most [] u) (λ words v.
    part_then (arcs_at most v) (λ arcs w.
    Ok (rows ++ record { bound = bound; words = words; arcs = arcs } ∷ [], w)))))

row-same : (most : ℕ) (layers : List (List CoverRow)) (rows : List CoverRow) (s : TextState) → part_then (row_after most rows s) (λ x t. Ok (layers ++ x ∷ [], t)) ≡ row_into most (layers ++ rows ∷ []) s
unfolding row_into row_after
row-same most layers rows s =
    then-same (bound_at s) _ _ _ (λ bound t.
    passed-same (semicolon_at t) _ _ _ (λ u.
    then-same (until ends_words state_word_at most [] u) _ _ _ (λ words v.
    then-same (arcs_at most v) _ _ _ (λ arcs w.
    ap (λ made. Ok (made, w)) (with-last layers rows (record { bound = bound; words = words; arcs = arcs }))))))

-- the rows of a section
rows_alone : ℕ → ℕ → TextState → Result (List CoverRow × TextState) CoverError
rows_alone most number s =
    passed_then (fixed_at (codes "layer") s) (λ t.
    passed_then (fixed_at (decimal number) t) (λ u.
    part_then (small_at u) (λ rows v.
    until never (row_after most) rows [] v)))

numbered-same : (most number : ℕ) (layers : List (List CoverRow)) (s : TextState) → part_then (rows_alone most number s) (λ x t. Ok (layers ++ x ∷ [], t)) ≡ numbered_at most number layers s
unfolding numbered_at rows_alone
numbered-same most number layers s =
    passed-same (fixed_at (codes "layer") s) _ _ _ (λ t.
    passed-same (fixed_at (decimal number) t) _ _ _ (λ u.
    then-same (small_at u) _ _ _ (λ rows v.
    made-until never (λ x. layers ++ x ∷ []) (row_after most) (row_into most) (row-same most layers) rows [] v)))

-- ---- the sections

module _ (dp : Dp) (begin : LayerTests) (none : begin.count ≡ 0) (most : ℕ) where
  so-many : (layers : List (List CoverRow)) → (all_taken dp begin layers).count ≡ length layers
  so-many layers = let count = count-taken dp begin layers in omega arith

  tested-same : (layers : List (List CoverRow)) (s : TextState) → part_then (layer_at most layers s) (λ x t. Ok (all_taken dp begin x, t)) ≡ tested_at dp most (all_taken dp begin layers) s
  unfolding layer_at tested_at
  tested-same layers s =
      let so_far = all_taken dp begin layers in
      let alone = rows_alone most (length layers) s in
      let left : part_then (numbered_at most (length layers) layers s) (λ x t. Ok (all_taken dp begin x, t)) ≡ part_then alone (λ x t. Ok (taken dp so_far (x ∷ []), t)) =
      ap (λ part. part_then part (λ x t. Ok (all_taken dp begin x, t))) (sym (numbered-same most (length layers) layers s))
      ∙ then-same alone _ _ _ (λ x t. ap (λ made. Ok (made, t)) (taken-last dp begin layers x)) in
      let right : part_then (numbered_at most so_far.count [] s) (λ x t. Ok (taken dp so_far x, t)) ≡ part_then alone (λ x t. Ok (taken dp so_far (x ∷ []), t)) =
      ap (λ n. part_then (numbered_at most n [] s) (λ x t. Ok (taken dp so_far x, t))) (so-many layers)
      ∙ (ap (λ part. part_then part (λ x t. Ok (taken dp so_far x, t))) (sym (numbered-same most (length layers) [] s))
      ∙ then-same alone _ _ _ (λ x t. refl)) in
      left ∙ sym right

-- after the sections
ended : {A B : Type 0} (finish : Result ⊤ TextError) (x : A) (y : B) (f : A → Result B CoverError) → f x ≡ Ok y → read_then finish (λ _. Ok y) ≡ and_then (read_then finish (λ _. Ok x)) f
ended (Ok u) x y f same = sym same
ended (Err e) x y f same = refl

passed-end : {A B : Type 0} (part : Result TextState CoverError) (x : A) (y : B) (f : A → Result B CoverError) → f x ≡ Ok y → passed_then part (λ u. end_then u (Ok y)) ≡ and_then (passed_then part (λ u. end_then u (Ok x))) f
passed-end (Ok u) x y f same = ended (finish_at u) x y f same
passed-end (Err e) x y f same = refl

concluded-same : (dp : Dp) (best : Option ℤ) (within : ℤ) (x : List ℕ) (read : Result (List (List CoverRow) × TextState) CoverError)
    → part_then (part_then read (λ layers t. Ok (all_taken dp (begun dp best within x) layers, t))) (λ tests t. passed_then (fixed_at (codes "end") t) (λ u. end_then u (Ok (concluded dp tests))))
    ≡ and_then (part_then read (λ layers t. passed_then (fixed_at (codes "end") t) (λ u. end_then u (Ok layers)))) (λ cover. Ok (verdict dp best within x cover))
concluded-same dp best within x (Ok (layers, t)) =
    passed-end (fixed_at (codes "end") t) layers (concluded dp (all_taken dp (begun dp best within x) layers)) (λ cover. Ok (verdict dp best within x cover)) (ap (λ v. Ok v) (sym (concluded-is dp best within x layers)))
concluded-same dp best within x (Err e) = refl

sections-tested : (dp : Dp) (best : Option ℤ) (within : ℤ) (x bytes : List ℕ) → tested_sections dp best within x bytes ≡ and_then (sections_at bytes) (λ cover. Ok (verdict dp best within x cover))
unfolding tested_sections sections_at
sections-tested dp best within x bytes =
    let start = begun dp best within x in
    ap (λ read. part_then read (λ tests t. passed_then (fixed_at (codes "end") t) (λ u. end_then u (Ok (concluded dp tests)))))
    (sym (made-until (stands (codes "end")) (all_taken dp start) (layer_at (length bytes)) (tested_at dp (length bytes)) (tested-same dp start (none-yet (solution_fault dp best x) (claim_of best within)) (length bytes)) (length bytes) [] (text_start Never bytes)))
    ∙ concluded-same dp best within x (until (stands (codes "end")) (layer_at (length bytes)) (length bytes) [] (text_start Never bytes))

moved-then : {A B : Type 0} (origin : Place) (read : Result A CoverError) (f : A → B) → and_then (moved_by origin read) (λ x. Ok (f x)) ≡ moved_by origin (and_then read (λ x. Ok (f x)))
moved-then origin (Ok x) f = refl
moved-then origin (Err e) f = refl

pub moved-fails : {A : Type 0} (origin : Place) (e : CoverError) (read : Result A CoverError) → Fails e read → Fails (moved origin e) (moved_by origin read)
moved-fails origin OutOfMemory read fails = tt
moved-fails origin (Text e) read fails = rw fails refl
moved-fails origin (Word p) read fails = rw fails refl

-- the verdict on the sections of a text
pub after_tested : (dp : Dp) (o : OpenView) → verdict_after dp o ≡ moved_by (end_place o.before) (tested_sections dp o.best o.within o.assignment o.following)
unfolding cover_after
after_tested dp o =
    moved-then (end_place o.before) (sections_at o.following) (verdict dp o.best o.within o.assignment) ∙ ap (moved_by (end_place o.before)) (sym (sections-tested dp o.best o.within o.assignment o.following))
