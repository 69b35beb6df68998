-- The canonical text is read as the instance.
use Rattle.std.proofs.Common.{◌≡◌, ℕ, ◌^◌, ◌≤◌, pos, ◌+ℤ◌, ◌≤ℤ◌, true, false, List, [], ◌∷◌, ◌++◌, length, refl, arith, ap, sym, subst, ◌∙◌, append_assoc, append-nil}
use Rattle.std.specs.Prelude.{Result, Ok, fold}
use Rattle.std.specs.List.{flat_map}
use Rattle.std.proofs.lemmas.Int.{ints}
use Rattle.tokens.specs.declared.comment.Comment.{Comment}
use Rattle.tokens.specs.Text.{TextState, text_start, opens_comment, after_token}
use Rattle.tokens.specs.Decimal.{decimal_of}
use Rattle.tokens.specs.Grammar.{times}
use Rattle.tokens.specs.Printed.{IsBefore, ReadsPart}
use Rattle.tokens.specs.declared.comment.Comment.TheVariants.{LetterC}
use Rattle.tokens.specs.declared.instance_error.InstanceError.{InstanceError}
use Rattle.tokens.proofs.Printing.{before_start, before_after, passes_natural, reads_natural, reads_word, no_token_before, ends_line_LF}
use Rattle.tokens.proofs.Repeats.{times_reads}
use Rattle.max_two_sat.specs.Clauses.{Gathered, gathered_with, nothing_gathered}
use Rattle.max_two_sat.specs.Instance.{Instance}
use Rattle.max_two_sat.specs.Limits.{IsWithinLimits}
use Rattle.max_two_sat.specs.Lines.{Clause, clauses_of, line_count}
use Rattle.max_two_sat.specs.Printed.{first_line_of, line_of, text_of}
use Rattle.max_two_sat.specs.Texts.{clause_at, ends_clauses, ends_token, form_at, header_at, instance_at, letter_at, top_at}
use Rattle.max_two_sat.proofs.Folding.{add_to, clauses-added}
use Rattle.max_two_sat.proofs.RoundTrip.{header_of, reads_clause}
use Rattle.max_two_sat.proofs.Standing.{AllStand, weights_of, clauses-stand, weights-positive}

-- reading them one after another

abbrev gather : Gathered → Clause → Gathered
gather g x = gathered_with g x.weight x.literals

record Ready (n : ℕ) (made : Gathered) (xs : List Clause) : Type 0 where
  stand : AllStand n xs
  low : pos 0 ≤ℤ made.total
  most : (made.total +ℤ weights_of xs) ≤ℤ pos (2 ^ 48)

reads_clauses : (n m : ℕ) (xs : List Clause) (s : TextState) → n ≤ 1024 → Ready n (nothing_gathered n) xs → IsBefore (flat_map line_of xs ++ []) s →
    ReadsPart (times (clause_at (header_of n m)) (length xs)) (nothing_gathered n) (fold gather (nothing_gathered n) xs) [] s
reads_clauses n m xs s few ready before =
    times_reads (clause_at (header_of n m)) line_of gather s.comment (Ready n)
    (λ x rest made tail t held same ahead.
    let later = weights-positive n rest held.stand.1 in (
      reads_clause n m x made tail t few held.stand.0 held.low (omega (arith, ints, held.most)) ahead,
      record { stand = held.stand.1; low = omega (arith, ints, held.low, held.stand.0.low); most = omega (arith, ints, held.most) },
    ))
    xs (nothing_gathered n) [] s ready refl before

gathered-instance : (xs : List Clause) (g : Gathered) → (fold gather g xs).instance ≡ fold add_to g.instance xs
gathered-instance [] g = refl
gathered-instance (x ∷ xs) g = gathered-instance xs (gather g x)

-- the canonical text is read as the instance
pub reads_back : (i : Instance) → IsWithinLimits i → instance_at (text_start LetterC (text_of i)) ≡ Ok i
unfolding instance_at header_at letter_at form_at top_at first_line_of
reads_back i kept =
    let n : ℕ = length i.units in
    let m : ℕ = line_count i in
    let xs : List Clause = clauses_of i in
    let lines : List ℕ = flat_map line_of xs in
    let s : TextState = text_start LetterC (text_of i) in
    let after_m : List ℕ = decimal_of (pos m) ++ (10 ∷ lines) in
    let after_n : List ℕ = decimal_of (pos n) ++ (32 ∷ after_m) in
    let whole : text_of i ≡ 112 ∷ 32 ∷ 119 ∷ 99 ∷ 110 ∷ 102 ∷ 32 ∷ after_n = simp append_assoc in
    let p = reads_word 112 [] 32 (119 ∷ 99 ∷ 110 ∷ 102 ∷ 32 ∷ after_n) s refl (omega arith) refl refl (subst (λ (bytes : List ℕ). IsBefore bytes s) whole (before_start LetterC (text_of i))) in
    let t : TextState = after_token s in
    let form = reads_word 119 (99 ∷ 110 ∷ 102 ∷ []) 32 after_n t refl (omega arith) (subst (λ (c : Comment). opens_comment c 119 ≡ false) (sym p.comment_is) refl) refl
    (before_after 32 (119 ∷ 99 ∷ 110 ∷ 102 ∷ 32 ∷ after_n) t refl p.rest_is) in
    let u : TextState = after_token t in
    let variables = passes_natural n 0 1024 32 after_m u (omega arith) kept.variables (omega arith) refl (before_after 32 after_n u refl form.rest_is) in
    let v : TextState = after_token u in
    let count = reads_natural m 0 (2 ^ 20) 10 lines v (omega arith) kept.lines (omega arith) refl variables.before in
    let w : TextState = after_token v in
    let ends = ends_line_LF lines w count.rest_is in
    let there = clauses-stand i kept in
    let ready : Ready n (nothing_gathered n) xs = record { stand = there.stand; low = omega (arith, ints); most = omega (arith, ints, there.weight, kept.total) } in
    let ahead : IsBefore (lines ++ []) w = subst (λ (bytes : List ℕ). IsBefore bytes w) (sym (append-nil lines)) (before_after 10 lines w refl count.rest_is) in
    let clauses = reads_clauses n m xs w kept.variables ready ahead in
    let read : times (clause_at (header_of n m)) m (nothing_gathered n) w ≡ Ok (fold gather (nothing_gathered n) xs, clauses.following) =
    ap (λ k. times (clause_at (header_of n m)) k (nothing_gathered n) w) (sym there.many) ∙ clauses.read in
    let over : ends_clauses clauses.following ≡ true = ap ends_token (no_token_before clauses.following clauses.before) in
    rw (p.value, form.value, variables.value, count.value, ends, read, over)
    (ap (λ (j : Instance). let r : Result Instance InstanceError = Ok j in r) (gathered-instance xs (nothing_gathered n) ∙ clauses-added i kept))
