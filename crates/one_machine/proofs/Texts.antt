-- The canonical text is short, and it is read as the instance.
use Rattle.std.proofs.Common.{◌≡◌, ℕ, ◌≤◌, ◌^◌, true, List, [], ◌∷◌, ◌++◌, length, pos, refl, sym, ap, ◌∙◌, subst, arith, append_assoc, append-nil, length-append}
use Rattle.std.specs.Prelude.{Result, Ok, fold, flat_map}
use Rattle.std.specs.List.{list_all}
use Rattle.std.proofs.lemmas.Bool.{and_parts}
use Rattle.std.proofs.lemmas.Fmt.{length-decimal-le}
use Rattle.tokens.specs.Text.{TextState, text_start, after_token}
use Rattle.tokens.specs.Decimal.{decimal_of}
use Rattle.tokens.specs.Grammar.{times}
use Rattle.tokens.specs.Printed.{IsBefore, ReadsPart}
use Rattle.tokens.specs.declared.comment.Comment.TheVariants.{Never}
use Rattle.tokens.specs.declared.instance_error.InstanceError.{InstanceError}
use Rattle.tokens.proofs.Lengths.{parts_short}
use Rattle.tokens.proofs.Printing.{before_start, passes_natural, finishes}
use Rattle.tokens.proofs.Repeats.{fold_pushes, times_reads}
use Rattle.one_machine.specs.Instance.{Job, is_small, is_small_job}
use Rattle.one_machine.specs.Laws.Limits.{IsSmallJob, is_small_job-is, is_small-is}
use Rattle.one_machine.specs.Texts.{job_after, instance_at, instance_text, line_of, text_of}

line_before : (x : Job) (tail : List ℕ) → line_of x ++ tail ≡ decimal_of (pos x.processing) ++ (32 ∷ (decimal_of (pos x.weight) ++ (32 ∷ (decimal_of (pos x.due) ++ (10 ∷ tail)))))
line_before x tail = simp append_assoc

-- a printed job is read
reads_job : (x : Job) (made : List Job) (tail : List ℕ) (s : TextState) → IsSmallJob x → IsBefore (line_of x ++ tail) s → ReadsPart job_after made (made ++ (x ∷ [])) tail s
unfolding job_after
reads_job x made tail s small before =
    let ahead = subst (λ (bytes : List ℕ). IsBefore bytes s) (line_before x tail) before in
    let processing = passes_natural x.processing 0 100000 32 (decimal_of (pos x.weight) ++ (32 ∷ (decimal_of (pos x.due) ++ (10 ∷ tail)))) s (omega arith) small.processing (omega arith) refl ahead in
    let t = after_token s in
    let weight = passes_natural x.weight 0 100000 32 (decimal_of (pos x.due) ++ (10 ∷ tail)) t (omega arith) small.weight (omega arith) refl processing.before in
    let u = after_token t in
    let due = passes_natural x.due 0 1000000000 10 tail u (omega arith) small.due (omega arith) refl weight.before in
    record {
      following = after_token u;
      read = rw (processing.value, weight.value, due.value) refl;
      before = due.before;
      comment_is = due.comment_is ∙ (weight.comment_is ∙ processing.comment_is);
    }

abbrev AllSmall : List Job → List Job → Type 0
AllSmall made xs = list_all is_small_job xs ≡ true

-- the lines of the jobs are read
reads_jobs : (xs : List Job) (s : TextState) → list_all is_small_job xs ≡ true → IsBefore (flat_map line_of xs ++ []) s → ReadsPart (times job_after (length xs)) [] (fold (λ jobs x. jobs ++ (x ∷ [])) [] xs) [] s
reads_jobs xs s small before =
    times_reads job_after line_of (λ jobs x. jobs ++ (x ∷ [])) s.comment AllSmall
    (λ x rest made tail t held same ahead. let parts = and_parts _ _ held in (reads_job x made tail t (is_small_job-is x parts.0) ahead, parts.1))
    xs [] [] s small refl before

pub reads_back : (jobs : List Job) → is_small jobs ≡ true → instance_text (text_of jobs) ≡ Ok jobs
unfolding instance_at
reads_back jobs h =
    let small = is_small-is jobs h in
    let lines = flat_map line_of jobs in
    let s = text_start Never (text_of jobs) in
    let count = passes_natural (length jobs) 0 100 10 lines s (omega arith) small.few (omega arith) refl (before_start Never (text_of jobs)) in
    let t = after_token s in
    let ahead = subst (λ (bytes : List ℕ). IsBefore bytes t) (sym (append-nil lines)) count.before in
    let all = reads_jobs jobs t small.all ahead in
    let ends = finishes all.following all.before in
    rw (count.value, all.read, ends) (ap (λ (l : List Job). let r : Result (List Job) InstanceError = Ok l in r) (fold_pushes jobs []))

line_short : (x : Job) → IsSmallJob x → length (line_of x) ≤ 32
line_short x small =
    let processing = small.processing in
    let weight = small.weight in
    let due = small.due in
    let p = length-decimal-le 6 x.processing (omega arith) (omega arith) (omega arith) in
    let w = length-decimal-le 6 x.weight (omega arith) (omega arith) (omega arith) in
    let d = length-decimal-le 10 x.due (omega arith) (omega arith) (omega arith) in
    simp length-append (omega arith)

pub text_short : (jobs : List Job) → is_small jobs ≡ true → length (text_of jobs) ≤ 2 ^ 30
text_short jobs h =
    let small = is_small-is jobs h in
    let few = small.few in
    let count = length-decimal-le 3 (length jobs) (omega arith) (omega arith) (omega arith) in
    let lines = parts_short line_of 32 (λ xs. list_all is_small_job xs ≡ true) (λ x xs held. let parts = and_parts _ _ held in (line_short x (is_small_job-is x parts.0), parts.1)) jobs small.all in
    simp length-append (omega arith)
