-- A printed report with its cover is accepted.
use Rattle.std.proofs.Common.{◌≡◌, ℕ, ◌+◌, ◌^◌, ◌<◌, ◌≤◌, ℤ, pos, int_lt, List, [], ◌∷◌, ◌++◌, length, true, false, cond, Option, Some, None, Vec, refl, sym, ◌∙◌, ap, subst, append_assoc, length-append, arith}
use Rattle.std.specs.Prelude.{codes, Ok, MatchResult}
use Rattle.std.specs.declared.alloc.Global.{Global}
use Rattle.std.proofs.lemmas.Int.{ints}
use Rattle.std.proofs.lemmas.List.{append-nil}
use Rattle.std.specs.Fmt.{decimal}
use Rattle.tokens.specs.Decimal.{decimal_of}
use Rattle.dp_model.specs.Best.{best}
use Rattle.dp_model.specs.Dp.{Dp}
use Rattle.dp_model.specs.Laws.{IsLawful}
use Rattle.dp_model.specs.Lists.{Each}
use Rattle.dp_model.specs.NumberLaws.{int_le-from}
use Rattle.dp_model.specs.Numbers.{IsFar}
use Rattle.dp_model.specs.Prefixes.{IsPath}
use Rattle.dp_model.proofs.Sizes.{value_of-far, value_of-size}
use Rattle.dp_model.proofs.Solutions.{best-is_best}
use Rattle.bound_cover.specs.Clamping.{IsReachable, IsWritable}
use Rattle.bound_cover.specs.Covers.{CoverRow}
use Rattle.bound_cover.specs.Exploring.{HoldsAll}
use Rattle.bound_cover.specs.Verdicts.{checked_rows, claim_of, value_fault, verdict, verdict_of, worth}
use Rattle.bound_cover.specs.declared.cover.Verdict.TheVariants.{Accepted}
use Rattle.bound_cover.proofs.Sound.{checked-by}
use Rattle.bound_cover.proofs.Worths.{worth-whole}
use Rattle.cover_text.specs.Heads.{ClaimView}
use Rattle.cover_text.specs.Outputs.{CountsView, IsToldClaim, MayBeCounts, claim_lines, counts_lines, cover_lines, part_lines, printed_lines, printed_output, printed_whole, proved_text}
use Rattle.dp_model.specs.Distances.{IsDistance}
use Rattle.cover_text.specs.Printed.{printed_cover}
use Rattle.cover_text.specs.Texts.{CoverTextView, text_of}
use Rattle.cover_text.proofs.OutputsRead.{outputs_read}
use Rattle.problem_names.specs.ModelNames as names
use Rattle.problem_names.specs.Parts.{MayBePart}
use Rattle.problem_names.specs.declared.ModelName.{ModelName}
use Rattle.problem_names.specs.declared.part.PartNumber.{PartNumber}
use Rattle.problems.specs.Theories.{theory_of}
use Rattle.problem_theory.specs.Theory.{Theory}
use Rattle.solver_report.specs.Report.{AreSized, assignment_line, count_line, count_lines, distance_told, is_final, line, number_line, outcome_lines, proved_line, report, value_told}
use Rattle.solver_report.specs.declared.answer.Answer.TheVariants as answers
use Rattle.solver_report.specs.declared.answer.Counts.{Counts}
use Rattle.solver_report.specs.declared.answer.Outcome.{Outcome}
use Rattle.solver_report.specs.declared.answer.Outcome.TheVariants.{Proved, Infeasible, Stopped}
use Rattle.answers.specs.Checks.{Checks, ChecksText, IsTrueReport, RefusesCover, RefusesInstance}
use Rattle.answers.specs.Covers.{IsAccepted, IsCoverText, IsCoveredIn}
use Rattle.answers.specs.Outcomes.{IsTrueOf}
use Rattle.answers.specs.Parts.{own_in, program_in}
use Rattle.answers.proofs.Conclusions.{none_exceeds}

-- ---- what is told

-- the assignment that is told with a value
abbrev pub assignment_told : Outcome → List ℕ
assignment_told (Proved best within) = best.decisions
assignment_told Infeasible = []
assignment_told (Stopped stop incumbent bound) = []

abbrev pub claim_told : Outcome → ClaimView
claim_told outcome = record { best = value_told outcome; within = distance_told outcome; assignment = assignment_told outcome }

abbrev pub counts_told : Option Counts → Option CountsView
counts_told None = None
counts_told (Some counts) = Some (record { taken = counts.taken; finished = counts.finished })

-- at its end a search tells a true report
pub true-told : (dp : Dp) (own : List ℕ → Option ℤ) (budget : ℕ) (outcome : Outcome) → is_final outcome ≡ true → IsTrueOf dp own budget outcome
    → IsTrueReport dp own (value_told outcome) (distance_told outcome) (assignment_told outcome)
true-told dp own budget (Proved found within) final h = h.1
true-told dp own budget Infeasible final h = h
true-told dp own budget (Stopped stop incumbent bound) final h = absurd (cc)

-- decisions have 32 bits
path-small : (dp : Dp) → IsLawful dp → (k : ℕ) (s : List ℤ) (x : List ℕ) → IsPath dp k s x → Each (λ d. d < 2 ^ 32) x
path-small dp laws k s [] path = tt
path-small dp laws k s (d ∷ x) path =
    let few = path.0.choice in
    let most = laws.sizes.choices k path.0.layer in (omega arith, path-small dp laws (k + 1) (dp.step k s d) x path.1)

-- value and decisions can be printed
pub told-fits : (dp : Dp) → IsLawful dp → (own : List ℕ → Option ℤ) (budget : ℕ) (outcome : Outcome) → IsTrueOf dp own budget outcome → IsToldClaim (value_told outcome) (distance_told outcome) (assignment_told outcome)
told-fits dp laws own budget (Proved found within) h =
    let solution = h.1.found_one.solution in
    let far = value_of-far dp laws found.decisions solution.prefix in
    let low = far.low in let high = far.high in let same = h.1.found_one.value in
    (record { low = omega (arith, ints); high = omega (arith, ints) }, h.0, path-small dp laws 0 dp.root found.decisions solution.prefix)
told-fits dp laws own budget Infeasible h = (refl, refl)
told-fits dp laws own budget (Stopped stop incumbent bound) h = (refl, refl)

-- counts of 64 bits can be printed
pub counts-fit : (counts : Option Counts) → AreSized counts → MayBeCounts (counts_told counts)
counts-fit None h = tt
counts-fit (Some counts) h = record { taken = h.0; finished = h.1 }

-- ---- how it is printed

proved-printed : (within : ℤ) → proved_line within ≡ line (proved_text within)
proved-printed within = elim (int_lt (pos 0) within) as (λ b. cond b (number_line (codes "proved within") within) (line (codes "proved")) ≡ line (cond b (codes "proved within" ++ 32 ∷ decimal_of within) (codes "proved"))) [
  | true ↦ refl
  | false ↦ refl
]

outcome-printed : (outcome : Outcome) → is_final outcome ≡ true → outcome_lines outcome ≡ printed_lines (claim_lines (value_told outcome) (distance_told outcome) (assignment_told outcome))
outcome-printed (Proved found within) final =
    ap (λ z. z ++ (number_line (codes "value") found.value ++ assignment_line found.decisions)) (proved-printed within)
    ∙ ap (λ z. line (proved_text within) ++ (number_line (codes "value") found.value ++ z)) (sym (append-nil (assignment_line found.decisions)))
outcome-printed Infeasible final = sym (append-nil (line (codes "infeasible")))
outcome-printed (Stopped stop incumbent bound) final = absurd (cc)

counts-printed : (counts : Option Counts) → count_lines counts ≡ printed_lines (counts_lines (counts_told counts))
counts-printed None = refl
counts-printed (Some counts) = ap (λ z. count_line (codes "taken") counts.taken ++ z) (sym (append-nil (count_line (codes "finished") counts.finished)))

pub whole-printed : (outcome : Outcome) (counts : Option Counts) (name : ModelName) (part : Option PartNumber) (instance : List ℕ) (cover : List (List CoverRow)) (text : List ℕ) → is_final outcome ≡ true → text ≡ printed_whole name part instance cover
    → outcome_lines outcome ++ (count_lines counts ++ text) ≡ printed_output (claim_told outcome) (counts_told counts) name part instance cover
whole-printed outcome counts name part instance cover text final e =
    ap (λ z. z ++ (count_lines counts ++ text)) (outcome-printed outcome final)
    ∙ (ap (λ z. printed_lines (claim_lines (value_told outcome) (distance_told outcome) (assignment_told outcome)) ++ (z ++ text)) (counts-printed counts)
    ∙ ap (λ z. printed_lines (claim_lines (value_told outcome) (distance_told outcome) (assignment_told outcome)) ++ (printed_lines (counts_lines (counts_told counts)) ++ z)) e)

-- the lines, the instance and the sections, appended one after another to nothing
pub whole-made : (name : ModelName) (part : Option PartNumber) (size : ℕ) (instance nothing head body both text : List ℕ) (cover : List (List CoverRow)) → nothing ≡ [] → head ≡ nothing ++ printed_lines (cover_lines name part size) → both ≡ head ++ body → text ≡ both ++ printed_cover cover
    → body ≡ instance → size ≡ length instance → text ≡ printed_whole name part instance cover
whole-made name part size instance nothing head body both text cover none lines more sections same long =
    let following = body ++ printed_cover cover in
    let begun : head ≡ printed_lines (cover_lines name part size) = lines ∙ ap (λ z. z ++ printed_lines (cover_lines name part size)) none in
    sections ∙ (ap (λ z. z ++ printed_cover cover) more ∙ (append_assoc head body (printed_cover cover) ∙ (ap (λ z. z ++ following) begun
    ∙ (ap (λ z. printed_lines (cover_lines name part size) ++ (z ++ printed_cover cover)) same ∙ ap (λ n. printed_lines (cover_lines name part n) ++ (instance ++ printed_cover cover)) long))))

-- the lines before the instance, appended one after another
pub head_made : (name : ModelName) (part : Option PartNumber) (size : ℕ) → line (codes "cover " ++ names.text_of name) ++ (printed_lines (part_lines part) ++ line (codes "instance " ++ decimal size)) ≡ printed_lines (cover_lines name part size)
head_made name None size = ap (λ z. line (codes "cover " ++ names.text_of name) ++ z) (sym (append-nil (line (codes "instance " ++ decimal size))))
head_made name (Some part) size =
    let last = line (codes "instance " ++ decimal size) in
    let middle = line (codes "part " ++ (decimal part.index ++ 32 ∷ decimal part.of)) in
    ap (λ z. line (codes "cover " ++ names.text_of name) ++ (z ++ last)) (append-nil middle) ∙ ap (λ z. line (codes "cover " ++ names.text_of name) ++ (middle ++ z)) (sym (append-nil last))

-- a part of a text is no longer than the text
pub part-short : (a b head part tail text : List ℕ) (most : ℕ) → text ≡ head ++ (part ++ tail) → length (a ++ (b ++ text)) ≤ most → length part ≤ most
part-short a b head part tail text most e short =
    let one = length-append a (b ++ text) in
    let two = length-append b text in
    let three : length text ≡ length (head ++ (part ++ tail)) = ap length e in
    let four = length-append head (part ++ tail) in
    let five = length-append part tail in
    omega arith

-- ---- that it is accepted

fine-value : (value : ℤ) (found : Option ℤ) → found ≡ Some value → value_fault found value ≡ None
fine-value value found e = rw (e, int_le-from value value (omega (arith, ints))) refl

-- a true report with rows that pass for its value and its distance has no failing test
passes-whole : (dp : Dp) (own : List ℕ → Option ℤ) (value : Option ℤ) (within : ℤ) (x : List ℕ) (cover : List (List CoverRow)) → IsTrueReport dp own value within x → checked_rows dp (claim_of value within) cover ≡ None → Accepted ≡ verdict dp value within x cover
passes-whole dp own None within x cover h e = ap verdict_of (sym (checked-by dp None within x cover refl e))
passes-whole dp own (Some value) within x cover h e =
    let solution = h.found_one.solution in
    let worth_is : worth dp x ≡ Some value = worth-whole dp x solution.prefix solution.whole ∙ ap Some (sym h.found_one.value) in
    ap verdict_of (sym (checked-by dp (Some value) within x cover (fine-value value (worth dp x) worth_is) e))

-- what was read is checked
pub checks-read : (name : ModelName) (t : Theory) (numbers : List ℤ) (held : CoverTextView) (text : List ℕ) → theory_of name ≡ t → held.model ≡ name → t.spelled held.instance ≡ Ok numbers → text_of text ≡ Ok held
    → Checks (program_in held.part (t.program numbers)) (own_in held.part (t.own_value numbers)) held (answers.Checked Accepted) → IsAccepted name held.part held.instance text
checks-read name t numbers held text named problem spelled is_read checks =
    let answer = answers.Checked Accepted in
    let here : ChecksText t held answer = subst (λ r. MatchResult r (λ ns. Checks (program_in held.part (t.program ns)) (own_in held.part (t.own_value ns)) held answer) (λ e. RefusesInstance e answer)) (sym spelled) checks in
    record {
      held = held;
      is_read = is_read;
      of_problem = problem;
      of_part = refl;
      of_instance = refl;
      accepted = subst (λ r. MatchResult r (λ h. ChecksText (theory_of h.model) h answer) (λ e. RefusesCover e answer)) (sym is_read) (subst (λ u. ChecksText u held answer) (sym (ap theory_of problem ∙ named)) here);
    }

-- a true report with its printed cover is accepted
pub covered-told : (name : ModelName) (part : Option PartNumber) (t : Theory) (numbers : List ℤ) (dp : Dp) (budget : ℕ) (outcome : Outcome) (counts : Option Counts) (cover : Vec ℕ Global)
    → theory_of name ≡ t → MayBePart part → dp ≡ program_in part (t.program numbers) → IsLawful dp → is_final outcome ≡ true → IsTrueOf dp (own_in part (t.own_value numbers)) budget outcome → MayBeCounts (counts_told counts)
    → t.spelled (t.canonical numbers) ≡ Ok numbers → IsCoverText dp name part (t.canonical numbers) (claim_of (value_told outcome) (distance_told outcome)) cover.items → IsCoveredIn name part (t.canonical numbers) (answers.Covered outcome counts (Some cover))
covered-told name part t numbers dp budget outcome counts cover named meant same laws final true_one fits spelled made = λ short.
    let instance = t.canonical numbers in
    let own = own_in part (t.own_value numbers) in
    let answer = answers.Covered outcome counts (Some cover) in
    let told : IsTrueReport dp own (value_told outcome) (distance_told outcome) (assignment_told outcome) = true-told dp own budget outcome final true_one in
    let held : CoverTextView = record { model = name; part = part; best = value_told outcome; within = distance_told outcome; assignment = assignment_told outcome; instance = instance; cover = made.cover } in
    let few = part-short (outcome_lines outcome) (count_lines counts) (printed_lines (cover_lines name part (length instance))) instance (printed_cover made.cover) cover.items (2 ^ 28) made.printed short in
    let is_read : text_of (report answer) ≡ Ok held =
    ap text_of (whole-printed outcome counts name part instance made.cover cover.items final made.printed)
    ∙ outputs_read (claim_told outcome) (counts_told counts) name part instance made.cover (told-fits dp laws own budget outcome true_one) fits meant (omega arith) made.written in
    let checks : Checks dp own held (answers.Checked Accepted) =
    record { exact = passes-whole dp own (value_told outcome) (distance_told outcome) (assignment_told outcome) made.cover told made.passes; sound = λ _. told } in
    checks-read name t numbers held (report answer) named refl spelled is_read (subst (λ d. Checks d own held (answers.Checked Accepted)) same checks)

-- ---- the claim of a cover

-- a feasible solution has a value of a bounded size
pub value-writable : (dp : Dp) → IsLawful dp → (own : List ℕ → Option ℤ) (budget : ℕ) (outcome : Outcome) → IsTrueOf dp own budget outcome → IsWritable (value_told outcome)
value-writable dp laws own budget (Proved found within) h = let one = h.1.found_one in subst IsFar (sym one.value) (value_of-far dp laws found.decisions one.solution.prefix)
value-writable dp laws own budget Infeasible h = tt
value-writable dp laws own budget (Stopped stop incumbent bound) h = tt

-- a distance that is told is one
pub distance-fits : (dp : Dp) (own : List ℕ → Option ℤ) (budget : ℕ) (outcome : Outcome) → IsTrueOf dp own budget outcome → IsDistance (distance_told outcome)
distance-fits dp own budget (Proved found within) h = h.0
distance-fits dp own budget Infeasible h = record { least = omega (arith, ints); most = omega (arith, ints) }
distance-fits dp own budget (Stopped stop incumbent bound) h = record { least = omega (arith, ints); most = omega (arith, ints) }

-- the claim that is made of them
pub same-claim : (value told : Option ℤ) (within distance : ℤ) (claim : Option ℤ) → value ≡ told → within ≡ distance → claim ≡ claim_of value within → claim ≡ claim_of told distance
same-claim value told within distance claim same near is = is ∙ (ap (λ v. claim_of v within) same ∙ ap (claim_of told) near)

-- no feasible solution exceeds what is told at the end of a search, and that is at least the least value that one can have
pub claim-told : (dp : Dp) → IsLawful dp → (own : List ℕ → Option ℤ) (budget : ℕ) (outcome : Outcome) → is_final outcome ≡ true → IsTrueOf dp own budget outcome
    → HoldsAll dp (claim_of (value_told outcome) (distance_told outcome)) × IsReachable (claim_of (value_told outcome) (distance_told outcome))
claim-told dp laws own budget (Proved found within) final h =
    let one = h.1.found_one in
    let size = value_of-size dp laws found.decisions one.solution.prefix in
    let whole = one.solution.whole in let few = laws.sizes.vars in
    let same = one.value in let low = size.low in let least = h.0.least in
    (none_exceeds dp (best dp) (best-is_best dp) found.value within h.1.near, omega (arith, ints))
claim-told dp laws own budget Infeasible final h = (h.no_solution, tt)
claim-told dp laws own budget (Stopped stop incumbent bound) final h = absurd (cc)
