-- The path of a step, walked back.
use Rattle.std.proofs.Common.{◌≡◌, ℕ, ◌+◌, ◌-◌, ◌<◌, ◌≤◌, List, [], ◌∷◌, ◌++◌, length, take, drop, set, sym, ap, ap₂, ◌∙◌, append_assoc, arith}
use Rattle.std.proofs.lemmas.List.{length-take-le, take-append-drop, drop_more, drop-set-lt, length-set, get_or-set_same, length_push}
use Rattle.layer_candidates.specs.declared.step.Step.{Step}
use Rattle.layer_candidates.specs.Steps.{path_at, step_at, AreBackward}
use Rattle.layer_candidates.proofs.Descended.{path-stays, path-new, path-first}

pub path-back : (p : List ℕ) (steps : List Step) (j : ℕ) → j < length steps → (step_at steps j).before ≤ j
    → path_at p steps (j + 1) ≡ path_at p steps (step_at steps j).before ++ (step_at steps j).decision ∷ []
path-back p steps j less back =
    let s = step_at steps j in
    let front = take j steps in
    let size : length front ≡ j = length-take-le j steps (omega arith) in
    let split : steps ≡ front ++ s ∷ drop (j + 1) steps = sym (take-append-drop j steps) ∙ ap (λ l. front ++ l) (drop_more steps j (record { before = 0; decision = 0 }) less) in
    let again : steps ≡ (front ++ s ∷ []) ++ drop (j + 1) steps = split ∙ sym (append_assoc front (s ∷ []) (drop (j + 1) steps)) in
    let longer = length_push front s in
    let here : path_at p steps (j + 1) ≡ path_at p front s.before ++ s.decision ∷ [] =
    ap₂ (λ l n. path_at p l (n + 1)) again (sym size) ∙ (path-stays p (front ++ s ∷ []) (drop (j + 1) steps) (length front + 1) (omega arith) ∙ path-new p front s) in
    let there : path_at p steps s.before ≡ path_at p front s.before = ap (λ l. path_at p l s.before) split ∙ path-stays p front (s ∷ drop (j + 1) steps) s.before (omega arith) in
    here ∙ ap (λ (l : List ℕ). l ++ s.decision ∷ []) (sym there)

-- what was walked so far
pub record IsWalkedBack (p : List ℕ) (steps : List Step) (last : ℕ) (old out : List ℕ) (step at : ℕ) : Type 0 where
  pub within : step ≤ length steps
  pub size : length out ≡ length old
  pub at_is : at ≡ length (path_at p steps step)
  pub room : at ≤ length out
  pub list : path_at p steps step ++ drop at out ≡ path_at p steps last

module _ (p : List ℕ) (steps : List Step) (last : ℕ) (old out : List ℕ) (step at : ℕ) (back : AreBackward steps) (h : IsWalkedBack p steps last old out step at) where
  pub walked-end : step ≤ 0 → (at ≡ length p) × (p ++ drop at out ≡ path_at p steps last)
  walked-end none =
      let zero_is : step ≡ 0 = omega arith in
      let base : path_at p steps step ≡ p = ap (path_at p steps) zero_is ∙ path-first p steps in
      (h.at_is ∙ ap length base, ap (λ l. l ++ drop at out) (sym base) ∙ h.list)

  module _ (more : 0 < step) where
    abbrev walked : Step
    walked = step_at steps (step - 1)

    earlier : walked.before ≤ step - 1
    earlier = let w = h.within in back (step - 1) (omega arith)

    split : path_at p steps step ≡ path_at p steps walked.before ++ walked.decision ∷ []
    split = let w = h.within in ap (path_at p steps) (let e : step ≡ (step - 1) + 1 = omega arith in e) ∙ path-back p steps (step - 1) (omega arith) earlier

    at-more : at ≡ length (path_at p steps walked.before) + 1
    at-more = h.at_is ∙ (ap length split ∙ length_push (path_at p steps walked.before) walked.decision)

    pub at-positive : 1 ≤ at
    at-positive = let e = at-more in omega arith

    pub at-within : at - 1 < length out
    at-within = let e = at-more in let r = h.room in omega arith

    pub walked-more : IsWalkedBack p steps last old (set out (at - 1) walked.decision) walked.before (at - 1)
    walked-more =
        let w = h.within in
        let e = at-more in
        let r = h.room in
        let d = walked.decision in
        let size = length-set out (at - 1) d in
        let low = earlier in
        let tail : drop (at - 1) (set out (at - 1) d) ≡ d ∷ drop at out =
        drop_more (set out (at - 1) d) (at - 1) 0 (omega arith)
        ∙ ap₂ (λ (x : ℕ) l. x ∷ l) (get_or-set_same out (at - 1) d 0 (omega arith)) (ap (λ n. drop n (set out (at - 1) d)) (let f : (at - 1) + 1 ≡ at = omega arith in f) ∙ drop-set-lt at out (at - 1) d (omega arith)) in
        record {
          within = omega arith;
          size = size ∙ h.size;
          at_is = omega arith;
          room = omega arith;
          list = ap (λ l. path_at p steps walked.before ++ l) tail ∙ (sym (append_assoc (path_at p steps walked.before) (d ∷ []) (drop at out)) ∙ (ap (λ l. l ++ drop at out) (sym split) ∙ h.list));
        }
