-- The children of a record, one after another.
use Rattle.std.proofs.Common.{◌≡◌, ◌⊎◌, ⊎_elim, List, [], ◌∷◌, ◌++◌, refl, sym, ◌∙◌, ap, append-nil}
use Rattle.std.proofs.lemmas.List.{append_assoc}
use Rattle.dp_model.specs.Subproblem.{Subproblem, SubView}
use Rattle.board_laws.specs.declared.fate.Fate.{Fate}
use Rattle.board_laws.specs.declared.fate.Fate.TheVariants.{Below, Kept, Dominated, Replaced, Entered}
use Rattle.journal_bytes.specs.Bodies.{ChildView}
use Rattle.journal_replay.specs.Following.{recorded_beside, recorded_children}
use Rattle.board.specs.Contents.{contents}

beside-more : (c : Subproblem) (f : Fate) (others : List ChildView) → recorded_beside c f [] ++ others ≡ recorded_beside c f others
beside-more c Below others = refl
beside-more c (Kept by) others = refl
beside-more c (Dominated by) others = refl
beside-more c (Replaced ticket old) others = refl
beside-more c (Entered ticket) others = refl

pub one-child : (done next goal : List ChildView) (subs rest : List SubView) (fates others : List Fate) (sub : SubView) (fate : Fate) → subs ≡ sub ∷ rest → fates ≡ fate ∷ others → next ≡ done ++ recorded_beside sub.subproblem fate []
    → done ++ recorded_children (contents subs) fates ≡ goal → next ++ recorded_children (contents rest) others ≡ goal
one-child done next goal subs rest fates others sub fate s f n so =
    let whole : done ++ recorded_beside sub.subproblem fate (recorded_children (contents rest) others) ≡ goal =
    ap (λ l. done ++ recorded_children (contents l) (fate ∷ others)) (sym s) ∙ (ap (λ l. done ++ recorded_children (contents subs) l) (sym f) ∙ so) in
    ap (λ l. l ++ recorded_children (contents rest) others) n
    ∙ (append_assoc done (recorded_beside sub.subproblem fate []) (recorded_children (contents rest) others)
    ∙ (ap (λ l. done ++ l) (beside-more sub.subproblem fate (recorded_children (contents rest) others)) ∙ whole))

none-recorded : (cs : List Subproblem) → recorded_children cs [] ≡ []
none-recorded [] = refl
none-recorded (c ∷ cs) = refl

pub no-child : (done goal : List ChildView) (subs : List SubView) (fates : List Fate) → (subs ≡ []) ⊎ (fates ≡ []) → done ++ recorded_children (contents subs) fates ≡ goal → done ≡ goal
no-child done goal subs fates over so = ⊎_elim
    (λ s. sym (append-nil done) ∙ (ap (λ l. done ++ recorded_children (contents l) fates) (sym s) ∙ so))
    (λ f. sym (append-nil done) ∙ (ap (λ l. done ++ l) (sym (none-recorded (contents subs))) ∙ (ap (λ l. done ++ recorded_children (contents subs) l) (sym f) ∙ so)))
    over
