-- The arcs of the joined root, one after another.
use Rattle.std.proofs.Common.{◌≡◌, ◌≢◌, ℕ, zero, suc, ◌+◌, ◌-◌, ◌%◌, true, false, List, [], ◌∷◌, ◌++◌, length, map, filter, Option, refl, sym, ap, ◌∙◌, subst, arith}
use Rattle.std.proofs.lemmas.List.{map-append, append-nil}
use Rattle.std.proofs.lemmas.List.Elements.{filter-append}
use Rattle.dp_model.specs.Dp.{Dp}
use Rattle.dp_model.specs.Decisions.{below}
use Rattle.bound_cover.specs.declared.cover.CoverArc.{CoverArc}
use Rattle.bound_cover.specs.Exploring.{layer_of}
use Rattle.cover_join.specs.Joined.{PartAnswer, joined_target}
use Rattle.cover_join.specs.Joining.{arcs_below}

-- the decision is of a later part
pub target_later : (dp : Dp) (d i n : ℕ) (p : PartAnswer) (ps : List PartAnswer) → i ≢ 0 → joined_target dp d i n (p ∷ ps) ≡ joined_target dp d (i - 1) (n + length (layer_of p.layers 1)) ps
target_later dp d zero n p ps later = absurd (later refl)
target_later dp d (suc i) n p ps later = let same : suc i - 1 ≡ i = omega arith in rw same refl

pub ruleset target_steps = (target_later)

below-next : (d : ℕ) → below (d + 1) ≡ below d ++ d ∷ []
below-next d = let next : d + 1 ≡ suc d = omega arith in rw next refl

-- an arc more, where the decision is allowed
pub arc_added : (dp : Dp) (ps : List PartAnswer) (d of : ℕ) (target : Option ℕ) (arcs next : List CoverArc) → length ps ≡ of → dp.allowed 0 dp.root d ≡ true → target ≡ joined_target dp d (d % of) 0 ps → arcs ≡ arcs_below dp ps d
    → next ≡ arcs ++ record { decision = d; target = target } ∷ [] → next ≡ arcs_below dp ps (d + 1)
arc_added dp ps d of target arcs next long allowed is so_far more =
    let arc : ℕ → CoverArc = λ e. record { decision = e; target = joined_target dp e (e % length ps) 0 ps } in
    let one : filter (dp.allowed 0 dp.root) (d ∷ []) ≡ d ∷ [] = rw allowed refl in
    let same : target ≡ joined_target dp d (d % length ps) 0 ps = subst (λ k. target ≡ joined_target dp d (d % k) 0 ps) (sym long) is in
    let whole : arcs_below dp ps (d + 1) ≡ arcs_below dp ps d ++ arc d ∷ [] =
    ap (λ ds. map arc (filter (dp.allowed 0 dp.root) ds)) (below-next d)
    ∙ (ap (map arc) (filter-append (dp.allowed 0 dp.root) (below d) (d ∷ [])) ∙ (map-append arc (filter (dp.allowed 0 dp.root) (below d)) (filter (dp.allowed 0 dp.root) (d ∷ [])) ∙ ap (λ ds. arcs_below dp ps d ++ map arc ds) one)) in
    more ∙ (ap (λ t. arcs ++ record { decision = d; target = t } ∷ []) same ∙ (ap (λ before. before ++ arc d ∷ []) so_far ∙ sym whole))

pub arc_left_out : (dp : Dp) (ps : List PartAnswer) (d : ℕ) → dp.allowed 0 dp.root d ≡ false → arcs_below dp ps (d + 1) ≡ arcs_below dp ps d
arc_left_out dp ps d allowed =
    let arc : ℕ → CoverArc = λ e. record { decision = e; target = joined_target dp e (e % length ps) 0 ps } in
    let none : filter (dp.allowed 0 dp.root) (d ∷ []) ≡ [] = rw allowed refl in
    ap (λ ds. map arc (filter (dp.allowed 0 dp.root) ds)) (below-next d)
    ∙ (ap (map arc) (filter-append (dp.allowed 0 dp.root) (below d) (d ∷ [])) ∙ (map-append arc (filter (dp.allowed 0 dp.root) (below d)) (filter (dp.allowed 0 dp.root) (d ∷ [])) ∙ (ap (λ ds. arcs_below dp ps d ++ map arc ds) none ∙ append-nil (arcs_below dp ps d))))

pub ruleset arc_steps = (arc_added, arc_left_out)
