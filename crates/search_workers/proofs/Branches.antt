-- What diagrams leave of a subproblem.
use Rattle.std.proofs.Common.{◌≡◌, ℕ, ℤ, List, [], false, Option, Some, None, ◌⊎◌, inl, inr, refl, sym, ◌∙◌, ap, subst, arith}
use Rattle.std.proofs.lemmas.Bool.{ltb-true, lt-ltb, le-ltb}
use Rattle.std.specs.Prelude.{is_some, nat_lt, cond, true, ◌<◌, ◌≤◌, ◌^◌}
use Rattle.dp_model.specs.Dp.{Dp}
use Rattle.dp_model.specs.Laws.{IsLawful, IsChained}
use Rattle.dp_model.specs.Numbers.{AtMost, OptionAtMost}
use Rattle.dp_model.specs.Prefixes.{IsPrefix, IsSolution, value_of}
use Rattle.dp_model.specs.Reached.{Reached, reached}
use Rattle.dp_model.specs.Solution.{Solution}
use Rattle.dp_model.specs.Subproblem.{Subproblem, IsOwn}
use Rattle.dp_model.specs.declared.cut_kind.CutKind.{CutKind}
use Rattle.dp_model.specs.declared.cut_kind.CutKind.TheVariants.{LastExactLayer, Frontier}
use Rattle.dp_model.specs.declared.found.Found.{Found}
use Rattle.dp_laws.specs.Children.{StandDeep, FoundCompletes, found_value, children_size}
use Rattle.dp_laws.specs.Diagrams.Cutsets.{children_of, found_in}
use Rattle.dp_laws.specs.Diagrams.Nodes.{DdLayers}
use Rattle.dp_laws.specs.Diagrams.Placed.{ChildrenFit}
use Rattle.dp_laws.specs.Width.{FitsWidth}
use Rattle.dp_laws.specs.Restricted.Beams.{beam, wide}
use Rattle.dp_laws.specs.Rules.Compiling.{relaxed}
use Rattle.dp_laws.proofs.Diagrams.Fits.{children-fit}
use Rattle.dp_laws.proofs.Diagrams.Kinds.{children-sound, children-deep}
use Rattle.dp_laws.proofs.Reaches.{at-most-raised, sound-follow}
use Rattle.dp_laws.proofs.Restricted.Covering.{whole_beams-best}
use Rattle.dp_laws.proofs.Restricted.Found.{beams-feasible}
use Rattle.dp_laws.proofs.Rules.Diagrams.{compiled-is-diagram}
use Rattle.board_laws.specs.Board.{BoardState, reach}
use Rattle.board_laws.specs.GoodBoard.{IncumbentHolds}
use Rattle.layer_build.specs.Layers.{IsWidth}
use Rattle.restricted_dd.specs.Beams.{ShowsBeam}
use Rattle.layer_build.specs.Finding.{IsFound}
use Rattle.search_workers.specs.Branched.{AreBranched, IsBranched}
use Rattle.search_workers.specs.Offered.{beam_value, found_solution}
use Rattle.search_workers.specs.Taken.{kind_taken, taken_from}

abbrev solution : List ℕ → ℤ → Solution
solution x v = record { decisions = x; value = v }

same-solution : (x y : List ℕ) (v w : ℤ) → x ≡ y → v ≡ w → solution x v ≡ solution y w
same-solution x y v w same equal = ap (λ z. solution z v) same ∙ ap (solution y) equal

-- The restricted diagram.

pub beam-held : (dp : Dp) (p : List ℕ) (w : ℕ) (t : Option ℤ) (found : Option Found) → IsPrefix dp p → (b : Option Reached) → b ≡ beam dp p w t → ShowsBeam b found → IncumbentHolds dp (found_solution found)
beam-held dp p w t None prefix b is shows = tt
beam-held dp p w t (Some f) prefix None is shows = absurd shows
beam-held dp p w t (Some f) prefix (Some r) is shows =
    let whole = beams-feasible dp p w t r prefix (sym is) in
    record {
      solution = subst (λ x. IsSolution dp x) (sym shows.decisions) whole.completion.solution;
      value = shows.value ∙ (whole.value ∙ ap (value_of dp) (sym shows.decisions));
    }

pub beam-value-held : (b : Option Reached) (found : Option Found) → ShowsBeam b found → beam_value b ≡ found_value (found_solution found)
beam-value-held None None shows = refl
beam-value-held None (Some f) shows = absurd shows
beam-value-held (Some r) None shows = absurd shows
beam-value-held (Some r) (Some f) shows = ap Some (sym shows.value)

none-deep : (depth : Option ℕ) → StandDeep depth []
none-deep None = refl
none-deep (Some depth) = tt

pub not-some : {X : Type 0} (o : Option X) → false ≡ is_some o → o ≡ None
not-some None h = refl
not-some (Some x) h = absurd (cc)

-- where the width took nothing away and the beam was offered, nothing is left to branch
pub whole-branched-for : (dp : Dp) → IsLawful dp → (v : ℕ) (most : Option ℤ) (p : List ℕ) (w : ℕ) (t : Option ℤ) (found : Option Found) → IsPrefix dp p → false ≡ is_some (wide dp p w t) → ShowsBeam (beam dp p w t) found
    → OptionAtMost t most → OptionAtMost (found_value (found_solution found)) most → AreBranched dp v most p t []
whole-branched-for dp laws v most p w t found prefix whole shows low best =
    let same = beam-value-held (beam dp p w t) found shows in
    record {
      below = low;
      children = record {
        few = omega arith;
        own = tt;
        apart = tt;
        differ = tt;
        far = tt;
        held = tt;
        matched = λ x k. elim (whole_beams-best dp laws p w t prefix (not-some (wide dp p w t) whole) x k) as (λ _. AtMost (value_of dp x) most ⊎ ⊥) [
          | inl a ↦ inl (at-most-raised (value_of dp x) t most low a)
          | inr a ↦ inl (at-most-raised (value_of dp x) (found_value (found_solution found)) most best (subst (AtMost (value_of dp x)) same a))
        ];
      };
      deep = none-deep (wide dp p v t);
      size = omega arith;
    }

pub whole-branched : (dp : Dp) → IsLawful dp → (b : BoardState) (p : List ℕ) (w : ℕ) (t : Option ℤ) (found : Option Found) → IsPrefix dp p → false ≡ is_some (wide dp p w t) → ShowsBeam (beam dp p w t) found
    → OptionAtMost t (reach b) → OptionAtMost (found_value (found_solution found)) (reach b) → IsBranched dp b p t []
whole-branched dp laws b p w t found prefix whole shows low best = whole-branched-for dp laws b.settings.width (reach b) p w t found prefix whole shows low best

-- The relaxed diagram.

-- what is shown is the solution
pub shown-solution : (s : Option Solution) (f : Option Found) → IsFound s f → found_solution f ≡ s
shown-solution None None shows = refl
shown-solution None (Some f) shows = absurd shows
shown-solution (Some s) None shows = absurd shows
shown-solution (Some s) (Some f) shows = ap Some (same-solution f.decisions.now s.decisions f.value s.value shows.1 shows.0)

found-completes : (dp : Dp) (p : List ℕ) (found : Option Solution) → FoundCompletes dp p found → IncumbentHolds dp found
found-completes dp p None h = tt
found-completes dp p (Some best) h = record { solution = h.completion.solution; value = h.value }

-- what it finds is a feasible solution
pub relaxed-held : (dp : Dp) → IsLawful dp → IsChained dp → (c : Subproblem) (w : ℕ) (t : Option ℤ) → IsOwn dp c → IsWidth dp w → IncumbentHolds dp (found_in dp (relaxed dp (reached dp c.decisions) w t))
relaxed-held dp laws chained c w t own fits =
    let p = c.decisions in
    let d = relaxed dp (reached dp p) w t in
    let is = compiled-is-diagram dp laws chained p w t own.prefix own.shorter fits.positive in
    found-completes dp p (found_in dp d) (children-sound dp laws p w t d LastExactLayer is own.shorter).solution

-- a record that names all of the children is not too large
taken-size : (dp : Dp) (w : ℕ) (d : DdLayers) → ChildrenFit dp w d → FitsWidth dp w → (kind : CutKind) → children_size (taken_from dp d kind) < 2 ^ 32
taken-size dp w d fit fits LastExactLayer = let most = fit.size fits in omega arith
taken-size dp w d fit fits Frontier =
    let size = children_size (children_of dp d Frontier) in
    elim (nat_lt size (2 ^ 32)) as (λ b. nat_lt size (2 ^ 32) ≡ b → children_size (children_of dp d (cond b Frontier LastExactLayer)) < 2 ^ 32) [
      | true ↦ λ e. ltb-true size (2 ^ 32) e
      | false ↦ λ _. let most = fit.size fits in omega arith
    ] refl

-- which of the two kinds is taken
pub taken-whole : (dp : Dp) (d : DdLayers) → children_size (children_of dp d Frontier) < 2 ^ 32 → taken_from dp d Frontier ≡ children_of dp d Frontier
taken-whole dp d small = ap (λ b. children_of dp d (cond b Frontier LastExactLayer)) (lt-ltb (children_size (children_of dp d Frontier)) (2 ^ 32) small)

pub taken-last : (dp : Dp) (d : DdLayers) → 2 ^ 32 ≤ children_size (children_of dp d Frontier) → taken_from dp d Frontier ≡ children_of dp d LastExactLayer
taken-last dp d large = ap (λ b. children_of dp d (cond b Frontier LastExactLayer)) (le-ltb (children_size (children_of dp d Frontier)) (2 ^ 32) large)

-- once that was offered, its children may take the place of the subproblem
pub relaxed-branched-for : (dp : Dp) → IsLawful dp → IsChained dp → (v : ℕ) (most : Option ℤ) (c : Subproblem) (w : ℕ) (t : Option ℤ) (kind : CutKind) → IsOwn dp c → IsWidth dp w → w ≡ v
    → OptionAtMost t most → OptionAtMost (found_value (found_in dp (relaxed dp (reached dp c.decisions) w t))) most
    → AreBranched dp v most c.decisions t (taken_from dp (relaxed dp (reached dp c.decisions) w t) kind)
relaxed-branched-for dp laws chained v most c w t kind own fits same low best =
    let p = c.decisions in
    let d = relaxed dp (reached dp p) w t in
    let k = kind_taken dp d kind in
    let is = compiled-is-diagram dp laws chained p w t own.prefix own.shorter fits.positive in
    let fit = children-fit dp laws p w t d own.shorter is in
    record {
      below = low;
      children = sound-follow dp most t (found_in dp d) p (children_of dp d k) low best (fit.few k fits.fits) (fit.far k) (children-sound dp laws p w t d k is own.shorter);
      deep = subst (λ v. StandDeep (wide dp p v t) (children_of dp d k)) same (subst (λ depth. StandDeep depth (children_of dp d k)) is.first_reduced (children-deep dp laws p w t d k is own.shorter));
      size = taken-size dp w d fit fits.fits kind;
    }

pub relaxed-branched : (dp : Dp) → IsLawful dp → IsChained dp → (b : BoardState) (c : Subproblem) (w : ℕ) (t : Option ℤ) (kind : CutKind) → IsOwn dp c → IsWidth dp w → w ≡ b.settings.width
    → OptionAtMost t (reach b) → OptionAtMost (found_value (found_in dp (relaxed dp (reached dp c.decisions) w t))) (reach b)
    → IsBranched dp b c.decisions t (taken_from dp (relaxed dp (reached dp c.decisions) w t) kind)
relaxed-branched dp laws chained b c w t kind own fits same low best = relaxed-branched-for dp laws chained b.settings.width (reach b) c w t kind own fits same low best
