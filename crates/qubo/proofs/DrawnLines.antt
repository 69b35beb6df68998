-- Lines that are drawn one after another.
use Rattle.std.proofs.Common.{◌≡◌, ◌∙◌, ℕ, ◌+◌, ◌&&◌, true, List, [], ◌∷◌, ◌++◌, length, sym, ap, ap₂, arith, length-append}
use Rattle.std.specs.List.{list_all}
use Rattle.std.proofs.lemmas.List.Folds.{list_all-append}
use Rattle.draws.specs.Draws.{steps}
use Rattle.draws.proofs.Steps.{steps_more, steps_none}
use Rattle.qubo.specs.declared.line.Line.{Line}
use Rattle.qubo.specs.Quadratic.{is_line}
use Rattle.qubo.specs.Generating.{after_line, line_drawn, with_drawn}

-- this many lines of n variables are drawn from the seed, and these draws are left
pub record AreDrawn (n seed k x : ℕ) (lines : List Line) : Type 0 where
  pub drawn : steps (with_drawn n) k [] seed ≡ (lines, x)
  pub count : length lines ≡ k
  pub each : list_all (is_line n) lines ≡ true

pub none_drawn : (n seed x : ℕ) (lines : List Line) → x ≡ seed → lines ≡ [] → AreDrawn n seed 0 x lines
none_drawn n seed x lines from none = record {
  drawn = steps_none (with_drawn n) [] seed ∙ (λ i. (sym none i, sym from i));
  count = ap length none;
  each = ap (list_all (is_line n)) none;
}

pub one_more : (n seed k x y : ℕ) (lines more : List Line) (line : Line) → AreDrawn n seed k x lines → line ≡ line_drawn n x → y ≡ after_line x
    → is_line n line ≡ true → more ≡ lines ++ line ∷ [] → AreDrawn n seed (k + 1) y more
one_more n seed k x y lines more line d is following kept pushed = record {
  drawn = steps_more (with_drawn n) k [] lines more seed x y d.drawn (λ i. ((ap (λ l. lines ++ l ∷ []) (sym is) ∙ sym pushed) i, sym following i));
  count = ap length pushed ∙ (let c = d.count in omega (arith, length-append lines (line ∷ [])));
  each = ap (list_all (is_line n)) pushed ∙ list_all-append (is_line n) lines (line ∷ []) ∙ ap₂ (λ a b. a && (b && true)) d.each kept;
}
