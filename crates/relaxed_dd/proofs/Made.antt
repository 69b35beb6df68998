-- A diagram is made: begun, built, and given its suffixes.
use Rattle.std.proofs.Common.{◌≡◌, ℕ, ◌+◌, ◌-◌, ◌<◌, ℤ, List, [], ◌∷◌, length, Option, None, refl, sym, ◌∙◌, ap, subst, arith}
use Rattle.dp_model.specs.Dp.{Dp}
use Rattle.dp_model.specs.Laws.{IsLawful}
use Rattle.dp_model.specs.Prefixes.{IsPrefix}
use Rattle.dp_model.specs.Reached.{reached}
use Rattle.dp_laws.specs.Rules.Compiling.{compiled, first_reduced_below, start_layer, with_suffixes}
use Rattle.layer_build.specs.Layers.{SpaceView, IsPreparedFor}
use Rattle.relaxed_dd.specs.Building.{HasCompiled, IsMade}
use Rattle.relaxed_dd.specs.Numbers.{AreLayersWithin}
use Rattle.relaxed_dd.proofs.Numbers.{compiled-within, compiled-length}
use Rattle.layer_nodes.specs.Nodes.{Told}

-- a workspace in which a prefix is begun
abbrev pub begun : Dp → List ℕ → List Told → SpaceView → SpaceView
begun dp p told s = record s { prefix = p; layers = start_layer (reached dp p) ∷ []; told = told; first_reduced = None; held = length p }

-- and built
abbrev built_from : Dp → List ℕ → Option ℤ → List Told → SpaceView → SpaceView
built_from dp p t told s = record s {
  prefix = p;
  layers = compiled dp (length p) s.width t (length p) (dp.vars - length p) (start_layer (reached dp p));
  told = told;
  first_reduced = first_reduced_below dp (length p) s.width t (length p) (dp.vars - length p) (start_layer (reached dp p));
  held = length p;
}

is-built : (dp : Dp) (p : List ℕ) (t : Option ℤ) (s s1 s2 : SpaceView) → s1 ≡ begun dp p s1.told s → HasCompiled dp t s1 s2 → s2 ≡ built_from dp p t s2.told s
is-built dp p t s s1 s2 e h =
    let After : SpaceView → SpaceView = λ v. record v {
      layers = compiled dp (length v.prefix) v.width t (length v.prefix) (dp.vars - length v.prefix) (start_layer (reached dp v.prefix));
      told = s2.told;
      first_reduced = first_reduced_below dp (length v.prefix) v.width t (length v.prefix) (dp.vars - length v.prefix) (start_layer (reached dp v.prefix));
    } in
    h.space ∙ ap After e

-- what the suffixes need
pub record MaySuffix (dp : Dp) (s : SpaceView) : Type 0 where
  pub numbers : AreLayersWithin dp s.width (length s.prefix) s.layers
  pub whole : length s.prefix + length s.layers ≡ dp.vars + 1

pub may-suffix : (dp : Dp) → IsLawful dp → (p : List ℕ) (t : Option ℤ) (s s1 s2 : SpaceView) → IsPreparedFor dp s → IsPrefix dp p → length p < dp.vars → s1 ≡ begun dp p s1.told s → HasCompiled dp t s1 s2 → MaySuffix dp s2
may-suffix dp laws p t s s1 s2 prepared prefix short e h =
    let long = compiled-length dp (length p) s.width t (length p) (dp.vars - length p) (start_layer (reached dp p)) in
    subst (MaySuffix dp) (sym (is-built dp p t s s1 s2 e h)) (record {
      numbers = compiled-within dp laws p s.width t prefix (omega arith) prepared.width.positive;
      whole = omega arith;
    })

pub is-made : (dp : Dp) (p : List ℕ) (t : Option ℤ) (s s1 s2 s3 : SpaceView) → IsPreparedFor dp s → s1 ≡ begun dp p s1.told s → HasCompiled dp t s1 s2 → s3 ≡ record s2 { layers = with_suffixes dp (length s2.prefix) s2.layers } → IsMade dp p t s s3
is-made dp p t s s1 s2 s3 prepared e h f =
    let all = f ∙ ap (λ (v : SpaceView). record v { layers = with_suffixes dp (length v.prefix) v.layers }) (is-built dp p t s s1 s2 e h) in
    subst (IsMade dp p t s) (sym all) (record {
      layers = refl;
      width = refl;
      held = refl;
      prepared = record { vars = prepared.vars; words = prepared.words; choices = prepared.choices; width = prepared.width; enough = prepared.enough; path = prepared.path };
    })
