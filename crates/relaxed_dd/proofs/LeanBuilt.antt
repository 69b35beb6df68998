-- Layers that are built while the rows of few of them are held.
use Rattle.std.proofs.Common.{◌≡◌, ℕ, ◌+◌, ◌-◌, ◌<◌, ◌≤◌, Bool, true, false, not, cond, ◌&&◌, ℤ, List, length, Option, None, Some, ◌⊎◌, inl, inr, refl, sym, ◌∙◌, ap, ap₂, subst, arith}
use Rattle.std.proofs.lemmas.List.{length-map}
use Rattle.std.specs.Prelude.{is_none, is_some}
use Rattle.dp_model.specs.Dp.{Dp}
use Rattle.dp_model.specs.Gaps.{IsStateOf}
use Rattle.dp_model.specs.Laws.{IsLawful}
use Rattle.dp_model.specs.Lists.{Each}
use Rattle.dp_model.specs.Subproblem.{Subproblem, IsOwn}
use Rattle.dp_model.proofs.Members.{Each-then}
use Rattle.dp_laws.specs.Diagrams.Nodes.{DdNode}
use Rattle.dp_laws.specs.Rules.Compiling.{expand, prune, is_wide, built, with_suffixes}
use Rattle.layer_build.specs.Layers.{SpaceView, IsPreparedFor, diagram_of, last_depth, last_layer, layer_at, expand_last, reduced_first}
use Rattle.layer_build.specs.UnderWay.{IsUnderWay, last_two}
use Rattle.layer_build.proofs.Dropping.{dropped-under-way}
use Rattle.relaxed_dd.specs.Building.{HasBuilt, IsStarted, with_next}
use Rattle.relaxed_dd.specs.Cut.{CutView, HasCutRoom, AreCutOf, rows_of}
use Rattle.relaxed_dd.specs.Lean.{rows_above, cut_at, MayCopy, HoldsCut, HasBuiltLean, HasCompiledLean, IsMadeLean}
use Rattle.relaxed_dd.proofs.Built.{IsBuiltTo, starts, builds-further, builds-all}
use Rattle.relaxed_dd.proofs.Lasts.{length-expand}
use Rattle.relaxed_dd.proofs.LeanRows.{built-stays, rows-above-new, suffix-rows, two-at, layers_so_far, cut-grows}
use Rattle.relaxed_dd.proofs.Made.{MaySuffix, begun, may-suffix, is-made}

-- ---- one layer

deeper : (dp : Dp) (t : Option ℤ) (s new : SpaceView) → 0 < length s.layers → HasBuilt dp t s new → last_depth new ≡ last_depth s + 1
deeper dp t s new some n = ap last_depth n.space ∙ (let long = length-expand (built dp (length s.prefix) s.width t (last_depth s)) s.layers some in omega arith)

-- the layer that was the last one has its rows
above-rows : (dp : Dp) (t : Option ℤ) (s new : SpaceView) → 0 < length s.layers → HasBuilt dp t s new → rows_above new ≡ rows_of (last_layer s.layers)
above-rows dp t s new some n =
    let rule = built dp (length s.prefix) s.width t (last_depth s) in
    let long = length-expand rule s.layers some in
    let at : length s.prefix + (length (expand_last rule s.layers) - 1) - 1 - length s.prefix ≡ length s.layers - 1 = omega arith in
    ap rows_above n.space ∙ rows-above-new rule (built-stays dp (length s.prefix) s.width t (last_depth s)) s.layers (length s.prefix + (length (expand_last rule s.layers) - 1) - 1 - length s.prefix) some at

-- a layer above the last one has no more nodes than there is room for
few-above : (dp : Dp) (s : SpaceView) (c : CutView) → last_depth s < dp.vars → (length s.prefix + 2 ≤ last_depth s → length (last_layer s.layers) ≤ s.width) → HasCutRoom dp s.width c → IsUnderWay dp s → length (last_layer s.layers) ≤ c.room
few-above dp s c low narrow room u =
    let first = length s.prefix in
    let wide = room.enough.width in
    let split : (last_depth s ≡ first) ⊎ ((last_depth s ≡ first + 1) ⊎ (first + 2 ≤ last_depth s)) = grind arith in
    elim split as (λ _. length (last_layer s.layers) ≤ c.room) [
      | inl here ↦ (let few = u.one here in let some = u.prepared.width.positive in omega arith)
      | inr more ↦ elim more as (λ _. length (last_layer s.layers) ≤ c.room) [
        | inl one ↦ (let few = u.second one in let most = room.enough.choices first (omega arith) in omega arith)
        | inr two ↦ (let few = narrow two in omega arith)
      ]
    ]

pub may-copy : (dp : Dp) (t : Option ℤ) (s mid : SpaceView) (c : CutView) → 0 < length s.layers → last_depth s < dp.vars → (length s.prefix + 2 ≤ last_depth s → length (last_layer s.layers) ≤ s.width) → s.held ≤ last_depth s → HasCutRoom dp s.width c
    → IsUnderWay dp s → HasBuilt dp t s mid → MayCopy mid c
may-copy dp t s mid c some low narrow held room u n =
    let um = n.under_way in
    let deep = deeper dp t s mid some n in
    let prefix : length mid.prefix ≡ length s.prefix = ap (λ (v : SpaceView). length v.prefix) n.space in
    let holds : mid.held ≡ s.held = ap (λ (v : SpaceView). v.held) n.space in
    let layer = layer_at mid (last_depth mid - 1) in
    let above : length mid.prefix < last_depth mid = omega arith in
    let at : layer ≡ (last_two mid.layers).above = two-at mid.layers (last_depth mid - 1 - length mid.prefix) (omega arith) (omega arith) in
    let states : Each (λ (node : DdNode). IsStateOf dp (last_depth mid - 1) node.row) layer = subst (λ l. Each (λ (node : DdNode). IsStateOf dp (last_depth mid - 1) node.row) l) (sym at) (um.two above).above.states in
    let rows = above-rows dp t s mid some n in
    let long : length layer ≡ length (last_layer s.layers) = sym (length-map layer (λ (node : DdNode). node.row)) ∙ (ap (λ (l : List (List ℤ)). length l) rows ∙ length-map (last_layer s.layers) (λ (node : DdNode). node.row)) in
    let few = few-above dp s c low narrow room u in
    record {
      above = above;
      held = omega arith;
      words = Each-then (λ (node : DdNode). IsStateOf dp (last_depth mid - 1) node.row) (λ (node : DdNode). length node.row ≡ c.words) layer (λ x state. um.lawful.sizes.cells (last_depth mid - 1) x.row state ∙ sym room.words) states;
      room = omega arith;
    }

pub other-way : (a b : Bool) → a ≡ not b → b ≡ not a
other-way a true e = ap not (sym e)
other-way a false e = ap not (sym e)

-- a layer is the first reduced one where none was reduced before and one is now
first-now : (o : Option ℕ) (b : Bool) (depth : ℕ) → (is_none o && is_some (cond b (reduced_first o depth) o)) ≡ (is_none o && b)
first-now None true depth = refl
first-now None false depth = refl
first-now (Some d) b depth = refl

cut-built : (dp : Dp) (t : Option ℤ) (s mid : SpaceView) (whole : Bool) (before after : CutView) → 0 < length s.layers → HasBuilt dp t s mid → whole ≡ is_none s.first_reduced → after ≡ cut_at whole mid before → HoldsCut (diagram_of s) before → HoldsCut (diagram_of mid) after
cut-built dp t s mid whole before after some n is kept h =
    let first = length s.prefix in
    let k = last_depth s in
    let o = s.first_reduced in
    let wide = is_wide dp first s.width (k + 1) (prune dp (k + 1) t (expand dp k (last_layer s.layers))).next in
    let now : (whole && is_some mid.first_reduced) ≡ (is_none o && wide) = ap₂ (λ a (l : Option ℕ). a && is_some l) is (ap (λ (v : SpaceView). v.first_reduced) n.space) ∙ first-now o wide (k + 1) in
    let grown = cut-grows first s.layers (built dp first s.width t k) (built-stays dp first s.width t k) some (rows_above mid) (above-rows dp t s mid some n) before o wide h in
    let cut : after ≡ cond (is_none o && wide) (record before { rows = rows_above mid }) before = kept ∙ ap (λ b. cond b (record before { rows = rows_above mid }) before) now in
    subst (λ d. HoldsCut d after) (sym (ap diagram_of n.space)) (subst (HoldsCut (layers_so_far first (expand_last (built dp first s.width t k) s.layers) (with_next dp t s))) (sym cut) grown)

cut-room : (dp : Dp) (w : ℕ) (s : SpaceView) (whole : Bool) (before after : CutView) → after ≡ cut_at whole s before → HasCutRoom dp w before → HasCutRoom dp w after
cut-room dp w s whole before after e h =
    subst (HasCutRoom dp w) (sym e) (elim (whole && is_some s.first_reduced) as (λ b. HasCutRoom dp w (cond b (record before { rows = rows_above s }) before)) [
      | true ↦ record { words = h.words; enough = h.enough }
      | false ↦ h
    ])

-- a layer is built, and the rows above it are held no longer
pub builds-lean : (dp : Dp) (t : Option ℤ) (s mid new : SpaceView) (whole : Bool) (before after : CutView) → 0 < length s.layers → HasCutRoom dp s.width before → whole ≡ is_none s.first_reduced → HasBuilt dp t s mid → after ≡ cut_at whole mid before
    → new ≡ record mid { held = last_depth mid } → HasBuiltLean dp t s new before after
builds-lean dp t s mid new whole before after some room is n kept dropped =
    let held : mid.held ≡ s.held = ap (λ (v : SpaceView). v.held) n.space in
    let same : mid ≡ record new { held = s.held } = ap (λ h. record mid { held = h }) held ∙ sym (ap (λ (v : SpaceView). record v { held = s.held }) dropped) in
    let shown : diagram_of mid ≡ diagram_of new = ap diagram_of same in
    record {
      whole = subst (HasBuilt dp t s) same n;
      held = ap (λ (v : SpaceView). v.held) dropped ∙ ap last_depth same;
      cut = λ h. subst (λ d. HoldsCut d after) shown (cut-built dp t s mid whole before after some n is kept h);
      room = cut-room dp s.width mid whole before after kept room;
    }

-- ---- all layers

-- the layers are built as far as depth k, and no rows are held but those of the last one
pub record IsLeanTo (dp : Dp) (t : Option ℤ) (k : ℕ) (start s : SpaceView) (c : CutView) : Type 0 where
  pub whole : IsBuiltTo dp t k start (record s { held = start.held })
  pub held : s.held ≤ last_depth s
  pub cut : HoldsCut (diagram_of s) c
  pub room : HasCutRoom dp start.width c

pub starts-lean : (dp : Dp) (t : Option ℤ) (s : SpaceView) (c : CutView) → IsUnderWay dp s → IsStarted dp s → s.held ≤ last_depth s → HasCutRoom dp s.width c → IsLeanTo dp t (length s.prefix) s s c
starts-lean dp t s c under h held room = record {
  whole = starts dp t s under h;
  held = held;
  cut = λ reduced e. absurd (let no : true ≡ false = ap is_none (sym h.first_reduced ∙ e) in cc);
  room = room;
}

pub lean-under-way : (dp : Dp) (t : Option ℤ) (k : ℕ) (start s : SpaceView) (c : CutView) → IsLeanTo dp t k start s c → IsUnderWay dp s
lean-under-way dp t k start s c h = dropped-under-way dp (record s { held = start.held }) s.held h.whole.under_way

lean-width : (dp : Dp) (t : Option ℤ) (k : ℕ) (start s : SpaceView) (c : CutView) → IsLeanTo dp t k start s c → s.width ≡ start.width
lean-width dp t k start s c h = ap (λ (v : SpaceView). v.width) h.whole.space

pub lean-room : (dp : Dp) (t : Option ℤ) (k : ℕ) (start s : SpaceView) (c : CutView) → IsLeanTo dp t k start s c → HasCutRoom dp s.width c
lean-room dp t k start s c h = subst (λ w. HasCutRoom dp w c) (sym (lean-width dp t k start s c h)) h.room

pub lean-further : (dp : Dp) (t : Option ℤ) (k : ℕ) (start s new : SpaceView) (before after : CutView) → 1 ≤ start.width → k < dp.vars → IsLeanTo dp t k start s before → HasBuiltLean dp t s new before after → IsLeanTo dp t (k + 1) start new after
lean-further dp t k start s new before after some low h n =
    let held = start.held in
    let lifted : HasBuilt dp t (record s { held = held }) (record new { held = held }) = record {
      space = ap (λ (v : SpaceView). record v { held = held }) n.whole.space;
      under_way = dropped-under-way dp (record new { held = s.held }) held n.whole.under_way;
    } in
    record {
      whole = builds-further dp t k start (record s { held = held }) (record new { held = held }) some low h.whole lifted;
      held = (let e = n.held in omega arith);
      cut = n.cut h.cut;
      room = subst (λ w. HasCutRoom dp w after) (lean-width dp t k start s before h) n.room;
    }

pub lean-all : (dp : Dp) (t : Option ℤ) (start s : SpaceView) (c : CutView) → IsLeanTo dp t dp.vars start s c → HasCompiledLean dp t start s c
lean-all dp t start s c h = record { whole = builds-all dp t start (record s { held = start.held }) h.whole; cut = h.cut; room = h.room }

-- ---- the diagram

pub is-made-lean : (dp : Dp) (p : List ℕ) (t : Option ℤ) (s s1 s2 s3 : SpaceView) (c : CutView) → IsPreparedFor dp s → s1 ≡ begun dp p s1.told s → HasCompiledLean dp t s1 s2 c → s3 ≡ record s2 { layers = with_suffixes dp (length s2.prefix) s2.layers } → IsMadeLean dp p t s s3 c
is-made-lean dp p t s s1 s2 s3 c prepared e h f =
    let held = s1.held in
    let m = is-made dp p t s s1 (record s2 { held = held }) (record s3 { held = held }) prepared e h.whole (ap (λ (v : SpaceView). record v { held = held }) f) in
    let same : s1.width ≡ s.width = ap (λ (v : SpaceView). v.width) e in
    record {
      layers = m.layers;
      width = m.width;
      prepared = record { vars = m.prepared.vars; words = m.prepared.words; choices = m.prepared.choices; width = m.prepared.width; enough = m.prepared.enough; path = m.prepared.path };
      cut = subst (λ d. AreCutOf d c) (sym (ap diagram_of f)) (λ reduced at. (h.cut reduced at).rows ∙ sym (suffix-rows dp (length s2.prefix) (reduced - 1 - length s2.prefix) s2.layers));
      room = subst (λ w. HasCutRoom dp w c) same h.room;
    }

pub may-suffix-lean : (dp : Dp) → IsLawful dp → (t : Option ℤ) (s s1 s2 : SpaceView) (sub : Subproblem) (c : CutView) → IsPreparedFor dp s → IsOwn dp sub → s1 ≡ begun dp sub.decisions s1.told s → HasCompiledLean dp t s1 s2 c → MaySuffix dp s2
may-suffix-lean dp laws t s s1 s2 sub c prepared own e h =
    let m = may-suffix dp laws sub.decisions t s s1 (record s2 { held = s1.held }) prepared own.prefix own.shorter e h.whole in
    record { numbers = m.numbers; whole = m.whole }
