-- Nodes that are merged, one after another.
use Rattle.std.proofs.Common.{◌≡◌, ℕ, suc, ◌+◌, ◌-◌, ◌<◌, ◌≤◌, ℤ, pos, int_lt, false, cond, List, [], ◌∷◌, ◌++◌, length, map, take, drop, get_or, Option, Some, None, unwrap_or, refl, sym, ◌∙◌, ap, ap₂, subst, append_assoc, append-nil, arith}
use Rattle.std.specs.List.{cons_option}
use Rattle.std.proofs.lemmas.List.{map-append, take_more, drop_more, drop_all, drop-map, length_push}
use Rattle.std.proofs.lemmas.List.Elements.{filter_map-append}
use Rattle.dp_model.specs.Decisions.{below}
use Rattle.dp_model.specs.Dp.{Dp}
use Rattle.dp_model.specs.Gaps.{IsStateOf}
use Rattle.dp_model.specs.Laws.{IsLawful}
use Rattle.dp_model.specs.Lists.{Each}
use Rattle.dp_model.specs.Numbers.{add_some, greatest, greatest_from}
use Rattle.dp_model.proofs.Members.{Each-append}
use Rattle.dp_laws.specs.Diagrams.Nodes.{DdNode}
use Rattle.dp_laws.specs.Rules.Redirects.{Redirect}
use Rattle.dp_laws.specs.Rules.Reducing.{staying, merged_row, row_of_all, merged_node, merge_redirect, merge_redirects}
use Rattle.layer_candidates.specs.HeldRows.{AreLive, HasExchanged, held_row}
use Rattle.layer_candidates.proofs.HeldRows.{put-same, exchange-then}
use Rattle.row_region.specs.Region.{RegionView, IsRow, HasPut}
use Rattle.row_region.proofs.Callers.{put_row}
use Rattle.layer_nodes.specs.declared.node.Node.{Node}
use Rattle.layer_nodes.specs.Holding.{HaveRows}
use Rattle.layer_nodes.specs.Leading.{IsNodeIn, bare}
use Rattle.layer_nodes.specs.Merging.{IsStateIn, of_row, row_of_places, greater, lifted, merged_at, HasMerged}
use Rattle.layer_nodes.specs.Redirecting.{IsShort}
use Rattle.layer_nodes.specs.Stored.{rows_in}
use Rattle.layer_nodes.proofs.Exchanges.{rows-same, first-exchanged, first-rows, exchange-push}
use Rattle.layer_nodes.proofs.Pruned.{here}

-- ---- redirects

pub staying-more : (n : ℕ) → staying (n + 1) ≡ staying n ++ here n ∷ []
staying-more n = let one : n + 1 ≡ suc n = omega arith in ap staying one ∙ map-append (λ (i : ℕ). here i) (below n) (n ∷ [])

pub short-more : (ls : List (Option Redirect)) (o : Option Redirect) → Each IsShort ls → IsShort o → Each IsShort (ls ++ o ∷ [])
short-more ls o all one = Each-append IsShort ls (o ∷ []) all (one, tt)

-- ---- the row

-- the first i rows were merged
pub record IsMerging (dp : Dp) (k : ℕ) (row : ℕ → List ℤ) (places : List ℕ) (into : List ℤ) (i : ℕ) : Type 0 where
  pub merged : merged_row dp k into (map (λ place. of_row (row place)) (drop i places)) ≡ row_of_places dp k row places
  pub state : IsStateOf dp k into

module _ (dp : Dp) (k : ℕ) (row : ℕ → List ℤ) where
  pub merging-first : (places : List ℕ) (into : List ℤ) → 0 < length places → IsStateOf dp k (row (get_or places 0 0)) → into ≡ row (get_or places 0 0) → IsMerging dp k row places into 1
  merging-first [] into some state is = absurd (omega arith)
  merging-first (place ∷ places) into some state is = record {
    merged = ap (λ r. merged_row dp k r (map (λ place. of_row (row place)) places)) is;
    state = subst (IsStateOf dp k) (sym is) state;
  }

  pub merging-more : IsLawful dp → (places : List ℕ) (into into2 : List ℤ) (i : ℕ) → IsMerging dp k row places into i → i < length places → IsStateOf dp k (row (get_or places i 0))
      → into2 ≡ dp.merged k into (row (get_or places i 0)) → IsMerging dp k row places into2 (i + 1)
  merging-more laws places into into2 i h less state is =
      let s = row (get_or places i 0) in
      record {
        merged = ap (λ r. merged_row dp k r (map (λ place. of_row (row place)) (drop (i + 1) places))) is
            ∙ (sym (ap (λ l. merged_row dp k into (map (λ place. of_row (row place)) l)) (drop_more places i 0 less)) ∙ h.merged);
        state = subst (IsStateOf dp k) (sym is) (record { layer = h.state.layer; test = laws.states.merged k into s h.state state });
      }

  pub merging-all : (places : List ℕ) (into : List ℤ) (i : ℕ) → IsMerging dp k row places into i → length places ≤ i → into ≡ row_of_places dp k row places
  merging-all places into i h end = sym (ap (λ l. merged_row dp k into (map (λ place. of_row (row place)) l)) (drop_all i places end)) ∙ h.merged

  -- nodes have the rows of their places
  merged-nodes : (nodes : List Node) (into : List ℤ) → merged_row dp k into (map (λ place. of_row (row place)) (rows_in nodes)) ≡ merged_row dp k into (map (bare row) nodes)
  merged-nodes [] into = refl
  merged-nodes (node ∷ nodes) into = merged-nodes nodes (dp.merged k into (row node.row))

  pub row-of-nodes : (nodes : List Node) → row_of_places dp k row (rows_in nodes) ≡ row_of_all dp k (map (bare row) nodes)
  row-of-nodes [] = refl
  row-of-nodes (node ∷ nodes) = merged-nodes nodes (row node.row)

-- the rows of nodes are states
pub states-in : (dp : Dp) (k : ℕ) (region : RegionView) (nodes : List Node) → Each (IsNodeIn dp k region) nodes → Each (IsStateIn dp k region) (rows_in nodes)
states-in dp k region [] h = tt
states-in dp k region (node ∷ nodes) h = (record { found = h.0.found; state = h.0.with_row.state }, states-in dp k region nodes h.1)

-- ---- the value

from-push : (x : ℤ) (xs : List ℤ) (z : ℤ) → greatest_from x (xs ++ z ∷ []) ≡ cond (int_lt (greatest_from x xs) z) z (greatest_from x xs)
from-push x [] z = refl
from-push x (y ∷ ys) z = from-push (cond (int_lt x y) y x) ys z

greatest-push : (xs : List ℤ) (z : ℤ) → greatest (xs ++ z ∷ []) ≡ greater (greatest xs) (Some z)
greatest-push [] z = refl
greatest-push (x ∷ xs) z = ap Some (from-push x xs z)

greater-none : (o : Option ℤ) → greater o None ≡ o
greater-none None = refl
greater-none (Some z) = refl

pub greatest-option : (xs : List ℤ) (o : Option ℤ) → greatest (xs ++ cons_option o []) ≡ greater (greatest xs) o
greatest-option xs None = ap greatest (append-nil xs) ∙ sym (greater-none (greatest xs))
greatest-option xs (Some z) = greatest-push xs z

pub lifted-push : (dp : Dp) (k : ℕ) (row : List ℤ) (nodes : List DdNode) (node : DdNode) → greatest (lifted dp k row (nodes ++ node ∷ [])) ≡ greater (greatest (lifted dp k row nodes)) (add_some node.value (dp.gap k row node.row))
lifted-push dp k row nodes node =
    ap greatest (filter_map-append (λ (node : DdNode). add_some node.value (dp.gap k row node.row)) nodes (node ∷ []))
    ∙ greatest-option (lifted dp k row nodes) (add_some node.value (dp.gap k row node.row))

-- the first i nodes were looked at
pub record AreLifted (dp : Dp) (k : ℕ) (row : ℕ → List ℤ) (into : List ℤ) (nodes : List Node) (target : ℕ) (old : List (Option Redirect)) (best : Option ℤ) (redirects : List (Option Redirect)) (i : ℕ) : Type 0 where
  pub value : best ≡ greatest (lifted dp k (into) (map (bare row) (take i nodes)))
  pub targets : redirects ≡ old ++ map (merge_redirect dp k target (into)) (map (bare row) (take i nodes))
  pub short : Each IsShort redirects
  pub count : length redirects ≡ length old + i

module _ (dp : Dp) (k : ℕ) (row : ℕ → List ℤ) (into : List ℤ) (nodes : List Node) (target : ℕ) (old : List (Option Redirect)) where
  pub lifted-none : Each IsShort old → AreLifted dp k row into nodes target old None old 0
  lifted-none short = record { value = refl; targets = sym (append-nil old); short = short; count = omega arith }

  pub lifted-more : (best best2 : Option ℤ) (redirects : List (Option Redirect)) (o : Option Redirect) (i : ℕ) (d : Node) → AreLifted dp k row into nodes target old best redirects i → i < length nodes
      → best2 ≡ greater best (add_some (get_or nodes i d).value (dp.gap k (into) (row (get_or nodes i d).row)))
      → o ≡ merge_redirect dp k target (into) (bare row (get_or nodes i d)) → IsShort o
      → AreLifted dp k row into nodes target old best2 (redirects ++ o ∷ []) (i + 1)
  lifted-more best best2 redirects o i d h less value is short =
      let node = bare row (get_or nodes i d) in
      let done = map (bare row) (take i nodes) in
      let more : map (bare row) (take (i + 1) nodes) ≡ done ++ node ∷ [] = ap (map (bare row)) (take_more nodes i d less) ∙ map-append (bare row) (take i nodes) (get_or nodes i d ∷ []) in
      let f = merge_redirect dp k target into in
      record {
        value = value ∙ (ap (λ b. greater b (add_some node.value (dp.gap k into node.row))) h.value ∙ (sym (lifted-push dp k into done node) ∙ ap (λ l. greatest (lifted dp k into l)) (sym more)));
        targets = ap₂ (λ a b. a ++ b ∷ []) h.targets is
            ∙ (append_assoc old (map f done) (f node ∷ []) ∙ ap (λ l. old ++ l) (sym (map-append f done (node ∷ [])) ∙ ap (map f) (sym more)));
        short = short-more redirects o h.short short;
        count = length_push redirects o ∙ (let n = h.count in omega arith);
      }

-- ---- what is not seen of nodes

abbrev pub strip : DdNode → DdNode
strip node = record node { arcs = []; path = []; suffix = None }

merged_row-strip : (dp : Dp) (k : ℕ) (row : List ℤ) (nodes : List DdNode) → merged_row dp k row (map strip nodes) ≡ merged_row dp k row nodes
merged_row-strip dp k row [] = refl
merged_row-strip dp k row (node ∷ nodes) = merged_row-strip dp k (dp.merged k row node.row) nodes

pub row-strip : (dp : Dp) (k : ℕ) (nodes : List DdNode) → row_of_all dp k (map strip nodes) ≡ row_of_all dp k nodes
row-strip dp k [] = refl
row-strip dp k (node ∷ nodes) = merged_row-strip dp k node.row nodes

lifted-strip : (dp : Dp) (k : ℕ) (row : List ℤ) (nodes : List DdNode) → lifted dp k row (map strip nodes) ≡ lifted dp k row nodes
lifted-strip dp k row [] = refl
lifted-strip dp k row (node ∷ nodes) = ap (cons_option (add_some node.value (dp.gap k row node.row))) (lifted-strip dp k row nodes)

pub node-strip : (dp : Dp) (k : ℕ) (nodes : List DdNode) → merged_node dp k (map strip nodes) ≡ merged_node dp k nodes
node-strip dp k nodes =
    ap₂ (λ r v. record { row = r; value = v; exact = false; arcs = []; path = []; suffix = None }) (row-strip dp k nodes)
    (ap (λ l. unwrap_or (greatest l) (pos 0)) (ap (λ r. lifted dp k r (map strip nodes)) (row-strip dp k nodes) ∙ lifted-strip dp k (row_of_all dp k nodes) nodes))

targets-strip : (dp : Dp) (k place : ℕ) (row : List ℤ) (nodes : List DdNode) → map (merge_redirect dp k place row) (map strip nodes) ≡ map (merge_redirect dp k place row) nodes
targets-strip dp k place row [] = refl
targets-strip dp k place row (node ∷ nodes) = ap (λ l. merge_redirect dp k place row node ∷ l) (targets-strip dp k place row nodes)

pub redirects-strip : (dp : Dp) (k w : ℕ) (nodes : List DdNode) → merge_redirects dp k w (map strip nodes) ≡ merge_redirects dp k w nodes
redirects-strip dp k w nodes =
    let last = drop (w - 1) nodes in
    ap (λ l. staying (w - 1) ++ map (merge_redirect dp k (w - 1) (row_of_all dp k l)) l) (drop-map strip (w - 1) nodes)
    ∙ ap (λ l. staying (w - 1) ++ l) (ap (λ r. map (merge_redirect dp k (w - 1) r) (map strip last)) (row-strip dp k last) ∙ targets-strip dp k (w - 1) (row_of_all dp k last) last)

-- ---- all of it

-- the merged nodes' rows are given back, and then the row into which they are merged is put
module _ (dp : Dp) (k width : ℕ) (old now new : RegionView) (nodes : List Node) (into : List ℤ) (place : ℕ) (live : AreLive old (rows_in nodes)) (given : HasExchanged old (rows_in (drop (width - 1) nodes)) now []) (put : HasPut now place into new)
    (long : length into ≡ now.words) where
  abbrev n : ℕ
  n = width - 1

  abbrev row : ℕ → List ℤ
  row = held_row old

  abbrev last : List DdNode
  last = map (bare row) (drop n nodes)

  pub has-merged : HaveRows old (held_row old) (rows_in nodes) → into ≡ row_of_all dp k (map (bare (held_row old)) (drop (width - 1) nodes)) → IsStateOf dp k into
      → (best : Option ℤ) (redirects : List (Option Redirect)) (node : Node) (nodes2 : List Node)
      → best ≡ greatest (lifted dp k into (map (bare (held_row old)) (drop (width - 1) nodes)))
      → redirects ≡ map (merge_redirect dp k (width - 1) into) (map (bare (held_row old)) (drop (width - 1) nodes)) → Each IsShort redirects
      → node ≡ record { value = unwrap_or best (pos 0); rank = dp.rank k into; hash = dp.hash k into; suffix = None; parent = None; row = place; decision = 0; first_arc = 0; arcs = 0; exact = false }
      → nodes2 ≡ take (width - 1) nodes ++ node ∷ [] → HasMerged dp k width old nodes new nodes2 redirects
  has-merged have merged state best redirects node nodes2 value targets short is list =
      let front = rows_in (take n nodes) in
      let first = first-exchanged old now nodes n live given in
      let best_is : best ≡ greatest (lifted dp k (row_of_all dp k last) last) = value ∙ ap (λ r. greatest (lifted dp k r last)) merged in
      let all = list ∙ ap (λ m. take n nodes ++ m ∷ []) (is ∙ ap₂ (λ b r. record { value = unwrap_or b (pos 0); rank = dp.rank k r; hash = dp.hash k r; suffix = None; parent = None; row = place; decision = 0; first_arc = 0; arcs = 0; exact = false }) best_is merged) in
      let places : rows_in nodes2 ≡ front ++ place ∷ [] = ap rows_in all ∙ map-append (λ (m : Node). m.row) (take n nodes) (merged_at dp k place last ∷ []) in
      record {
        place = place;
        list = all;
        held = rows-same now new row front put.words (put-same now new place into put long front first.live.live) (first-rows old now nodes n live row given have);
        merged = subst (IsRow new place) merged (put_row now new place into put long);
        state = subst (IsStateOf dp k) merged state;
        exchanged = subst (HasExchanged old (rows_in nodes) new) (sym places) (exchange-then old now new (rows_in nodes) front (front ++ place ∷ []) first (exchange-push now new front place into first.live put long));
        targets = ap (λ l. staying n ++ l) (targets ∙ ap (λ r. map (merge_redirect dp k n r) last) merged)
            ∙ ap (λ l. staying n ++ map (merge_redirect dp k n (row_of_all dp k l)) l) (sym (drop-map (bare row) n nodes));
        short = short;
      }
