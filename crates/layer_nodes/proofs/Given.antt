-- The rows of nodes that are taken out are given back, one after another.
use Rattle.std.proofs.Common.{◌≡◌, ℕ, ◌+◌, ◌<◌, ◌≤◌, nat_le, ℤ, true, false, not, cond, ◌&&◌, List, [], ◌∷◌, ◌++◌, length, map, take, drop, set, None, inl, refl, sym, ◌∙◌, ap, ap₂, subst, append_assoc, append-nil}
use Rattle.std.proofs.lemmas.List.{map-append, take_more_set, drop_all}
use Rattle.dp_model.specs.Dp.{Dp}
use Rattle.dp_model.specs.Lists.{Each}
use Rattle.dp_model.proofs.Members.{Has, Has-append-left, Has-append-right, Each-append, Each-then}
use Rattle.dp_model.specs.declared.limits.TheConstants.{MOST_LEADERS}
use Rattle.dp_model.specs.declared.model.Fingerprint.{Fingerprint}
use Rattle.dp_laws.specs.Rules.Pruning.{Leader}
use Rattle.layer_candidates.specs.HeldRows.{AreLive, HasExchanged, held_row}
use Rattle.layer_candidates.proofs.HeldRows.{each-left, each-right, held-is, exchange-self, exchange-then}
use Rattle.row_region.specs.Region.{RegionView, IsRow, IsLive}
use Rattle.layer_nodes.specs.declared.node.Node.{Node}
use Rattle.layer_nodes.specs.declared.redirecting.LeaderAt.{LeaderAt}
use Rattle.layer_nodes.specs.Holding.{HaveRows}
use Rattle.layer_nodes.specs.Leading.{IsRowWith, IsIn, IsNodeIn, IsLeaderIn, IsNodeBy, IsLeaderBy, leader_of, leaders_of, led_at, print_of, bare}
use Rattle.layer_nodes.specs.Steps.{AreAmong}
use Rattle.layer_nodes.specs.Stored.{rows_in}
use Rattle.layer_nodes.specs.Striking.{HasGiven}
use Rattle.layer_nodes.proofs.Exchanges.{exchange-one, rows-but-one}
use Rattle.layer_nodes.proofs.Stored.{among-each}

-- ---- rows that the region has as they are found

abbrev rows_led : List LeaderAt → List ℕ
rows_led leaders = map (λ (leader : LeaderAt). leader.row) leaders

module _ (dp : Dp) (k : ℕ) (region : RegionView) (row : ℕ → List ℤ) where
  pub in-by : (place : ℕ) (number : ℤ) (print : Fingerprint) → IsRow region place (row place) → IsRowWith dp k (row place) number print → IsIn dp k region place number print
  in-by place number print here known =
      let same = held-is region place (row place) here.found in
      record { found = subst (IsRow region place) (sym same) here; with_row = subst (λ r. IsRowWith dp k r number print) (sym same) known }

  pub nodes-by : (nodes : List Node) → HaveRows region row (rows_in nodes) → Each (IsNodeBy dp k row) nodes → Each (IsNodeIn dp k region) nodes
  nodes-by [] have known = tt
  nodes-by (node ∷ nodes) have known = (in-by node.row node.value (print_of node) have.0 known.0, nodes-by nodes have.1 known.1)

  leaders-by : (leaders : List LeaderAt) → HaveRows region row (rows_led leaders) → Each (IsLeaderBy dp k row) leaders → Each (IsLeaderIn dp k region) leaders
  leaders-by [] have known = tt
  leaders-by (leader ∷ leaders) have known = (in-by leader.row leader.value leader.print have.0 known.0, leaders-by leaders have.1 known.1)

pub rows-found : (dp : Dp) (k : ℕ) (region : RegionView) (nodes : List Node) → Each (IsNodeIn dp k region) nodes → HaveRows region (held_row region) (rows_in nodes)
rows-found dp k region [] h = tt
rows-found dp k region (node ∷ nodes) h = (h.0.found, rows-found dp k region nodes h.1)

pub nodes-known : (dp : Dp) (k : ℕ) (region : RegionView) (nodes : List Node) → Each (IsNodeIn dp k region) nodes → Each (IsNodeBy dp k (held_row region)) nodes
nodes-known dp k region nodes h = Each-then (IsNodeIn dp k region) (IsNodeBy dp k (held_row region)) nodes (λ node one. one.with_row) h

module _ (region : RegionView) (row : ℕ → List ℤ) where
  leaders-same : (leaders : List LeaderAt) → HaveRows region row (rows_led leaders) → leaders_of (held_row region) leaders ≡ leaders_of row leaders
  leaders-same [] have = refl
  leaders-same (leader ∷ leaders) have =
      ap₂ (λ r (l : List Leader). record (leader_of row leader) { row = r } ∷ l) (held-is region leader.row (row leader.row) have.0.found) (leaders-same leaders have.1)

-- ---- step by step

-- the first i nodes were looked at: the region has the rows of those that stay, this many, and of those that are left
pub record AreGiven (base : RegionView) (old now : List Node) (leaders : List LeaderAt) (region : RegionView) (stay i : ℕ) : Type 0 where
  pub exchanged : HasExchanged base (rows_in old) region (rows_in (take stay now) ++ rows_in (drop i old))
  pub held : HaveRows region (held_row base) (rows_in (take stay now) ++ rows_in (drop i old))
  pub led : AreAmong (rows_in (take stay now)) (rows_led leaders)

pub given-none : (base : RegionView) (nodes : List Node) → AreLive base (rows_in nodes) → HaveRows base (held_row base) (rows_in nodes) → AreGiven base nodes nodes [] base 0 0
given-none base nodes live have = record { exchanged = exchange-self base (rows_in nodes) live; held = have; led = tt }

module _ (base : RegionView) (old now : List Node) (leaders : List LeaderAt) (region : RegionView) (stay i : ℕ) (h : AreGiven base old now leaders region stay i) where
  abbrev front : List ℕ
  front = rows_in (take stay now)

  abbrev have : ℕ → Type 0
  have place = IsRow region place (held_row base place)

  leaders-have : HaveRows region (held_row base) (rows_led leaders)
  leaders-have = among-each have front (rows_led leaders) h.led (each-left have front (rows_in (drop i old)) h.held)

  -- the leaders as they are read
  pub leaders-in : (dp : Dp) (k : ℕ) → Each (IsLeaderBy dp k (held_row base)) leaders → Each (IsLeaderIn dp k region) leaders
  leaders-in dp k known = leaders-by dp k region (held_row base) leaders leaders-have known

  pub leaders-are : leaders_of (held_row region) leaders ≡ leaders_of (held_row base) leaders
  leaders-are = leaders-same region (held_row base) leaders leaders-have

  module _ (node : Node) (left : drop i old ≡ node ∷ drop (i + 1) old) where
    abbrev rest : List ℕ
    rest = rows_in (drop (i + 1) old)

    there : HaveRows region (held_row base) (front ++ node.row ∷ rest)
    there = subst (λ l. HaveRows region (held_row base) (front ++ rows_in l)) left h.held

    here : IsRow region node.row (held_row base node.row)
    here = (each-right have front (node.row ∷ rest) there).0

    -- the next node as it is read
    pub next-in : (dp : Dp) (k : ℕ) → IsNodeBy dp k (held_row base) node → IsNodeIn dp k region node
    next-in dp k known = in-by dp k region (held_row base) node.row node.value (print_of node) here known

    pub next-is : bare (held_row region) node ≡ bare (held_row base) node
    next-is = ap (λ r. record (bare (held_row base) node) { row = r }) (held-is region node.row (held_row base node.row) here.found)

    pub next-live : IsLive region node.row
    next-live = (held_row base node.row, here.found)

    -- it is taken out
    pub given-out : (new : RegionView) → new ≡ record region { rows = set region.rows node.row None; spare = region.spare + 1 } → AreGiven base old now leaders new stay (i + 1)
    given-out new given =
        let before = subst (λ l. HasExchanged base (rows_in old) region (front ++ rows_in l)) left h.exchanged in
        record {
          exchanged = exchange-then base region new (rows_in old) (front ++ node.row ∷ rest) (front ++ rest) before (exchange-one region new front rest node.row before.live given);
          held = rows-but-one region new front rest node.row before.live given (held_row base)
              (Each-append have front rest (each-left have front (node.row ∷ rest) there) (each-right have front (node.row ∷ rest) there).1);
          led = h.led;
        }

    -- it stays
    pub given-stays : stay < length now → AreGiven base old (set now stay node) (led_at leaders stay node) region (stay + 1) (i + 1)
    given-stays less =
        let l : LeaderAt = record { place = stay; row = node.row; value = node.value; print = print_of node } in
        let first : rows_in (take (stay + 1) (set now stay node)) ≡ front ++ node.row ∷ [] =
        ap rows_in (take_more_set now stay node less) ∙ map-append (λ (n : Node). n.row) (take stay now) (node ∷ []) in
        let all : front ++ rows_in (drop i old) ≡ rows_in (take (stay + 1) (set now stay node)) ++ rest =
        ap (λ l. front ++ rows_in l) left ∙ (sym (append_assoc front (node.row ∷ []) rest) ∙ ap (λ l. l ++ rest) (sym first)) in
        let more : AreAmong (front ++ node.row ∷ []) (rows_led leaders) =
        Each-then (λ (p : ℕ). Has p front) (λ (p : ℕ). Has p (front ++ node.row ∷ [])) (rows_led leaders) (λ p has. Has-append-left p front (node.row ∷ []) has) h.led in
        let both : AreAmong (front ++ node.row ∷ []) (rows_led (leaders ++ l ∷ [])) =
        subst (AreAmong (front ++ node.row ∷ [])) (sym (map-append (λ (leader : LeaderAt). leader.row) leaders (l ∷ [])))
        (Each-append (λ (p : ℕ). Has p (front ++ node.row ∷ [])) (rows_led leaders) (node.row ∷ []) more (Has-append-right node.row front (node.row ∷ []) (inl refl), tt)) in
        record {
          exchanged = subst (HasExchanged base (rows_in old) region) all h.exchanged;
          held = subst (HaveRows region (held_row base)) all h.held;
          led = subst (λ l. AreAmong l (rows_led (led_at leaders stay node))) (sym first)
              (elim (node.exact && not (nat_le MOST_LEADERS (length leaders))) as (λ b. AreAmong (front ++ node.row ∷ []) (rows_led (cond b (leaders ++ l ∷ []) leaders))) [ true ↦ both | false ↦ more ]);
        }

  pub given-all : length old ≤ i → HasGiven base old region (take stay now)
  given-all end =
      let all : front ++ rows_in (drop i old) ≡ front = ap (λ l. front ++ rows_in l) (drop_all i old end) ∙ append-nil front in
      record { exchanged = subst (HasExchanged base (rows_in old) region) all h.exchanged; held = subst (HaveRows region (held_row base)) all h.held }

-- the same by equal parts
pub given-by : (base : RegionView) (old now now2 : List Node) (ls ls2 : List LeaderAt) (region region2 : RegionView) (stay stay2 i : ℕ)
    → AreGiven base old now ls region stay i → now2 ≡ now → ls2 ≡ ls → region2 ≡ region → stay2 ≡ stay → AreGiven base old now2 ls2 region2 stay2 i
given-by base old now now2 ls ls2 region region2 stay stay2 i h a b c d =
    subst (λ x. AreGiven base old x ls2 region2 stay2 i) (sym a)
    (subst (λ x. AreGiven base old now x region2 stay2 i) (sym b)
    (subst (λ x. AreGiven base old now ls x stay2 i) (sym c)
    (subst (λ x. AreGiven base old now ls region x i) (sym d) h)))
