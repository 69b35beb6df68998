-- The parts of a board's snapshot, and what they are joined to.
use Rattle.std.proofs.Common.{◌≡◌, ℕ, ◌<◌, ℤ, pos, List, map, IsPermutation, Option, inl, inr, refl, subst}
use Rattle.std.proofs.lemmas.Nat.{mod_below}
use Rattle.dp_model.specs.Best.{best}
use Rattle.dp_model.specs.Decisions.{below}
use Rattle.dp_model.specs.Dp.{Dp}
use Rattle.dp_model.specs.Lists.{Each}
use Rattle.dp_model.specs.Numbers.{AtMost}
use Rattle.dp_model.specs.Prefixes.{IsMatched, IsSolution, value_of}
use Rattle.dp_model.proofs.Members.{Each-map, Each-then, Has, Has-below, Has-below-from, Has-map, Has-map-from, each-has, each-of-all}
use Rattle.dp_model.proofs.Solutions.{best-is_best, IsBest-unique}
use Rattle.dp_laws.proofs.Restricted.Permutations.{Has-permutation}
use Rattle.fringe.specs.Tickets.{Ticketed}
use Rattle.board_laws.specs.Board.{BoardState, frontier, incumbent_value, prefixes, reach_of}
use Rattle.board_laws.specs.GoodBoard.{IsBoard, IsGood, IsGoodFrom}
use Rattle.board_laws.specs.Starts.{BeginsWithOne, CoversFrom, whole_search}
use Rattle.board_laws.proofs.Lists.{one-each, one-out}
use Rattle.board_laws.proofs.Reading.{reach-zero}
use Rattle.board.specs.Frontier.{frontier_of}
use Rattle.frontier_parts.specs.Dealing.{part_of, turn_of}
use Rattle.frontier_parts.specs.Searches.{AreSettledBy}
use Rattle.frontier_parts.specs.Settled.{Settled, IsShown, IsSettled, IsSettledWithin, joined}
use Rattle.frontier_parts.proofs.Joined.{HoldsBy, IsRising, greatest_is, has_within, inc_within, itself_rising, lower, reach_rising, shown_joined}
use Rattle.frontier_parts.proofs.Searching.{held_shown, values_settle}
use Rattle.journal_bytes.specs.Bodies.{IncumbentView, ListedView, Snapshot}
use Rattle.journal_replay.specs.Following.{listed_recorded, snapshot_record}
use Rattle.journal_replay.specs.Parts.{starts_of}
use Rattle.journal_replay.proofs.Snapshots.{moved-in_order}
use Rattle.part_records.specs.Parts.{IsPartSettled, IsPartSettledWithin, PartsJoin, bounds_in, dealt_record, joined_value, listed_by_parts}
use Rattle.part_records.proofs.Dealt.{dealt-once, member-dealt}

pub parts-all : (best : Option IncumbentView) (next : ℕ) (os : List ListedView) (of : ℕ) → 0 < of → IsPermutation (listed_by_parts of (Snapshot best next os)) os
parts-all best next os of some = dealt-once (part_of (bounds_in os) of) of (λ j. mod_below (turn_of (bounds_in os) j) of some) 0 os

module _ (dp : Dp) (starts : List (List ℕ)) (b : BoardState) (of : ℕ) (found : ℕ → Option ℤ) (g : IsBoard dp b) (h : IsGoodFrom dp starts b) (some : 0 < of) where
  -- a part begins with the prefix
  record IsStart (p : List ℕ) : Type 0 where
    pub index : ℕ
    pub less : index < of
    pub has : Has p (starts_of (dealt_record of index (snapshot_record b)))

  -- so with each of the frontier
  one-starts : (p : List ℕ) → Has p (prefixes (frontier b)) → IsStart p
  one-starts p has =
      let from = Has-map-from (λ (o : Ticketed). o.subproblem.decisions) (frontier b) p has in
      let o = from.0 in
      let os = map listed_recorded (frontier_of b) in
      let listed = Has-map listed_recorded (frontier_of b) o (Has-permutation (frontier b) (frontier_of b) (moved-in_order (frontier b)) o from.1) in
      let dealt = member-dealt (part_of (bounds_in os) of) of (λ j. mod_below (turn_of (bounds_in os) j) of some) 0 os (listed_recorded o) listed in
      record {
        index = dealt.index;
        less = dealt.less;
        has = subst (λ q. Has q (starts_of (dealt_record of dealt.index (snapshot_record b)))) from.2
            (Has-map (λ (o : ListedView). o.decisions) _ (listed_recorded o) dealt.has);
      }

  -- as they are read, the completions of each prefix with which a part begins are at most its value or the incumbent's
  abbrev AreHeld : (Option ℤ → Option ℤ) → Type 0
  AreHeld r = (index : ℕ) → index < of → Each (λ p. HoldsBy dp r (incumbent_value b) (record { prefix = p; best = found index })) (starts_of (dealt_record of index (snapshot_record b)))

  module _ (r : Option ℤ → Option ℤ) (rising : IsRising r) (held : AreHeld r) where
    matched-within : (x p : List ℕ) → Has p (prefixes (frontier b)) → IsMatched dp x p → AtMost (value_of dp x) (r (joined_value b of found))
    matched-within x p has m =
        let start = one-starts p has in
        let all = map found (below of) in
        let here = each-has (λ q. HoldsBy dp r (incumbent_value b) (record { prefix = q; best = found start.index })) (starts_of (dealt_record of start.index (snapshot_record b))) p (held start.index start.less) start.has in
        lower (value_of dp x) (value_of dp m.by) (r (joined_value b of found)) m.least (elim (here m.by m.completion) as (λ _. AtMost (value_of dp m.by) (r (joined_value b of found))) [
          | inl own ↦ has_within dp r rising (incumbent_value b) (value_of dp m.by) (incumbent_value b) all (found start.index) (Has-map found (below of) start.index (Has-below of start.index start.less)) own
          | inr old ↦ inc_within dp r rising (incumbent_value b) (value_of dp m.by) (incumbent_value b) all old
        ])

    most : CoversFrom dp starts (r (incumbent_value b)) (prefixes (frontier b)) → (x : List ℕ) → IsSolution dp x → BeginsWithOne starts x → AtMost (value_of dp x) (r (joined_value b of found))
    most covers x s begun =
        let ps = prefixes (frontier b) in
        let Q : List ℕ → Type 0 = λ p. IsMatched dp x p → AtMost (value_of dp x) (r (joined_value b of found)) in
        elim (covers x s begun) as (λ _. AtMost (value_of dp x) (r (joined_value b of found))) [
          | inl low ↦ inc_within dp r rising (incumbent_value b) (value_of dp x) (incumbent_value b) (map found (below of)) low
          | inr one ↦ one-out (λ p. IsMatched dp x p × Q p) (AtMost (value_of dp x) (r (joined_value b of found))) (λ p m. m.1 m.0) ps
              (one-each (IsMatched dp x) Q ps one (each-of-all Q ps (λ p has. matched-within x p has)))
        ]

  shown : ((index : ℕ) → index < of → IsShown dp (found index)) → IsShown dp (joined_value b of found)
  shown each = shown_joined dp (incumbent_value b) (incumbent_value b) (map found (below of)) (held_shown dp b.incumbent g.incumbent)
      (Each-map found (IsShown dp) (below of) (each-of-all (λ i. IsShown dp (found i)) (below of) (λ i has. each i (Has-below-from of i has))))

  abbrev AreSettled : Type 0
  AreSettled = (index : ℕ) → index < of → IsPartSettled dp b (dealt_record of index (snapshot_record b)) (found index)

  abbrev AreSettledWithin : Type 0
  AreSettledWithin = (index : ℕ) → index < of → IsPartSettledWithin dp b (dealt_record of index (snapshot_record b)) (found index)

  -- a solution that begins with a start prefix is at most the joined value
  exact : b.settings.within ≡ pos 0 → AreSettled → (x : List ℕ) → IsSolution dp x → BeginsWithOne starts x → AtMost (value_of dp x) (joined_value b of found)
  exact zero settled =
      let inc = incumbent_value b in
      let covers = subst (λ (r : Option ℤ). CoversFrom dp starts r (prefixes (frontier b))) (reach-zero b.settings.within inc zero) h.covers in
      let held : AreHeld (λ a. a) = λ index less. Each-then (λ p. IsSettled dp inc (record { prefix = p; best = found index })) (λ p. HoldsBy dp (λ a. a) inc (record { prefix = p; best = found index }))
      (starts_of (dealt_record of index (snapshot_record b))) (λ p is. is.held) (settled index less).each in
      most (λ a. a) itself_rising held covers

  -- or no further above it than the distance
  pub near : AreSettledWithin → (x : List ℕ) → IsSolution dp x → BeginsWithOne starts x → AtMost (value_of dp x) (reach_of b.settings.within (joined_value b of found))
  near settled =
      let inc = incumbent_value b in
      let within = b.settings.within in
      let held : AreHeld (reach_of within) = λ index less. Each-then (λ p. IsSettledWithin dp within inc (record { prefix = p; best = found index })) (λ p. HoldsBy dp (reach_of within) inc (record { prefix = p; best = found index }))
      (starts_of (dealt_record of index (snapshot_record b))) (λ p is. is.held) (settled index less).each in
      most (reach_of within) (reach_rising within) held h.covers

  -- so the joined value settles each start prefix
  pub parts-joined-from : AreSettledWithin → AreSettledBy dp starts b.settings.within (joined_value b of found)
  parts-joined-from settled = values_settle dp starts b.settings.within (joined_value b of found) (shown (λ index less. (settled index less).shown)) (near settled)

-- from the empty prefix it is the best value
pub parts-joined : (dp : Dp) (b : BoardState) (of : ℕ) (found : ℕ → Option ℤ) → IsBoard dp b → IsGood dp b → 0 < of → PartsJoin dp b of found
parts-joined dp b of found g h some = record {
  best = λ zero settled. IsBest-unique dp (joined_value b of found) (best dp)
      (greatest_is dp (incumbent_value b) (joined_value b of found) (shown dp whole_search b of found g h some (λ index less. (settled index less).shown)) (λ x s. exact dp whole_search b of found g h some zero settled x s (inl refl))) (best-is_best dp);
  within = λ settled x s. near dp whole_search b of found g h some settled x s (inl refl);
}
