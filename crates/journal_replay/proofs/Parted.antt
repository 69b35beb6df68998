-- A part of the snapshot of a board.
use Rattle.std.proofs.Common.{◌≡◌, ℕ, ◌+◌, Bool, true, false, cond, List, [], ◌∷◌, map, option_map, inl, refl, sym, ◌∙◌, ap, ap₂, subst}
use Rattle.dp_model.specs.Dp.{Dp}
use Rattle.dp_model.specs.Laws.{IsLawful}
use Rattle.dp_model.specs.Lists.{Each}
use Rattle.dp_model.specs.Subproblem.{IsOwn}
use Rattle.fringe.specs.Tickets.{Ticketed}
use Rattle.board_laws.specs.Board.{BoardState, frontier, prefixes}
use Rattle.board_laws.specs.GoodBoard.{IsBoard, IsGoodFrom}
use Rattle.board_laws.specs.Starts.{chosen, whole_search}
use Rattle.board_laws.proofs.Starting.{each-chosen, parts-keep}
use Rattle.board.specs.Frontier.{frontier_of}
use Rattle.journal_bytes.specs.Bodies.{ListedView}
use Rattle.journal_replay.specs.Following.{incumbent_recorded, listed_recorded, snapshot_record}
use Rattle.journal_replay.specs.Parts.{PartsAreRecorded, part_of, starts_of}
use Rattle.journal_replay.specs.Replay.{MayRestoreFrom, Replayed, best_of, replay_start, restarted}
use Rattle.journal_replay.specs.Sound.{IsSoundState, IsSoundStateOf}
use Rattle.journal_replay.proofs.Beside.{first-boards-follow}
use Rattle.journal_replay.proofs.Snapshots.{all-again, best-again, each-in_order, restores-at, sound-at}

-- those that are chosen of a list's images are the images of those that are chosen
chosen-map : {X Y : Type 0} (f : X → Y) (p : ℕ → Bool) (i : ℕ) (xs : List X) → chosen p i (map f xs) ≡ map f (chosen p i xs)
chosen-map f p i [] = refl
chosen-map f p i (x ∷ xs) =
    let rest = chosen-map f p (i + 1) xs in
    elim (p i) as (λ b. cond b (f x ∷ chosen p (i + 1) (map f xs)) (chosen p (i + 1) (map f xs)) ≡ map f (cond b (x ∷ chosen p (i + 1) xs) (chosen p (i + 1) xs))) [ true ↦ ap (λ l. f x ∷ l) rest | false ↦ rest ]

-- the prefixes that a snapshot lists are those of what it lists
listed-prefixes : (os : List Ticketed) → map (λ (o : ListedView). o.decisions) (map listed_recorded os) ≡ prefixes os
listed-prefixes [] = refl
listed-prefixes (o ∷ os) = ap (λ l. o.subproblem.decisions ∷ l) (listed-prefixes os)

-- before the first record a search is sound, from whichever prefixes
start-sound : (dp : Dp) → IsLawful dp → (starts : List (List ℕ)) (b : BoardState) → IsBoard dp b → IsSoundStateOf dp starts b.settings.within 0 (replay_start dp)
start-sound dp laws starts b g =
    let sound : IsSoundState dp b.settings.within 0 (replay_start dp) = (first-boards-follow dp laws b.settings g.settings).sound in
    record {
      incumbent = sound.incumbent;
      list = record {
        covers = λ x s begun. sound.list.covers x s (inl refl);
        held = sound.list.held;
        apart = sound.list.apart;
        ends = sound.list.ends;
        shares = sound.list.shares;
      };
    }

module _ (dp : Dp) (b : BoardState) (p : ℕ → Bool) (g : IsBoard dp b) where
  abbrev part : List Ticketed
  part = chosen p 0 (frontier_of b)

  abbrev state : Replayed
  state = record { incumbent = b.incumbent; listed = part; next_ticket = b.next_ticket }

  recorded : chosen p 0 (map listed_recorded (frontier_of b)) ≡ map listed_recorded part
  recorded = chosen-map listed_recorded p 0 (frontier_of b)

  restarted-is : restarted dp (option_map incumbent_recorded b.incumbent) b.next_ticket (chosen p 0 (map listed_recorded (frontier_of b))) ≡ state
  restarted-is = ap (restarted dp (option_map incumbent_recorded b.incumbent) b.next_ticket) recorded
      ∙ ap₂ (λ best os. record { incumbent = best; listed = os; next_ticket = b.next_ticket }) (best-again b.incumbent)
      (all-again dp part (each-chosen (λ (o : Ticketed). IsOwn dp o.subproblem) p 0 (frontier_of b) (each-in_order (λ o. IsOwn dp o.subproblem) (frontier b) g.own)))

  starts-are : starts_of (part_of p (snapshot_record b)) ≡ prefixes part
  starts-are = ap (map (λ (o : ListedView). o.decisions)) recorded ∙ listed-prefixes part

  part-sound : (starts : List (List ℕ)) → IsGoodFrom dp starts b → IsSoundStateOf dp (prefixes part) b.settings.within 0 state
  part-sound starts good =
      let whole = sound-at dp b g starts good in
      record { incumbent = whole.incumbent; list = (parts-keep dp b.incumbent (frontier_of b) b.next_ticket p).sound starts b.settings.within 0 whole.list }

pub parts-recorded : (dp : Dp) → IsLawful dp → PartsAreRecorded dp
parts-recorded dp laws b p g = record {
  accepted = (subst (MayRestoreFrom dp) (sym (restarted-is dp b p g)) ((parts-keep dp b.incumbent (frontier_of b) b.next_ticket p).restores (restores-at dp b g)), tt);
  sound = λ {starts} good.
      let from = starts_of (part_of p (snapshot_record b)) in
      let here = subst (λ l. IsSoundStateOf dp l b.settings.within 0 (state dp b p g)) (sym (starts-are dp b p g)) (part-sound dp b p g starts good) in
      (start-sound dp laws from b g, subst (IsSoundStateOf dp from b.settings.within 0) (sym (restarted-is dp b p g)) here);
}
