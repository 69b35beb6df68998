-- What the fields of a board keep under each step.
use Rattle.std.proofs.Common.{◌≡◌, ◌≢◌, ℕ, zero, suc, ◌+◌, ◌<◌, ◌≤◌, ℤ, ◌+ℤ◌, List, [], ◌∷◌, ◌++◌, length, map, set, get_or, true, Option, Some, None, inl, refl, sym, ◌∙◌, ap, subst, IsTrue, arith}
use Rattle.std.proofs.lemmas.Int.{ints}
use Rattle.std.proofs.lemmas.List.{length-map}
use Rattle.std.proofs.lemmas.Option.{slice_get_read}
use Rattle.std.specs.List.{slice_get}
use Rattle.std.specs.Prelude.{is_some, IsSome, ◌^◌}
use Rattle.dp_model.specs.Solution.{Solution, IsSolutionWith}
use Rattle.dp_model.specs.Dp.{Dp}
use Rattle.dp_model.specs.declared.limits.TheConstants.{MOST_WIDTH}
use Rattle.dp_model.specs.Gaps.{IsStateOf}
use Rattle.dp_model.specs.Laws.{IsLawful}
use Rattle.dp_model.specs.Lists.{Each}
use Rattle.dp_model.specs.Numbers.{IsFar, is_above}
use Rattle.dp_model.specs.Prefixes.{value_of, state_of}
use Rattle.dp_model.specs.Subproblem.{Subproblem, SubView, IsOwn, IsChild}
use Rattle.dp_model.proofs.Members.{Each-then}
use Rattle.dp_model.proofs.Paths.{state_of-state}
use Rattle.dp_model.proofs.Sizes.{value_of-size}
use Rattle.fringe.specs.Firsts.{first_taken}
use Rattle.fringe.specs.Fringe.{FringeView}
use Rattle.fringe.specs.Popping.{after_pop, taken_out}
use Rattle.fringe.specs.Tickets.{Ticketed}
use Rattle.dominance_table.specs.Dominator.{IsReached}
use Rattle.dominance_table.specs.Entries.{TableEntry, TableView}
use Rattle.board_laws.specs.Board.{AreSettings, BoardState, incumbent_value, value_held, reach, full_slots, slot_content, slot_at, frontier}
use Rattle.board_laws.specs.Entering.{entering, entry_of, put_all, replaced, without_all}
use Rattle.board_laws.specs.Fates.{fate_of, fates_on, tickets_after}
use Rattle.board_laws.specs.Finishing.{MayFinish}
use Rattle.board_laws.specs.GoodBoard.{IncumbentHolds, IsBoard, IsGood, IsEntry}
use Rattle.board_laws.specs.Improving.{after_offer}
use Rattle.board_laws.specs.Laws.{KeepsBoard}
use Rattle.board_laws.specs.Pushes.{AreThreaded, push_by, put_each}
use Rattle.board_laws.specs.Steps.{improved, finished_by, given_back_from, given_back, back_among, empty_slots, fresh_board}
use Rattle.board_laws.specs.Taking.{take_gives, checked_out, after_answer, after_take}
use Rattle.board_laws.specs.declared.fate.Fate.{Fate}
use Rattle.board_laws.specs.declared.fate.Fate.TheVariants.{Below, Kept, Dominated, Replaced, Entered}
use Rattle.board_laws.specs.declared.improved.Improved.TheVariants.{Yes}
use Rattle.board_laws.specs.declared.settings.Settings.{Settings}
use Rattle.board_laws.specs.declared.taken.Taken.TheVariants.{Sub}
use Rattle.board_laws.proofs.Fates.{fates-many, fates-hold, kids-hold, FatesHold}
use Rattle.board_laws.proofs.FinishingBoard.{finish-keeps}
use Rattle.fringe.proofs.Takings.{first_taken-is}
use Rattle.board_laws.proofs.Frontier.{tickets-flip}
use Rattle.board_laws.proofs.GivingBack.{give-back-keeps}
use Rattle.board_laws.proofs.Improving.{improve-keeps}
use Rattle.board_laws.proofs.Lists.{each-back, one-each, one-out}
use Rattle.board_laws.proofs.Pushing.{pushes-are-fates, puts-are-entries}
use Rattle.board_laws.proofs.Slots.{slot-full, filled, emptied}
use Rattle.board_laws.proofs.Taking.{take-keeps}
use Rattle.board_laws.proofs.With.{with-right, each-out, two-out, length-with}
use Rattle.board.specs.Contents.{contents}
use Rattle.board.specs.Kept.{best_of, HasRows, IsBoardInMemory}
use Rattle.board.proofs.Rows.{puts_keep, rows_fewer}

-- after a step that keeps a board, with room in the fringe and the table
pub kept-by : (dp : Dp) (made b later : BoardState) (fringe fringe2 : FringeView) (table table2 : TableView) (room room2 for_best for_best2 cells spare_cells : ℕ) → IsBoardInMemory dp made b fringe table room for_best cells spare_cells
    → KeepsBoard dp b later → later.settings ≡ b.settings → fringe2.words ≡ fringe.words → table2.words ≡ table.words → table2.limit ≡ table.limit
    → room2 + length (full_slots later.slots) ≤ fringe2.spare → HasRows room2 table2 → for_best ≤ for_best2 → IsBoardInMemory dp made later fringe2 table2 room2 for_best2 cells spare_cells
kept-by dp made b later fringe fringe2 table table2 room room2 for_best for_best2 cells spare_cells k keeps settings words table_words limit fits rows more = record {
  board = keeps.board k.board;
  good = λ h. keeps.good k.board (k.good h);
  has_room = record {
    fringe_words = words ∙ k.has_room.fringe_words;
    table_words = table_words ∙ k.has_room.table_words;
    limit = limit ∙ (k.has_room.limit ∙ ap (λ (s : Settings). s.table_limit) (sym settings));
    open_room = fits;
    table_room = rows;
  };
  buffers = record { best = (let old = k.buffers.best in omega arith); row = k.buffers.row; spare = k.buffers.spare };
}

-- Take.

abbrev pub handed : BoardState → ℕ → Ticketed → List Ticketed → BoardState
handed b who o os = record b { open_ones = os; slots = set b.slots who (Some o); taken = b.taken + 1 }

-- that is the step
pub take-step : (b : BoardState) (who : ℕ) (o : Ticketed) (os : List Ticketed) → take_gives b ≡ Sub → Some o ≡ first_taken b.open_ones → os ≡ after_pop b.open_ones → handed b who o os ≡ after_take b who
take-step b who o os may first popped =
    ap (handed b who o) (popped ∙ ap (λ f. taken_out f b.open_ones) (sym first)) ∙ (ap (checked_out b who) first ∙ ap (after_answer b who) (sym may))

pub take-kept : (dp : Dp) (made b : BoardState) (who : ℕ) (o : Ticketed) (fringe fringe2 : FringeView) (table : TableView) (room for_best cells spare_cells : ℕ) → IsBoardInMemory dp made b fringe table room for_best cells spare_cells
    → take_gives b ≡ Sub → slice_get b.slots who ≡ Some None → Some o ≡ first_taken b.open_ones → fringe2.open_ones ≡ after_pop b.open_ones → fringe2.words ≡ fringe.words → fringe.spare + 1 ≤ fringe2.spare
    → IsBoardInMemory dp made (handed b who o fringe2.open_ones) fringe2 table room for_best cells spare_cells
take-kept dp made b who o fringe fringe2 table room for_best cells spare_cells k may empty first popped words more =
    let step = take-step b who o fringe2.open_ones may first popped in
    let out = length-with o (full_slots b.slots) (full_slots (set b.slots who (Some o))) (filled b.slots who o empty) in
    let fits = k.has_room.open_room in
    kept-by dp made b (handed b who o fringe2.open_ones) fringe fringe2 table table room room for_best for_best cells spare_cells k
    (subst (KeepsBoard dp b) (sym step) (take-keeps dp b who empty)) refl words refl refl (omega arith) k.has_room.table_room (omega arith)

-- the first open one is a prefix of its own, which fits a caller's subproblem
pub record Copies (dp : Dp) (o : Ticketed) : Type 0 where
  pub few : length o.subproblem.decisions ≤ dp.vars
  pub cells : length o.subproblem.row ≡ dp.words

pub own-cells : (dp : Dp) → IsLawful dp → (c : Subproblem) → IsOwn dp c → length c.row ≡ dp.words
own-cells dp laws c own = ap length own.row ∙ laws.sizes.cells (length c.decisions) (state_of dp c.decisions) (state_of-state dp laws.states c.decisions own.prefix)

own-state : (dp : Dp) → IsLawful dp → (c : Subproblem) → IsOwn dp c → IsStateOf dp (length c.decisions) c.row
own-state dp laws c own = subst (IsStateOf dp (length c.decisions)) (sym own.row) (state_of-state dp laws.states c.decisions own.prefix)

pub take-copies : (dp : Dp) → IsLawful dp → (b : BoardState) → IsBoard dp b → (o : Ticketed) → Some o ≡ first_taken b.open_ones → Copies dp o
take-copies dp laws b g o first =
    let one = (first_taken-is b.open_ones o first).one in
    let own = one-out (λ a. (a ≡ o) × IsOwn dp a.subproblem) (IsOwn dp o.subproblem) (λ a h. subst (λ (x : Ticketed). IsOwn dp x.subproblem) h.0 h.1) b.open_ones
    (one-each (λ a. a ≡ o) (λ (a : Ticketed). IsOwn dp a.subproblem) b.open_ones one (each-back (λ (a : Ticketed). IsOwn dp a.subproblem) (full_slots b.slots) b.open_ones g.own)) in
    record { few = (let short = own.shorter in omega arith); cells = own-cells dp laws o.subproblem own }

-- Improve.

-- a value and a distance fit
pub reach-fits : (dp : Dp) → IsLawful dp → (settings : Settings) → AreSettings settings → (x : List ℕ) (value : ℤ) → IsSolutionWith dp x value → IsFar (value +ℤ settings.within)
reach-fits dp laws settings are x value worth =
    let size = value_of-size dp laws x worth.solution.prefix in
    let long = worth.solution.whole in
    let few = laws.sizes.vars in
    let is = worth.value in
    let least = are.distance.least in let most = are.distance.most in
    let low = size.low in let high = size.high in
    record { low = omega (arith, ints); high = omega (arith, ints) }

pub held-by : (dp : Dp) → IsLawful dp → (settings : Settings) → AreSettings settings → (held : Option Solution) → IncumbentHolds dp held → (value : ℤ) → value_held held ≡ Some value → IsFar (value +ℤ settings.within)
held-by dp laws settings are None h value is = absurd (cc)
held-by dp laws settings are (Some best) h value is = (let same : best.value ≡ value = cc in subst (λ v. IsFar (v +ℤ settings.within)) same (reach-fits dp laws settings are best.decisions best.value h))

pub held-fits : (dp : Dp) → IsLawful dp → (b : BoardState) → IsBoard dp b → (value : ℤ) → incumbent_value b ≡ Some value → IsFar (value +ℤ b.settings.within)
held-fits dp laws b g value is = held-by dp laws b.settings g.settings b.incumbent g.incumbent value is

pub held-value : (decisions : List ℕ) (value : Option ℤ) → value_held (best_of decisions value) ≡ value
held-value decisions None = refl
held-value decisions (Some value) = refl

-- that is the step
pub improve-step : (dp : Dp) (b : BoardState) (x : List ℕ) (value : ℤ) (os : List Ticketed) → IsBoard dp b → value ≡ value_of dp x → os ≡ (improved b (record { decisions = x; value = value })).open_ones
    → record b { incumbent = Some (record { decisions = x; value = value }); open_ones = os } ≡ after_offer dp Yes b x
improve-step dp b x value os g is left =
    ap (λ l. record b { incumbent = Some (record { decisions = x; value = value }); open_ones = l }) left ∙ ap (λ v. improved b (record { decisions = x; value = v })) is

-- the fields after a better solution
pub improve-kept : (dp : Dp) (made b : BoardState) (x : List ℕ) (value : ℤ) (os : List Ticketed) (fringe fringe2 : FringeView) (table : TableView) (room for_best for_best2 cells spare_cells : ℕ) → IsBoardInMemory dp made b fringe table room for_best cells spare_cells
    → IsSolutionWith dp x value → is_above (incumbent_value b) value ≡ true → os ≡ (improved b (record { decisions = x; value = value })).open_ones → fringe2.words ≡ fringe.words → fringe.spare ≤ fringe2.spare → for_best ≤ for_best2
    → IsBoardInMemory dp made (record b { incumbent = Some (record { decisions = x; value = value }); open_ones = os }) fringe2 table room for_best2 cells spare_cells
improve-kept dp made b x value os fringe fringe2 table room for_best for_best2 cells spare_cells k worth up left words spare more =
    let best : Solution = record { decisions = x; value = value } in
    let later = record b { incumbent = Some best; open_ones = os } in
    let fits = k.has_room.open_room in
    let step : improved b best ≡ later = ap (λ l. record b { incumbent = Some best; open_ones = l }) (sym left) in
    kept-by dp made b later fringe fringe2 table table room room for_best for_best2 cells spare_cells k
    (subst (KeepsBoard dp b) step (improve-keeps dp b best worth up)) refl words refl refl (omega arith) k.has_room.table_room more

-- Finish.

pub contents-many : (held : List SubView) → length (contents held) ≡ length held
contents-many [] = refl
contents-many (h ∷ held) = let rest = contents-many held in omega arith

pub contents-each : (P : Subproblem → Type 0) (held : List SubView) → Each P (contents held) → Each (λ h. P h.subproblem) held
contents-each P [] h = tt
contents-each P (x ∷ held) h = (h.0, contents-each P held h.1)

-- rows of children have as many cells, and are states of their depth
pub children-cells : (dp : Dp) → IsLawful dp → (held : List SubView) (words : ℕ) → words ≡ dp.words → Each (IsOwn dp) (contents held) → Each (λ h. length h.subproblem.row ≡ words) held
children-cells dp laws held words same own =
    Each-then (λ (h : SubView). IsOwn dp h.subproblem) (λ h. length h.subproblem.row ≡ words) held (λ h x. own-cells dp laws h.subproblem x ∙ sym same) (contents-each (IsOwn dp) held own)

pub children-states : (dp : Dp) → IsLawful dp → (held : List SubView) → Each (IsOwn dp) (contents held) → Each (λ h. IsStateOf dp (length h.subproblem.decisions) h.subproblem.row) held
children-states dp laws held own =
    Each-then (λ (h : SubView). IsOwn dp h.subproblem) (λ h. IsStateOf dp (length h.subproblem.decisions) h.subproblem.row) held (λ h x. own-state dp laws h.subproblem x) (contents-each (IsOwn dp) held own)

pub entries-reached : (dp : Dp) (b : BoardState) → IsBoard dp b → Each (λ e. IsReached dp e.depth e.row e.rank) b.entries
entries-reached dp b g =
    Each-then (IsEntry dp b.next_ticket) (λ e. IsReached dp e.depth e.row e.rank) b.entries (λ e h. record { state = h.state; rank_is = h.rank }) g.entries

pub children-own : (dp : Dp) (p : List ℕ) (cs : List Subproblem) → Each (IsChild dp p) cs → Each (IsOwn dp) cs
children-own dp p cs h = Each-then (IsChild dp p) (IsOwn dp) cs (λ c x. x.own) h

threaded : (dp : Dp) (far : Option ℤ) (os : List Ticketed) (es : List TableEntry) (ticket : ℕ) (cs : List Subproblem) (fs : List Fate) → length fs ≡ length cs → FatesHold dp far os es ticket cs fs → AreThreaded ticket fs
threaded dp far os es ticket [] [] long h = tt
threaded dp far os es ticket [] (f ∷ fs) long h = absurd (omega arith)
threaded dp far os es ticket (c ∷ cs) [] long h = absurd h
threaded dp far os es ticket (c ∷ cs) (Below ∷ fs) long h = threaded dp far os es ticket cs fs (omega arith) h.1
threaded dp far os es ticket (c ∷ cs) (Kept by ∷ fs) long h = threaded dp far os es ticket cs fs (omega arith) h.1
threaded dp far os es ticket (c ∷ cs) (Dominated by ∷ fs) long h = threaded dp far os es ticket cs fs (omega arith) h.1
threaded dp far os es ticket (c ∷ cs) (Replaced own old ∷ fs) long h = (h.0.own_is, threaded dp far os es (ticket + 1) cs fs (omega arith) h.1)
threaded dp far os es ticket (c ∷ cs) (Entered own ∷ fs) long h = (h.0.own_is, threaded dp far os es (ticket + 1) cs fs (omega arith) h.1)

pub fates-threaded : (dp : Dp) (b : BoardState) (who : ℕ) (threshold : Option ℤ) (cs : List Subproblem) (fs : List Fate) → MayFinish dp b who threshold cs fs → AreThreaded b.next_ticket fs
fates-threaded dp b who threshold cs fs m =
    subst (AreThreaded b.next_ticket) (sym m.fates)
    (threaded dp (reach b) b.open_ones b.entries b.next_ticket cs (fates_on dp b cs) (fates-many (fate_of dp (reach b) b.open_ones b.entries) b.next_ticket cs) (fates-hold dp (reach b) b.open_ones b.entries b.next_ticket cs))

pub fates-long : (dp : Dp) (b : BoardState) (who : ℕ) (threshold : Option ℤ) (cs : List Subproblem) (fs : List Fate) → MayFinish dp b who threshold cs fs → length fs ≡ length cs
fates-long dp b who threshold cs fs m = ap length m.fates ∙ fates-many (fate_of dp (reach b) b.open_ones b.entries) b.next_ticket cs

abbrev pub done : BoardState → ℕ → List Ticketed → List TableEntry → ℕ → BoardState
done b who os es next = record b { open_ones = os; slots = set b.slots who None; entries = es; finished = b.finished + 1; next_ticket = next }

pub open-given : (dp : Dp) (b : BoardState) → IsBoard dp b → Each (λ o. o.ticket < b.next_ticket) b.open_ones
open-given dp b g = each-back (λ (o : Ticketed). o.ticket < b.next_ticket) (full_slots b.slots) b.open_ones g.tickets.given

-- that is the step
pub finish-step : (dp : Dp) (b : BoardState) (who : ℕ) (threshold : Option ℤ) (cs : List Subproblem) (fs : List Fate) (os : List Ticketed) (table table2 : TableView) (next : ℕ) → IsBoard dp b → MayFinish dp b who threshold cs fs
    → table.entries ≡ b.entries → table.limit ≡ b.settings.table_limit → os ≡ push_by cs fs b.open_ones → table2 ≡ put_each table (map (entry_of dp) (entering cs fs)) → next ≡ tickets_after b.next_ticket fs
    → done b who os table2.entries next ≡ finished_by dp b who cs
finish-step dp b who threshold cs fs os table table2 next g m same limit pushed noted is =
    let all = fates_on dp b cs in
    let new = entering cs all in
    let opened = without_all (replaced all) b.open_ones ++ new in
    let entries = put_all b.settings.table_limit b.entries (map (entry_of dp) new) in
    let open_is : os ≡ opened = pushed ∙ (ap (λ f. push_by cs f b.open_ones) m.fates
    ∙ pushes-are-fates dp (reach b) b.open_ones b.entries b.next_ticket cs g.ordered (open-given dp b g) m.children.differ) in
    let puts = ap (λ f. put_each table (map (entry_of dp) (entering cs f))) m.fates in
    let entries_is : table2.entries ≡ entries = ap (λ (t : TableView). t.entries) (noted ∙ puts)
    ∙ (puts-are-entries table (map (entry_of dp) new)
    ∙ (ap (λ n. put_all n table.entries (map (entry_of dp) new)) limit ∙ ap (λ l. put_all b.settings.table_limit l (map (entry_of dp) new)) same)) in
    let next_is : next ≡ tickets_after b.next_ticket all = is ∙ ap (tickets_after b.next_ticket) m.fates in
    ap (λ l. done b who l table2.entries next) open_is ∙ (ap (λ l. done b who opened l next) entries_is ∙ ap (done b who opened entries) next_is)

children-few : (dp : Dp) (b : BoardState) (cs : List Subproblem) → length (entering cs (fates_on dp b cs)) ≤ length cs
children-few dp b cs = (kids-hold dp (reach b) b.open_ones b.entries b.next_ticket cs (fates_on dp b cs) (fates-many (fate_of dp (reach b) b.open_ones b.entries) b.next_ticket cs) (fates-hold dp (reach b) b.open_ones b.entries b.next_ticket cs)).few

slot-less : (b : BoardState) (who : ℕ) (o : Ticketed) → slot_at b who ≡ Some o → length (full_slots b.slots) ≡ length (full_slots (set b.slots who None)) + 1
slot-less b who o full = length-with o (full_slots (set b.slots who None)) (full_slots b.slots) (emptied b.slots who o (slot-full (slice_get b.slots who) o full))

pub finish-kept : (dp : Dp) → IsLawful dp → (made b : BoardState) (who : ℕ) (threshold : Option ℤ) (cs : List Subproblem) (fs : List Fate) (fringe fringe2 : FringeView) (table table2 : TableView) (next room room2 for_best cells spare_cells : ℕ)
    → IsBoardInMemory dp made b fringe table room for_best cells spare_cells → MayFinish dp b who threshold cs fs
    → table.entries ≡ b.entries → fringe2.open_ones ≡ push_by cs fs b.open_ones → table2 ≡ put_each table (map (entry_of dp) (entering cs fs)) → next ≡ tickets_after b.next_ticket fs
    → fringe2.words ≡ fringe.words → fringe.spare ≤ fringe2.spare + length cs → room2 + length cs ≤ room
    → IsBoardInMemory dp made (done b who fringe2.open_ones table2.entries next) fringe2 table2 room2 for_best cells spare_cells
finish-kept dp laws made b who threshold cs fs fringe fringe2 table table2 next room room2 for_best cells spare_cells k m same pushed noted is words spare fewer =
    let step = finish-step dp b who threshold cs fs fringe2.open_ones table table2 next k.board m same k.has_room.limit pushed noted is in
    let less = slot-less b who m.parent m.full in
    let fits = k.has_room.open_room in
    let new = map (entry_of dp) (entering cs (fates_on dp b cs)) in
    let few = children-few dp b cs in
    let many : length new ≡ length (entering cs (fates_on dp b cs)) = length-map (entering cs (fates_on dp b cs)) (entry_of dp) in
    let most : length table.entries ≤ table.limit = (let limited = k.board.limited in let limit = k.has_room.limit in let long = ap length same in omega arith) in
    let puts : table2 ≡ put_each table new = noted ∙ ap (λ f. put_each table (map (entry_of dp) (entering cs f))) m.fates in
    let kept = puts_keep table new most in
    kept-by dp made b (done b who fringe2.open_ones table2.entries next) fringe fringe2 table table2 room room2 for_best for_best cells spare_cells k
    (subst (KeepsBoard dp b) (sym step) (finish-keeps dp laws b who threshold cs fs m)) refl words
    (ap (λ (t : TableView). t.words) puts ∙ kept.words) (ap (λ (t : TableView). t.limit) puts ∙ kept.limit) (omega arith)
    (subst (HasRows room2) (sym puts) (kept.rows room2 (rows_fewer (room2 + length new) room table (omega arith) k.has_room.table_room))) (omega arith)

-- tickets stay far below the greatest, one more finished is no more than were taken, and there is room for the children
pub record Fits (b : BoardState) (n : ℕ) : Type 0 where
  pub tickets : b.next_ticket + n < 2 ^ 64
  pub finished : b.finished + 1 ≤ b.taken

pub full-fits : (dp : Dp) (b : BoardState) (n : ℕ) → IsBoard dp b → 1 ≤ length (full_slots b.slots) → n ≤ MOST_WIDTH → Fits b n
full-fits dp b n g some few =
    let room = g.room some in
    let out = g.out in
    record { tickets = omega arith; finished = omega arith }

pub finish-fits : (dp : Dp) (b : BoardState) (who : ℕ) (threshold : Option ℤ) (cs : List Subproblem) (fs : List Fate) → IsBoard dp b → MayFinish dp b who threshold cs fs → Fits b (length cs)
finish-fits dp b who threshold cs fs g m =
    let less = slot-less b who m.parent m.full in
    full-fits dp b (length cs) g (omega arith) m.children.few

-- GiveBack.

slot-within : (slots : List (Option Ticketed)) (who : ℕ) → IsSome (slot_content (slice_get slots who)) → who < length slots
slot-within [] who h = absurd (cc)
slot-within (slot ∷ slots) zero h = omega arith
slot-within (slot ∷ slots) (suc who) h = let rest = slot-within slots who h in omega arith

-- what stands in the worker's slot
pub back-at : (slots : List (Option Ticketed)) (who : ℕ) (x : Option Ticketed) (one : Ticketed) → IsSome (slot_content (slice_get slots who)) → x ≡ get_or slots who x → x ≡ Some one → slice_get slots who ≡ Some (Some one)
back-at slots who x one full is some = slice_get_read slots (length slots) who x refl (slot-within slots who full) is ∙ ap (λ y. Some y) some

abbrev pub back : BoardState → ℕ → List Ticketed → BoardState
back b who os = record b { open_ones = os; slots = set b.slots who None }

-- that is the step
pub back-step : (b : BoardState) (who : ℕ) (o : Ticketed) (os : List Ticketed) → slice_get b.slots who ≡ Some (Some o) → os ≡ back_among (reach b) o b.open_ones → back b who os ≡ given_back b who
back-step b who o os at put =
    let slot : slot_at b who ≡ Some o = ap slot_content at in
    ap (back b who) put ∙ ap (given_back_from b who) (sym slot)

-- what the fringe asks of a subproblem that goes back
pub record GoesBack (dp : Dp) (b : BoardState) (o : Ticketed) (spare : ℕ) : Type 0 where
  pub room : 0 < spare
  pub cells : length o.subproblem.row ≡ dp.words
  pub new : Each (λ x. x.ticket ≢ o.ticket) b.open_ones

pub goes-back : (dp : Dp) → IsLawful dp → (made b : BoardState) (who : ℕ) (o : Ticketed) (fringe : FringeView) (table : TableView) (room for_best cells spare_cells : ℕ) → IsBoardInMemory dp made b fringe table room for_best cells spare_cells
    → slice_get b.slots who ≡ Some (Some o) → GoesBack dp b o fringe.spare
goes-back dp laws made b who o fringe table room for_best cells spare_cells k at =
    let rest = full_slots (set b.slots who None) in
    let empty = emptied b.slots who o at in
    let out = with-right o rest (full_slots b.slots) b.open_ones empty in
    let less = length-with o rest (full_slots b.slots) empty in
    let own = (each-out (λ (x : Ticketed). IsOwn dp x.subproblem) o (rest ++ b.open_ones) (frontier b) out k.board.own).0 in
    let differ = (two-out (λ (x y : Ticketed). x.ticket ≢ y.ticket) tickets-flip o (rest ++ b.open_ones) (frontier b) out k.board.tickets.distinct).0 in
    let fits = k.has_room.open_room in
    record {
      room = omega arith;
      cells = own-cells dp laws o.subproblem own;
      new = Each-then (λ (x : Ticketed). o.ticket ≢ x.ticket) (λ x. x.ticket ≢ o.ticket) b.open_ones (λ x h. tickets-flip o x h) (each-back (λ (x : Ticketed). o.ticket ≢ x.ticket) rest b.open_ones differ);
    }

pub back-kept : (dp : Dp) → IsLawful dp → (made b : BoardState) (who : ℕ) (o : Ticketed) (fringe fringe2 : FringeView) (table : TableView) (room for_best cells spare_cells : ℕ) → IsBoardInMemory dp made b fringe table room for_best cells spare_cells
    → slice_get b.slots who ≡ Some (Some o) → IsTrue (is_some b.cause) → fringe2.open_ones ≡ back_among (reach b) o b.open_ones → fringe2.words ≡ fringe.words → fringe.spare ≤ fringe2.spare + 1
    → IsBoardInMemory dp made (back b who fringe2.open_ones) fringe2 table room for_best cells spare_cells
back-kept dp laws made b who o fringe fringe2 table room for_best cells spare_cells k at held put words spare =
    let step = back-step b who o fringe2.open_ones at put in
    let less = length-with o (full_slots (set b.slots who None)) (full_slots b.slots) (emptied b.slots who o at) in
    let fits = k.has_room.open_room in
    let keeps : KeepsBoard dp b (given_back b who) = (let h = give-back-keeps dp laws in record { board = h.board b who; good = λ {starts}. h.good b who held }) in
    kept-by dp made b (back b who fringe2.open_ones) fringe fringe2 table table room room for_best for_best cells spare_cells k
    (subst (KeepsBoard dp b) (sym step) keeps) refl words refl refl (omega arith) k.has_room.table_room (omega arith)

-- A board of which nothing is out.

abbrev pub unused : Option Solution → List Ticketed → List (Option Ticketed) → List TableEntry → Settings → ℕ → BoardState
unused incumbent os slots es settings next = record {
  incumbent = incumbent;
  open_ones = os;
  slots = slots;
  entries = es;
  settings = settings;
  taken = 0;
  finished = 0;
  next_ticket = next;
  cause = None;
}

-- that is such a board
pub fresh-step : (best : Option Solution) (os : List Ticketed) (slots : List (Option Ticketed)) (es : List TableEntry) (settings : Settings) (next : ℕ) → slots ≡ empty_slots settings.workers → es ≡ []
    → unused best os slots es settings next ≡ fresh_board settings best os next
fresh-step best os slots es settings next slots_is es_is =
    ap (λ x. unused best os x es settings next) slots_is ∙ ap (λ x. unused best os (empty_slots settings.workers) x settings next) es_is

pub fresh-kept : (dp : Dp) (made b : BoardState) (settings : Settings) (fringe : FringeView) (table : TableView) (for_best cells spare_cells : ℕ) → IsBoard dp made → b ≡ made → made.settings ≡ settings
    → length (full_slots made.slots) ≡ 0 → fringe.words ≡ dp.words → table ≡ record { entries = []; words = dp.words; limit = settings.table_limit; spare = 0 } → dp.vars ≤ for_best → cells ≡ dp.words → spare_cells ≡ dp.words
    → IsBoardInMemory dp made b fringe table 0 for_best cells spare_cells
fresh-kept dp made b settings fringe table for_best cells spare_cells g is settings_is none words table_is best row spare =
    let out : length (full_slots b.slots) ≡ 0 = ap (λ (x : BoardState). length (full_slots x.slots)) is ∙ none in
    record {
      board = subst (IsBoard dp) (sym is) g;
      good = subst (IsGood dp) (sym is);
      has_room = record {
        fringe_words = words;
        table_words = ap (λ (t : TableView). t.words) table_is;
        limit = ap (λ (t : TableView). t.limit) table_is ∙ ap (λ (x : Settings). x.table_limit) (sym (ap (λ (x : BoardState). x.settings) is ∙ settings_is));
        open_room = omega arith;
        table_room = inl (omega arith);
      };
      buffers = record { best = best; row = row; spare = spare };
    }

-- Slots.

-- what was written there is what the worker has out
pub slot-set : (slots : List (Option Ticketed)) (who : ℕ) (o : Ticketed) → who < length slots → slot_content (slice_get (set slots who (Some o)) who) ≡ Some o
slot-set [] who o h = absurd (omega arith)
slot-set (slot ∷ slots) zero o h = refl
slot-set (slot ∷ slots) (suc who) o h = slot-set slots who o (omega arith)
