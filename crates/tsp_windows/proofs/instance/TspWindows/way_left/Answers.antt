use Rattle.std.proofs.Common.{length, get_or, sym, ap, ◌∙◌, arith}
use Rattle.std.proofs.lemmas.Int.{ints}
use Rattle.std.proofs.lemmas.List.{get_or_read}
use Rattle.node_sets.specs.Sets.{words_for}
use Rattle.node_sets.proofs.Below.{count_below-le}
use Rattle.tsp_windows.specs.States.{shown}
use Rattle.tsp_windows.specs.Shown.{instance_in}
use Rattle.tsp_windows.specs.Laws.Limits.{is_small-gives}
use Rattle.tsp_windows.specs.Instance.{Window, no_window}
use Rattle.tsp_windows.proofs.Late.{too_late-gives}
use Rattle.pending_rows.specs.Pending.{Pending, must_of}
use Rattle.pending_rows.proofs.Tests.{read_count}
use Rattle.tsp_windows.proofs.Lost.{times_shown, lost_many, lost_late, left_is}
use Rattle.tsp_windows.proofs.instance.TspWindows.way_left.Goals as goal

pub counted-wanted-requires : goal.counted-wanted-requires
counted-wanted-requires c =
    let read = read_count c.args.rank c.args.self.now.nodes (shown (words_for c.args.self.now.nodes) c.args.s.now).pending.must c.requires.rank (omega (arith, c.args.self.now.few)) in
    omega (arith, ints, read)

pub overflow_add-wanted : goal.overflow_add-wanted
overflow_add-wanted c =
    let few = count_below-le c.args.self.now.nodes (shown (words_for c.args.self.now.nodes) c.args.s.now).pending.must in
    let is = c.counted-wanted.ensures _ (read_count c.args.rank c.args.self.now.nodes (shown (words_for c.args.self.now.nodes) c.args.s.now).pending.must c.requires.rank (omega (arith, c.args.self.now.few))) in
    record { fits = omega (arith, few, is, c.args.self.now.few) }

pub overflow_add-wanted-2 : goal.overflow_add-wanted-2
overflow_add-wanted-2 c =
    let few = count_below-le c.args.self.now.nodes (shown (words_for c.args.self.now.nodes) c.args.s.now).pending.must in
    let is = c.counted-wanted.ensures _ (read_count c.args.rank c.args.self.now.nodes (shown (words_for c.args.self.now.nodes) c.args.s.now).pending.must c.requires.rank (omega (arith, c.args.self.now.few))) in
    record { fits = omega (arith, few, is, c.args.self.now.few) }

pub returns-then-wanted-k-clause-lost : goal.returns-then-wanted-k-clause-lost
returns-then-wanted-k-clause-lost c =
    λ _. lost_many (instance_in c.args.self.now) c.args.k (shown (words_for c.args.self.now.nodes) c.args.s.now) c.counted-wanted.result
    (c.counted-wanted.ensures _ (read_count c.args.rank c.args.self.now.nodes (shown (words_for c.args.self.now.nodes) c.args.s.now).pending.must c.requires.rank (omega (arith, c.args.self.now.few)))) c.if-wanted-k.true

pub returns-in_err-ways-clause-lost : goal.returns-in_err-ways-clause-lost
returns-in_err-ways-clause-lost c =
    λ _. lost_late (instance_in c.args.self.now) c.args.k (shown (words_for c.args.self.now.nodes) c.args.s.now)
    (sym (times_shown (instance_in c.args.self.now) (words_for c.args.self.now.nodes) c.args.s.now c.parts_of-state.result.must.now (length c.deref.result.now) c.parts_of-state.result.time c.deref-2.result.now
    (ap length c.deref.ensures.value ∙ c.args.self.now.all_nearest) (λ v l. ap (λ xs. get_or xs v 0) c.deref-2.ensures.value ∙ too_late-gives (instance_in c.args.self.now) c.args.self.now.too_late.items c.args.self.now.late v l) (c.parts_of-state.ensures.must ∙ ap (must_of (words_for c.args.self.now.nodes)) c.pending_of.ensures.row) (c.parts_of-state.ensures.time ∙ ap (λ (p : Pending). p.time) c.pending_of.ensures.shown))
    ∙ c.in_err-ways.ensures.total)

pub returns-clause-left : goal.returns-clause-left
returns-clause-left c =
    let left = left_is (instance_in c.args.self.now) c.args.k (words_for c.args.self.now.nodes) c.args.s.now c.parts_of-state.result.must.now c.deref.result.now c.deref-2.result.now c.parts_of-state.result.time c.counted-wanted.result c.in_ok-ways.ways c.from-home.result c.index-2.result.now.closing
    (is_small-gives (instance_in c.args.self.now) c.args.self.now.small) (ap length c.deref.ensures.value ∙ c.args.self.now.all_nearest) (λ v l. ap (λ xs. get_or xs v 0) c.deref.ensures.value ∙ c.args.self.now.ways v l) (λ v l. ap (λ xs. get_or xs v 0) c.deref-2.ensures.value ∙ too_late-gives (instance_in c.args.self.now) c.args.self.now.too_late.items c.args.self.now.late v l)
    (c.parts_of-state.ensures.must ∙ ap (must_of (words_for c.args.self.now.nodes)) c.pending_of.ensures.row) (c.parts_of-state.ensures.time ∙ ap (λ (p : Pending). p.time) c.pending_of.ensures.shown)
    (c.counted-wanted.ensures _ (read_count c.args.rank c.args.self.now.nodes (shown (words_for c.args.self.now.nodes) c.args.s.now).pending.must c.requires.rank (omega (arith, c.args.self.now.few)))) c.if-wanted-k.false
    (c.from-home.ensures ∙ get_or_read c.args.self.now.nearest.items 0 _ (omega (arith, c.args.self.now.all_nearest, c.args.self.now.some)) c.index.ensures 0 ∙ sym (ap (λ xs. get_or xs 0 0) c.deref.ensures.value))
    (ap (λ (w : Window). w.closing) (get_or_read c.args.self.now.windows.items 0 _ (omega (arith, c.args.self.now.each_window, c.args.self.now.some)) c.index-2.ensures no_window))
    c.if-state-home.false c.in_ok-ways.ensures.total.0 c.in_ok-ways.ensures.total.1 in
    (left.found, left.left)
