use Rattle.std.proofs.Common.{ℕ, ◌+◌, ◌-◌, ◌<◌, List, length, get_or, sym, subst, ap, ap₂, ◌∙◌}
use Rattle.tsp_windows.specs.Instance.{Instance, Window, no_window, closing, least_way}
use Rattle.tsp_windows.proofs.Late.{too_late-from}
use Rattle.tsp_windows.specs.Laws.Limits.{is_small-gives, instance_of-numbers_of}
use Rattle.tsp_windows.proofs.reading.problem_of.Goals as goal

pub least_ways-requires-clause-few : goal.least_ways-requires-clause-few
least_ways-requires-clause-few c =
    let i : Instance = record { nodes = c.args.nodes; distances = c.args.distances.items; windows = c.args.windows.items } in
    (is_small-gives i c.requires).few

pub least_ways-requires-clause-square : goal.least_ways-requires-clause-square
least_ways-requires-clause-square c =
    let i : Instance = record { nodes = c.args.nodes; distances = c.args.distances.items; windows = c.args.windows.items } in
    ap length c.deref.ensures.value ∙ (is_small-gives i c.requires).square

pub moments_too_late-requires-clause-same : goal.moments_too_late-requires-clause-same
moments_too_late-requires-clause-same c =
    let i : Instance = record { nodes = c.args.nodes; distances = c.args.distances.items; windows = c.args.windows.items } in
    ap length c.deref-3.ensures.value ∙ (is_small-gives i c.requires).each_window ∙ sym (ap length c.deref-2.ensures.value ∙ c.in_ok-nearest.ensures.all)

pub moments_too_late-requires-clause-closes : goal.moments_too_late-requires-clause-closes
moments_too_late-requires-clause-closes c v =
    let i : Instance = record { nodes = c.args.nodes; distances = c.args.distances.items; windows = c.args.windows.items } in
    rw c.deref-3.ensures.value ((is_small-gives i c.requires).closes v)

pub invariant_of-result : goal.invariant_of-result
invariant_of-result c =
    let i : Instance = record { nodes = c.args.nodes; distances = c.args.distances.items; windows = c.args.windows.items } in
    let small = is_small-gives i c.requires in
    record {
      small = c.requires;
      spelled = instance_of-numbers_of i small.square;
      some = small.some;
      few = small.few;
      square = small.square;
      each_window = small.each_window;
      opens = small.opens;
      closes = small.closes;
      all_nearest = c.in_ok-nearest.ensures.all;
      ways = λ v l. c.in_ok-nearest.ensures.each v l ∙ ap (λ (ds : List ℕ). least_way c.args.nodes ds v) c.deref.ensures.value;
      all_too_late = c.in_ok-too_late.ensures.all ∙ ap length c.deref-2.ensures.value ∙ c.in_ok-nearest.ensures.all;
      late = too_late-from i _ (λ v l.
          c.in_ok-too_late.ensures.each v (subst (λ n. v < n) (sym (ap length c.deref-2.ensures.value ∙ c.in_ok-nearest.ensures.all)) l)
          ∙ ap₂ (λ (ws : List Window) (ns : List ℕ). ((get_or ws v no_window).closing + 1) - get_or ns v 0) c.deref-3.ensures.value c.deref-2.ensures.value
          ∙ ap (λ way. (closing i v + 1) - way) (c.in_ok-nearest.ensures.each v l ∙ ap (λ (ds : List ℕ). least_way c.args.nodes ds v) c.deref.ensures.value));
    }
