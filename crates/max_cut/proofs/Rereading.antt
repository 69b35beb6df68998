-- The canonical text reads as the graph.
use Rattle.std.proofs.Common.{◌≡◌, ℕ, zero, suc, ◌+◌, ◌-◌, ◌^◌, ◌<◌, ◌≤◌, ℤ, pos, negsuc, ◌+ℤ◌, ◌≤ℤ◌, List, [], ◌∷◌, ◌++◌, length, get_or, set, take, Bool, true, false, cond, eqb, arith, ap, ◌∙◌, sym, refl, subst, zero-add, append_assoc, append-nil}
use Rattle.std.specs.Prelude.{nat_abs, int_le, Ok}
use Rattle.std.specs.List.{All}
use Rattle.std.proofs.lemmas.Int.{ints, clamps}
use Rattle.std.proofs.lemmas.Bool.{lt-ltb}
use Rattle.std.proofs.lemmas.Bool.Decides.{nat_tests}
use Rattle.std.proofs.lemmas.List.{length-append, length-take-le, get_or_at, set_at, take-append-drop}
use Rattle.std.proofs.Math.Seq.{take-add}
use Rattle.std.proofs.lemmas.List.Elements.{All-take, All-drop, All-head, All-tail}
use Rattle.benefit_rows.specs.Benefits.{size_of}
use Rattle.dp_model.specs.NumberLaws.{int_le-from}
use Rattle.tokens.specs.Text.{TextState, text_start, number_at, place_of, after_token}
use Rattle.tokens.specs.declared.comment.Comment.{Comment}
use Rattle.tokens.specs.declared.place.Place.{Place}
use Rattle.tokens.specs.Chain.{until, never, times}
use Rattle.tokens.specs.Decimal.{decimal_of}
use Rattle.tokens.specs.Printed.{IsBefore}
use Rattle.tokens.proofs.Printing.{before_start, passes_number, passes_natural, finishes}
use Rattle.pair_rows.specs.Pairs.{pair_count, entries_before}
use Rattle.max_cut.specs.Graph.{Graph, IsGraph, IsWeight, row_of, weights_from}
use Rattle.pair_rows.specs.Laws.Pairs.{pair_count-most}
use Rattle.max_cut.specs.Laws.Graph.{entries_before-next, row_within, length-row_of, weights_from-split, weights_from-none}
use Rattle.max_cut.specs.Program.{zeros}
use Rattle.max_cut.specs.Edges.{vertex_from, vertex_at, place_among, with_edge, made_before, edge_at, instance_at}
use Rattle.max_cut.specs.EdgeLines.{is_none, edges_in, edge_line, row_lines, lines_from, text_of}

-- a vertex is read
vertex_read : (n i : ℕ) (s : TextState) → number_at (pos 1) (pos n) s ≡ Ok (pos (i + 1)) → vertex_at n s ≡ Ok (i, after_token s)
unfolding vertex_at
vertex_read n i s e =
    let back : i + 1 - 1 ≡ i = omega arith in
    ap (vertex_from (after_token s)) e ∙ ap (λ v. Ok (v, after_token s)) back

-- a weight is a number that a text may have
pub record IsWritten (w : ℤ) : Type 0 where
  pub size : nat_abs w ≤ 500000000
  pub low : negsuc 499999999 ≤ℤ w
  pub high : w ≤ℤ pos 500000000

pub written : (w : ℤ) → IsWeight w → IsWritten w
written (pos n) h = record { size = omega (arith, ints, clamps); low = omega (arith, ints, clamps); high = omega (arith, ints, clamps) }
written (negsuc n) h = record { size = omega (arith, ints, clamps); low = omega (arith, ints, clamps); high = omega (arith, ints, clamps) }

edge_before : (i j : ℕ) (w : ℤ) (more : List ℕ) → edge_line i j w ++ more ≡ decimal_of (pos (i + 1)) ++ 32 ∷ (decimal_of (pos (j + 1)) ++ 32 ∷ (decimal_of w ++ 10 ∷ more))
edge_before i j w more = simp append_assoc

-- the line of an edge is read as that edge
record ReadsEdge (n : ℕ) (totals : List ℤ) (i j : ℕ) (w : ℤ) (more : List ℕ) (s : TextState) : Type 0 where
  place : Place
  following : TextState
  before : IsBefore more following
  is : edge_at n totals s ≡ made_before following (with_edge n totals i j w place)

reads_edge : (n : ℕ) (totals : List ℤ) (i j : ℕ) (w : ℤ) (more : List ℕ) (s : TextState) → n ≤ 1024 → i < n → j < n → IsWeight w
    → IsBefore (edge_line i j w ++ more) s → ReadsEdge n totals i j w more s
unfolding edge_at
reads_edge n totals i j w more s few first second weight before =
    let write = written w weight in
    let one = passes_natural (i + 1) 1 n 32 _ s (omega arith) (omega arith) (omega arith) refl (subst (λ bytes. IsBefore bytes s) (edge_before i j w more) before) in
    let t = after_token s in
    let two = passes_natural (j + 1) 1 n 32 _ t (omega arith) (omega arith) (omega arith) refl one.before in
    let u = after_token t in
    let three = passes_number w (negsuc 499999999) (pos 500000000) 10 more u (omega (arith, write.size)) write.low write.high refl two.before in
    let at_i = vertex_read n i s one.value in
    let at_j = vertex_read n j t two.value in
    record {
      place = place_of u;
      following = after_token u;
      before = three.before;
      is = rw (at_i, at_j, three.value) refl;
    }

is_none-true : (w : ℤ) → is_none w ≡ true → w ≡ pos 0
is_none-true w h = grind (arith, ints)

-- the first weight of a pair takes the place of a zero
first_weight : (n : ℕ) (done : List ℤ) (m i j : ℕ) (w : ℤ) (place : Place) → i < j → length done ≡ entries_before n i + (j - (i + 1)) → IsWeight w
    → with_edge n (done ++ pos 0 ∷ zeros m) i j w place ≡ Ok ((done ++ w ∷ []) ++ zeros m)
unfolding with_edge
first_weight n done m i j w place below at weight =
    let here : place_among n i j ≡ length done = rw (lt-ltb i j below) (sym at) in
    let old : get_or (done ++ pos 0 ∷ zeros m) (place_among n i j) (pos 0) +ℤ w ≡ w = ap (λ p. get_or (done ++ pos 0 ∷ zeros m) p (pos 0) +ℤ w) here ∙ (ap (λ z. z +ℤ w) (get_or_at done (pos 0) (zeros m) (pos 0) (length done) refl) ∙ omega (arith, ints)) in
    let small : int_le (size_of (get_or (done ++ pos 0 ∷ zeros m) (place_among n i j) (pos 0) +ℤ w)) (pos 500000000) ≡ true = ap (λ z. int_le (size_of z) (pos 500000000)) old ∙ int_le-from (size_of w) (pos 500000000) weight in
    let new : set (done ++ pos 0 ∷ zeros m) (place_among n i j) (get_or (done ++ pos 0 ∷ zeros m) (place_among n i j) (pos 0) +ℤ w) ≡ (done ++ w ∷ []) ++ zeros m =
    ap (λ p. set (done ++ pos 0 ∷ zeros m) p (get_or (done ++ pos 0 ∷ zeros m) (place_among n i j) (pos 0) +ℤ w)) here
    ∙ (ap (set (done ++ pos 0 ∷ zeros m) (length done)) old ∙ (set_at done (pos 0) (zeros m) w (length done) refl ∙ sym (append_assoc done (w ∷ []) (zeros m)))) in
    let apart : eqb i j ≡ false = grind (arith, nat_tests) in
    rw (apart, small) (ap Ok new)

-- what is read from here gives what is read from there
record Goes (n m : ℕ) (totals : List ℤ) (s : TextState) (left : ℕ) (more_totals : List ℤ) (more : List ℕ) : Type 0 where
  following : TextState
  before : IsBefore more following
  is : times (edge_at n) m totals s ≡ times (edge_at n) left more_totals following

-- one edge more is read
times_edge : (n m : ℕ) (totals more : List ℤ) (s t : TextState) → edge_at n totals s ≡ Ok (more, t) → times (edge_at n) (suc m) totals s ≡ times (edge_at n) m more t
unfolding times until
times_edge n m totals more s t e = rw e refl

-- a pair without an edge has no line, and an edge is read from its line
reads_pair : (n : ℕ) (done : List ℤ) (i j : ℕ) (w : ℤ) (m left : ℕ) (more : List ℕ) (s : TextState) (b : Bool) → is_none w ≡ b → n ≤ 1024 → i < j → j < n → IsWeight w
    → length done ≡ entries_before n i + (j - (i + 1)) → IsBefore (cond b [] (edge_line i j w) ++ more) s
    → Goes n (cond b 0 1 + left) (done ++ pos 0 ∷ zeros m) s left ((done ++ w ∷ []) ++ zeros m) more
reads_pair n done i j w m left more s true none few below short weight at before =
    let same : done ++ pos 0 ∷ zeros m ≡ (done ++ w ∷ []) ++ zeros m = ap (λ z. done ++ z ∷ zeros m) (sym (is_none-true w none)) ∙ sym (append_assoc done (w ∷ []) (zeros m)) in
    record {
      following = s;
      before = before;
      is = ap (λ k. times (edge_at n) k (done ++ pos 0 ∷ zeros m) s) (zero-add left) ∙ ap (λ ds. times (edge_at n) left ds s) same;
    }
reads_pair n done i j w m left more s false some few below short weight at before =
    let read = reads_edge n (done ++ pos 0 ∷ zeros m) i j w more s few (omega arith) short weight before in
    let one : 1 + left ≡ suc left = omega arith in
    let edge : edge_at n (done ++ pos 0 ∷ zeros m) s ≡ Ok ((done ++ w ∷ []) ++ zeros m, read.following) = read.is ∙ ap (made_before read.following) (first_weight n done m i j w read.place below at weight) in
    record {
      following = read.following;
      before = read.before;
      is = ap (λ k. times (edge_at n) k (done ++ pos 0 ∷ zeros m) s) one ∙ times_edge n left (done ++ pos 0 ∷ zeros m) ((done ++ w ∷ []) ++ zeros m) s read.following edge;
    }

-- the lines of a row are read as its weights, in the place of as many zeros
reads_row : (n : ℕ) (done : List ℤ) (i j : ℕ) (ws : List ℤ) (r m : ℕ) (more : List ℕ) (s : TextState) → n ≤ 1024 → i < j → j + length ws ≤ n → All IsWeight ws
    → length done ≡ entries_before n i + (j - (i + 1)) → IsBefore (row_lines i j ws ++ more) s
    → Goes n (edges_in ws + m) (done ++ zeros (length ws + r)) s m ((done ++ ws) ++ zeros r) more
reads_row n done i j [] r m more s few below short small at before = record {
  following = s;
  before = before;
  is = ap (λ k. times (edge_at n) k (done ++ zeros (0 + r)) s) (zero-add m) ∙ (ap (λ k. times (edge_at n) m (done ++ zeros k) s) (zero-add r) ∙ ap (λ ds. times (edge_at n) m (ds ++ zeros r) s) (sym (append-nil done)));
}
reads_row n done i j (w ∷ ws) r m more s few below short small at before =
    let joined : row_lines i j (w ∷ ws) ++ more ≡ cond (is_none w) [] (edge_line i j w) ++ (row_lines i (j + 1) ws ++ more) = append_assoc (cond (is_none w) [] (edge_line i j w)) (row_lines i (j + 1) ws) more in
    let counted : edges_in (w ∷ ws) + m ≡ cond (is_none w) 0 1 + (edges_in ws + m) = omega arith in
    let grown : suc (length ws) + r ≡ suc (length ws + r) = omega arith in
    let first = reads_pair n done i j w (length ws + r) (edges_in ws + m) (row_lines i (j + 1) ws ++ more) s (is_none w) refl few below (omega arith) (All-head IsWeight w ws small) at (subst (λ bytes. IsBefore bytes s) joined before) in
    let longer : length (done ++ w ∷ []) ≡ entries_before n i + (j + 1 - (i + 1)) = omega (arith, length-append done (w ∷ [])) in
    let rest = reads_row n (done ++ w ∷ []) i (j + 1) ws r m more first.following few (omega arith) (omega arith) (All-tail IsWeight w ws small) longer first.before in
    record {
      following = rest.following;
      before = rest.before;
      is =
          ap (λ k. times (edge_at n) k (done ++ zeros (suc (length ws) + r)) s) counted
          ∙ (ap (λ k. times (edge_at n) (cond (is_none w) 0 1 + (edges_in ws + m)) (done ++ zeros k) s) grown
          ∙ (first.is ∙ (rest.is ∙ ap (λ ds. times (edge_at n) m (ds ++ zeros r) rest.following) (append_assoc done (w ∷ []) ws))));
    }

edges_in-append : (ws more : List ℤ) → edges_in (ws ++ more) ≡ edges_in ws + edges_in more
edges_in-append [] more = sym (zero-add (edges_in more))
edges_in-append (w ∷ ws) more = omega (arith, edges_in-append ws more)

most_of_pair : (b : Bool) (some all : ℕ) → some ≤ all → cond b 0 1 + some ≤ suc all
most_of_pair true some all h = omega arith
most_of_pair false some all h = omega arith

pub edges_in-most : (ws : List ℤ) → edges_in ws ≤ length ws
edges_in-most [] = omega arith
edges_in-most (w ∷ ws) = most_of_pair (is_none w) (edges_in ws) (length ws) (edges_in-most ws)

-- all lines from a vertex on are read
record ReadsAll (g : Graph) (k : ℕ) (s : TextState) (more : List ℕ) : Type 0 where
  following : TextState
  before : IsBefore more following
  is : times (edge_at g.vertices) (edges_in (weights_from g k)) (take (entries_before g.vertices k) g.weights ++ zeros (length (weights_from g k))) s ≡ Ok (g.weights, following)

reads_none : (g : Graph) (k : ℕ) (s : TextState) → weights_from g k ≡ [] → times (edge_at g.vertices) (edges_in (weights_from g k)) (take (entries_before g.vertices k) g.weights ++ zeros (length (weights_from g k))) s ≡ Ok (g.weights, s)
unfolding times until
reads_none g k s none =
    let whole : take (entries_before g.vertices k) g.weights ++ [] ≡ g.weights = ap (λ ws. take (entries_before g.vertices k) g.weights ++ ws) (sym none) ∙ take-append-drop (entries_before g.vertices k) g.weights in
    ap (λ ws. times (edge_at g.vertices) (edges_in ws) (take (entries_before g.vertices k) g.weights ++ zeros (length ws)) s) none ∙ ap (λ ws. Ok (ws, s)) whole

reads_rows : (g : Graph) → IsGraph g → (k m : ℕ) (more : List ℕ) (s : TextState) → k + m ≡ g.vertices → IsBefore (lines_from g k m ++ more) s → ReadsAll g k s more
reads_rows g h k zero more s whole before =
    let last : g.vertices ≡ k = omega arith in
    let none : weights_from g k ≡ [] = ap (weights_from g) (sym last) ∙ weights_from-none g h in
    record { following = s; before = before; is = reads_none g k s none }
reads_rows g h k (suc m) more s whole before =
    let n = g.vertices in
    let done = take (entries_before n k) g.weights in
    let row = row_of g k in
    let rest = weights_from g (k + 1) in
    let joined : lines_from g k (suc m) ++ more ≡ row_lines k (k + 1) row ++ (lines_from g (k + 1) m ++ more) = append_assoc (row_lines k (k + 1) row) (lines_from g (k + 1) m) more in
    let long : length row ≡ n - (k + 1) = length-row_of g h k (omega arith) in
    let within = row_within g h k (omega arith) in
    let placed : length done ≡ entries_before n k = length-take-le (entries_before n k) g.weights (omega arith) in
    let few = h.few in
    let first = reads_row n done k (k + 1) row (length rest) (edges_in rest) (lines_from g (k + 1) m ++ more) s few (omega arith) (omega arith) (All-take IsWeight (n - (k + 1)) (weights_from g k) (All-drop IsWeight (entries_before n k) g.weights h.small)) (omega arith) (subst (λ bytes. IsBefore bytes s) joined before) in
    let later = reads_rows g h (k + 1) m more first.following (omega arith) first.before in
    let split = weights_from-split g k in
    let edges : edges_in (weights_from g k) ≡ edges_in row + edges_in rest = ap edges_in (sym split) ∙ edges_in-append row rest in
    let lengths : length (weights_from g k) ≡ length row + length rest = ap length (sym split) ∙ length-append row rest in
    let next : done ++ row ≡ take (entries_before n (k + 1)) g.weights = sym (take-add (entries_before n k) (n - (k + 1)) g.weights) ∙ ap (λ at. take at g.weights) (sym (entries_before-next n k)) in
    record {
      following = later.following;
      before = later.before;
      is =
          ap (λ e. times (edge_at n) e (done ++ zeros (length (weights_from g k))) s) edges
          ∙ (ap (λ z. times (edge_at n) (edges_in row + edges_in rest) (done ++ zeros z) s) lengths
          ∙ (first.is ∙ (ap (λ ds. times (edge_at n) (edges_in rest) (ds ++ zeros (length rest)) first.following) next ∙ later.is)));
    }

text_before : (g : Graph) → text_of g ≡ decimal_of (pos g.vertices) ++ 32 ∷ (decimal_of (pos (edges_in g.weights)) ++ 10 ∷ lines_from g 0 g.vertices)
text_before g = simp append_assoc

-- the canonical text of a graph reads as the graph
pub reads_back : (g : Graph) → IsGraph g → (comment : Comment) → instance_at (text_start comment (text_of g)) ≡ Ok g
unfolding instance_at
reads_back g h comment =
    let n = g.vertices in
    let few = h.few in
    let edges = edges_in g.weights in
    let many : edges ≤ 2 ^ 20 = omega (arith, edges_in-most g.weights, pair_count-most n h.few, h.whole) in
    let s = text_start comment (text_of g) in
    let lines = lines_from g 0 n in
    let one = passes_natural n 0 1024 32 _ s (omega arith) few (omega arith) refl (subst (λ bytes. IsBefore bytes s) (text_before g) (before_start comment (text_of g))) in
    let t = after_token s in
    let two = passes_natural edges 0 (2 ^ 20) 10 lines t (omega arith) many (omega arith) refl one.before in
    let u = after_token t in
    let all = reads_rows g h 0 n [] u (omega arith) (subst (λ bytes. IsBefore bytes u) (sym (append-nil lines)) two.before) in
    let zeros_all : zeros (pair_count n) ≡ zeros (length g.weights) = ap zeros (sym h.whole) in
    let read : times (edge_at n) edges (zeros (pair_count n)) u ≡ Ok (g.weights, all.following) = ap (λ zs. times (edge_at n) edges zs u) zeros_all ∙ all.is in
    let ends = finishes all.following all.before in
    rw (one.value, two.value, read, ends) refl
