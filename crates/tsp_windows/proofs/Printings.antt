-- A printed instance is read as it was.
use Rattle.std.proofs.Common.{◌≡◌, ℕ, suc, ◌+◌, ◌*◌, ◌/◌, ◌%◌, ◌<◌, ◌≤◌, ℤ, pos, nat_abs, true, false, cond, nat_eq, List, [], ◌∷◌, ◌++◌, length, get_or, refl, sym, ap, ap₂, ◌∙◌, subst, arith, inl, inr, ◌⊎◌, append_assoc, fold}
use Rattle.std.specs.Prelude.{Result, Ok, Err}
use Rattle.std.specs.List.{flat_map}
use Rattle.std.proofs.lemmas.Bool.{eqb-true, cases_Bool, le-ltb}
use Rattle.std.proofs.lemmas.List.{get_or_at, length-append, append-nil}
use Rattle.std.proofs.lemmas.Nat.{div-add-mod'}
use Rattle.std.proofs.Math.Nat.{div-lt_iff_lt-mul}
use Rattle.tokens.specs.Text.{TextState, text_start, place_of, is_blank, after_token}
use Rattle.tokens.specs.declared.comment.Comment.TheVariants.{Hash}
use Rattle.tokens.specs.declared.instance_error.InstanceError.{InstanceError}
use Rattle.tokens.specs.declared.instance_error.InstanceFault.TheVariants as faults
use Rattle.tokens.specs.Decimal.{decimal_of}
use Rattle.tokens.specs.Grammar.{part_then, end_then, times}
use Rattle.tokens.specs.Printed.{IsBefore, ReadsPart}
use Rattle.tokens.proofs.Printing.{before_start, passes_natural, finishes}
use Rattle.tokens.proofs.Chains.{number_then_ok, end_then_ok}
use Rattle.tokens.proofs.Repeats.{fold_pushes, times_reads}
use Rattle.tsp_windows.specs.Instance.{Instance, Window, IsTourInstance, no_window}
use Rattle.tsp_windows.specs.Texts.{distance_at, window_at, nodes_at, spelled, separator, printed_distances, printed_window, printed_windows, printed}
use Rattle.tsp_windows.proofs.Readings.{closing_in, opening_in}

-- ---- the text

joined_text : (a d w : List ℕ) → ((([] ++ a) ++ 10 ∷ []) ++ d) ++ w ≡ a ++ 10 ∷ (d ++ w)
joined_text a d w = simp append_assoc

pub text_is : (i : Instance) (o0 o1 o2 o3 o4 : List ℕ) (z : ℤ) (ds : List ℕ) (ws : List Window) → o0 ≡ [] → o1 ≡ o0 ++ decimal_of z → z ≡ pos i.nodes → o2 ≡ o1 ++ 10 ∷ [] → o3 ≡ o2 ++ printed_distances i.nodes 0 ds → ds ≡ i.distances → o4 ≡ o3 ++ printed_windows ws → ws ≡ i.windows → o4 ≡ printed i
unfolding printed
text_is i o0 o1 o2 o3 o4 z ds ws e0 e1 ez e2 e3 ed e4 ew =
    e4 ∙ ap₂ (λ (o : List ℕ) (ws : List Window). o ++ printed_windows ws)
    (e3 ∙ ap₂ (λ (o ds : List ℕ). o ++ printed_distances i.nodes 0 ds) (e2 ∙ ap (λ o. o ++ 10 ∷ []) (e1 ∙ ap₂ (λ (o : List ℕ) (z : ℤ). o ++ decimal_of z) e0 ez)) ed) ew
    ∙ joined_text (decimal_of (pos i.nodes)) (printed_distances i.nodes 0 i.distances) (printed_windows i.windows)

-- ---- distances

print_marked : ℕ × ℕ → List ℕ
print_marked x = decimal_of (pos x.0) ++ x.1 ∷ []

marked : ℕ → ℕ → List ℕ → List (ℕ × ℕ)
marked n k [] = []
marked n k (d ∷ ds) = (d, separator n k) ∷ marked n (k + 1) ds

add_distance : List ℕ → ℕ × ℕ → List ℕ
add_distance made x = made ++ x.0 ∷ []

printed-marked : (n k : ℕ) (ds : List ℕ) → printed_distances n k ds ≡ flat_map print_marked (marked n k ds)
unfolding marked print_marked
printed-marked n k [] = refl
printed-marked n k (d ∷ ds) =
    ap (λ rest. decimal_of (pos d) ++ separator n k ∷ rest) (printed-marked n (k + 1) ds) ∙ sym (append_assoc (decimal_of (pos d)) (separator n k ∷ []) (flat_map print_marked (marked n (k + 1) ds)))

fold-marked : (n k : ℕ) (ds made : List ℕ) → fold add_distance made (marked n k ds) ≡ made ++ ds
unfolding marked add_distance
fold-marked n k [] made = sym (append-nil made)
fold-marked n k (d ∷ ds) made = fold-marked n (k + 1) ds (made ++ d ∷ []) ∙ append_assoc made (d ∷ []) ds

length-marked : (n k : ℕ) (ds : List ℕ) → length (marked n k ds) ≡ length ds
unfolding marked
length-marked n k [] = refl
length-marked n k (d ∷ ds) = ap suc (length-marked n (k + 1) ds)

record IsMarked (n : ℕ) (all made : List ℕ) (xs : List (ℕ × ℕ)) : Type 0 where
  rest : List ℕ
  is : xs ≡ marked n (length made) rest
  whole : all ≡ made ++ rest

blank_separator : (n k : ℕ) → is_blank (separator n k) ≡ true
blank_separator n k = elim (nat_eq ((k + 1) % n) 0) as (λ b. is_blank (cond b 10 32) ≡ true) [ true ↦ refl | false ↦ refl ]

-- a distance on the diagonal is 0
diagonal : (i : Instance) (k : ℕ) → IsTourInstance i → k < length i.distances → k / i.nodes ≡ k % i.nodes → get_or i.distances k 0 ≡ 0
diagonal i k small l e =
    let some = small.some in
    let row : k / i.nodes < i.nodes = (div-lt_iff_lt-mul some).1 (omega (arith, l, small.square)) in
    let place : k ≡ k / i.nodes * i.nodes + k / i.nodes = sym (div-add-mod' k i.nodes) ∙ ap (λ x. k / i.nodes * i.nodes + x) (sym e) in
    ap (λ j. get_or i.distances j 0) place ∙ small.home (k / i.nodes) row

distance-reads : (i : Instance) → IsTourInstance i → (d : ℕ) (rest made tail : List ℕ) (s : TextState) → i.distances ≡ made ++ d ∷ rest → IsBefore ((decimal_of (pos d) ++ separator i.nodes (length made) ∷ []) ++ tail) s → ReadsPart (distance_at i.nodes) made (made ++ d ∷ []) tail s
unfolding distance_at
distance-reads i small d rest made tail s whole before =
    let here : get_or i.distances (length made) 0 ≡ d = ap (λ xs. get_or xs (length made) 0) whole ∙ get_or_at made d rest 0 (length made) refl in
    let short = small.short (length made) in
    let long : length i.distances ≡ length made + suc (length rest) = ap length whole ∙ length-append made (d ∷ rest) in
    let read = passes_natural d 0 1000000000 (separator i.nodes (length made)) tail s (omega arith) (omega (arith, here, short)) (omega arith) (blank_separator i.nodes (length made))
    (subst (λ bytes. IsBefore bytes s) (append_assoc (decimal_of (pos d)) (separator i.nodes (length made) ∷ []) tail) before) in
    record {
      following = after_token s;
      read = number_then_ok (pos 0) (pos 1000000000) (pos d) s (λ z t. Ok (made ++ cond (nat_eq (length made / i.nodes) (length made % i.nodes)) 0 (nat_abs z) ∷ [], t)) (sym read.value)
          ∙ ap (λ x. Ok (made ++ x ∷ [], after_token s)) (kept (cases_Bool (nat_eq (length made / i.nodes) (length made % i.nodes))) here (omega (arith, long)));
      before = read.before;
      comment_is = read.comment_is;
    }
  where
    kept : (nat_eq (length made / i.nodes) (length made % i.nodes) ≡ true) ⊎ (nat_eq (length made / i.nodes) (length made % i.nodes) ≡ false) → get_or i.distances (length made) 0 ≡ d → length made < length i.distances → cond (nat_eq (length made / i.nodes) (length made % i.nodes)) 0 d ≡ d
    kept (inl e) here l = ap (λ b. cond b 0 d) e ∙ sym (diagonal i (length made) small l (eqb-true (length made / i.nodes) (length made % i.nodes) e)) ∙ here
    kept (inr e) here l = ap (λ b. cond b 0 d) e

each_distance : (i : Instance) → IsTourInstance i → (x : ℕ × ℕ) (xs : List (ℕ × ℕ)) (made tail : List ℕ) (s : TextState) → IsMarked i.nodes i.distances made (x ∷ xs) → s.comment ≡ Hash → IsBefore (print_marked x ++ tail) s → ReadsPart (distance_at i.nodes) made (add_distance made x) tail s × IsMarked i.nodes i.distances (add_distance made x) xs
unfolding marked print_marked add_distance
each_distance i small x xs made tail s held same before = go held.rest held.is held.whole
  where
    go : (rest : List ℕ) → x ∷ xs ≡ marked i.nodes (length made) rest → i.distances ≡ made ++ rest → ReadsPart (distance_at i.nodes) made (made ++ x.0 ∷ []) tail s × IsMarked i.nodes i.distances (made ++ x.0 ∷ []) xs
    go [] is whole = absurd (cc)
    go (d ∷ rest) is whole =
        let first : x ≡ (d, separator i.nodes (length made)) = cc in
        let following : xs ≡ marked i.nodes (length made + 1) rest = cc in
        let number : x.0 ≡ d = ap (λ (p : ℕ × ℕ). p.0) first in
        let moved : IsBefore ((decimal_of (pos d) ++ separator i.nodes (length made) ∷ []) ++ tail) s = subst (λ (p : ℕ × ℕ). IsBefore ((decimal_of (pos p.0) ++ p.1 ∷ []) ++ tail) s) first before in (
          subst (λ y. ReadsPart (distance_at i.nodes) made (made ++ y ∷ []) tail s) (sym number) (distance-reads i small d rest made tail s whole moved),
          record {
            rest = rest;
            is = following ∙ ap (λ k. marked i.nodes k rest) (sym (length-append made (x.0 ∷ [])));
            whole = whole ∙ sym (append_assoc made (d ∷ []) rest) ∙ ap (λ y. (made ++ y ∷ []) ++ rest) (sym number);
          },
        )

-- ---- windows

record IsOpen (w : Window) : Type 0 where
  opens : w.opening ≤ w.closing
  closes : w.closing ≤ 1000000000000

abbrev AreOpen : List Window → Type 0
AreOpen [] = Unit {0}
AreOpen (w ∷ ws) = IsOpen w × AreOpen ws

each_window : (w : Window) (ws made : List Window) (tail : List ℕ) (s : TextState) → AreOpen (w ∷ ws) → s.comment ≡ Hash → IsBefore (printed_window w ++ tail) s → ReadsPart window_at made (made ++ w ∷ []) tail s × AreOpen ws
unfolding window_at
each_window w ws made tail s held same before =
    let opens = held.0.opens in
    let closes = held.0.closes in
    let first = passes_natural w.opening 0 1000000000000 32 (decimal_of (pos w.closing) ++ 10 ∷ tail) s (omega arith) (omega arith) (omega arith) refl
    (subst (λ bytes. IsBefore bytes s) (regroup (decimal_of (pos w.opening)) (decimal_of (pos w.closing)) tail) before) in
    let second = passes_natural w.closing 0 1000000000000 10 tail (after_token s) (omega arith) (omega arith) (omega arith) refl first.before in (
      record {
        following = after_token (after_token s);
        read = number_then_ok (pos 0) (pos 1000000000000) (pos w.opening) s (opening_in made) (sym first.value)
            ∙ number_then_ok (pos 0) (pos 1000000000000) (pos w.closing) (after_token s) (closing_in made (pos w.opening) (after_token s)) (sym second.value)
            ∙ ap (λ b. cond {A = Result (List Window × TextState) InstanceError} b (Err (record { fault = faults.Window; place = place_of (after_token s) })) (Ok (made ++ w ∷ [], after_token (after_token s)))) (le-ltb w.closing w.opening opens);
        before = second.before;
        comment_is = second.comment_is ∙ first.comment_is;
      },
      held.1,
    )
  where
    regroup : (a b t : List ℕ) → (a ++ 32 ∷ (b ++ 10 ∷ [])) ++ t ≡ a ++ 32 ∷ (b ++ 10 ∷ t)
    regroup a b t = append_assoc a (32 ∷ (b ++ 10 ∷ [])) t ∙ ap (λ x. a ++ 32 ∷ x) (append_assoc b (10 ∷ []) t)

open_from : (ws : List Window) → ((v : ℕ) → (get_or ws v no_window).opening ≤ (get_or ws v no_window).closing) → ((v : ℕ) → (get_or ws v no_window).closing ≤ 1000000000000) → AreOpen ws
open_from [] h k = tt
open_from (w ∷ ws) h k = (record { opens = h 0; closes = k 0 }, open_from ws (λ v. h (suc v)) (λ v. k (suc v)))

-- ---- the whole

nodes-read : (i : Instance) (s : TextState) → IsTourInstance i → s.comment ≡ Hash → IsBefore (printed_distances i.nodes 0 i.distances ++ printed_windows i.windows) s → nodes_at i.nodes s ≡ Ok i
unfolding nodes_at
nodes-read i s small same before =
    let xs = marked i.nodes 0 i.distances in
    let first = times_reads (distance_at i.nodes) print_marked add_distance Hash (IsMarked i.nodes i.distances) (each_distance i small) (marked i.nodes 0 i.distances) [] (printed_windows i.windows) s
    (record { rest = i.distances; is = refl; whole = refl }) same (subst (λ bytes. IsBefore (bytes ++ printed_windows i.windows) s) (printed-marked i.nodes 0 i.distances) before) in
    let second = times_reads window_at printed_window (λ made w. made ++ w ∷ []) Hash (λ _ ws. AreOpen ws) each_window i.windows [] [] first.following (open_from i.windows small.opens small.closes) (first.comment_is ∙ same)
    (subst (λ bytes. IsBefore bytes first.following) (sym (append-nil (printed_windows i.windows))) first.before) in
    let distances : times (distance_at i.nodes) (i.nodes * i.nodes) [] s ≡ Ok (i.distances, first.following) =
    ap (λ k. times (distance_at i.nodes) k [] s) (sym (length-marked i.nodes 0 i.distances ∙ small.square)) ∙ first.read ∙ ap (λ ds. Ok (ds, first.following)) (fold-marked i.nodes 0 i.distances []) in
    let windows : times window_at i.nodes [] first.following ≡ Ok (i.windows, second.following) =
    ap (λ k. times window_at k [] first.following) (sym small.each_window) ∙ second.read ∙ ap (λ ws. Ok (ws, second.following)) (fold_pushes i.windows []) in
    ap (λ (r : Result (List ℕ × TextState) InstanceError). part_then r (λ distances t. part_then (times window_at i.nodes [] t) (λ windows u. end_then u (Ok (made i.nodes distances windows))))) distances
    ∙ ap (λ (r : Result (List Window × TextState) InstanceError). part_then r (λ windows u. end_then u (Ok (made i.nodes i.distances windows)))) windows
    ∙ end_then_ok second.following (Ok i) (sym (finishes second.following second.before))
  where
    made : ℕ → List ℕ → List Window → Instance
    made n ds ws = record { nodes = n; distances = ds; windows = ws }

spelled-printed : (i : Instance) → IsTourInstance i → spelled (printed i) ≡ Ok i
unfolding spelled printed
spelled-printed i small =
    let bytes : List ℕ = printed_distances i.nodes 0 i.distances ++ printed_windows i.windows in
    let start : TextState = text_start Hash (decimal_of (pos i.nodes) ++ 10 ∷ bytes) in
    let read = passes_natural i.nodes 1 300 10 bytes start small.some small.few (omega arith) refl (before_start Hash (decimal_of (pos i.nodes) ++ 10 ∷ bytes)) in
    number_then_ok (pos 1) (pos 300) (pos i.nodes) start (λ n s. nodes_at (nat_abs n) s) (sym read.value) ∙ nodes-read i (after_token start) small read.comment_is read.before

pub printed_reads_back : (i : Instance) (text : List ℕ) → IsTourInstance i → text ≡ printed i → spelled text ≡ Ok i
printed_reads_back i text small e = ap spelled e ∙ spelled-printed i small
