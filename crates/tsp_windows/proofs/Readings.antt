-- What is read of a text is an instance within the limits.
use Rattle.std.proofs.Common.{◌≡◌, ℕ, zero, suc, ◌+◌, ◌*◌, ◌/◌, ◌%◌, ◌<◌, ◌≤◌, ℤ, pos, negsuc, ◌≤ℤ◌, nat_abs, Bool, true, false, cond, ◌&&◌, nat_eq, nat_le, List, [], ◌∷◌, ◌++◌, length, get_or, refl, sym, ap, ◌∙◌, subst, arith, inl, inr, eq-eqb}
use Rattle.std.specs.Prelude.{Result, Ok, Err, int_lt}
use Rattle.std.proofs.Common.{add-zero, zero-add}
use Rattle.tokens.specs.declared.instance_error.InstanceFault.TheVariants as faults
use Rattle.std.specs.List.{list_all}
use Rattle.std.proofs.lemmas.Int.{ints}
use Rattle.std.proofs.lemmas.Bool.{cases_lt, false≢true, and_from, le-leb}
use Rattle.std.proofs.lemmas.Bool.Decides.{nat_tests}
use Rattle.std.proofs.lemmas.Nat.{mod-mul-add, div-mul-add, mul-add-lt}
use Rattle.std.proofs.lemmas.List.{get_or_append_left, get_or_at, length-append}
use Rattle.node_sets.specs.Sums.{all_below}
use Rattle.node_sets.proofs.Below.{all_below-from}
use Rattle.tokens.specs.Text.{TextState, number_at, place_of, after_token}
use Rattle.tokens.specs.declared.text_error.TextError.{TextError}
use Rattle.tokens.specs.declared.place.Place.{Place}
use Rattle.tokens.specs.declared.instance_error.InstanceError.{InstanceError}
use Rattle.tokens.specs.Chain.{until, times}
use Rattle.tokens.specs.Grammar.{read_then, number_then, part_then}
use Rattle.tokens.proofs.Ranges.{number_at_range}
use Rattle.tsp_windows.specs.Instance.{Window, is_window, is_small}
use Rattle.tsp_windows.specs.Texts.{distance_at, window_at}

-- ---- one step

record IsRead {B : Type 0} (least greatest : ℤ) (s : TextState) (more : ℤ → TextState → Result B InstanceError) (made : B) : Type 0 where
  number : ℤ
  low : least ≤ℤ number
  high : number ≤ℤ greatest
  rest : more number (after_token s) ≡ Ok made

number-read : {B : Type 0} (least greatest : ℤ) (s : TextState) (more : ℤ → TextState → Result B InstanceError) (made : B) → number_then least greatest s more ≡ Ok made → IsRead least greatest s more made
number-read {B} least greatest s more made e = go (number_at least greatest s) refl e
  where
    go : (read : Result ℤ TextError) → number_at least greatest s ≡ read → read_then read (λ z. more z (after_token s)) ≡ Ok made → IsRead least greatest s more made
    go (Ok z) was h = let range = number_at_range least greatest s (Ok z) (sym was) in record { number = z; low = range.0; high = range.1; rest = h }
    go (Err f) was h = absurd (cc)

size_most : (z : ℤ) (most : ℕ) → pos 0 ≤ℤ z → z ≤ℤ pos most → nat_abs z ≤ most
size_most (pos n) most low high = omega (arith, ints)
size_most (negsuc n) most low high = absurd (omega (arith, ints))

all_push : {X : Type 0} (p : X → Bool) (xs : List X) (x : X) → list_all p xs ≡ true → p x ≡ true → list_all p (xs ++ x ∷ []) ≡ true
all_push p [] x all here = and_from (p x) true here refl
all_push p (y ∷ ys) x all here = and_from (p y) (list_all p (ys ++ x ∷ [])) (left (p y) (list_all p ys) all) (all_push p ys x (right (p y) (list_all p ys) all) here)
  where
    left : (a b : Bool) → (a && b) ≡ true → a ≡ true
    left true b e = refl
    left false b e = absurd (false≢true e)

    right : (a b : Bool) → (a && b) ≡ true → b ≡ true
    right true b e = e
    right false b e = absurd (false≢true e)

-- ---- distances

pub record AreRead (n : ℕ) (ds : List ℕ) : Type 0 where
  pub short : list_all (λ d. nat_le d 1000000000) ds ≡ true
  pub home : (k : ℕ) → k < length ds → k / n ≡ k % n → get_or ds k 0 ≡ 0

read-more : (n : ℕ) (ds : List ℕ) (x : ℕ) → AreRead n ds → x ≤ 1000000000 → (length ds / n ≡ length ds % n → x ≡ 0) → AreRead n (ds ++ x ∷ [])
read-more n ds x h small diagonal = record {
  short = all_push (λ d. nat_le d 1000000000) ds x h.short (le-leb x 1000000000 small);
  home = λ k l e. elim (cases_lt k (length ds)) [
    | inl a ↦ get_or_append_left ds (x ∷ []) 0 k a ∙ h.home k a e
    | inr a ↦ (let here : k ≡ length ds = omega (arith, length-append ds (x ∷ [])) in
        ap (λ j. get_or (ds ++ x ∷ []) j 0) here ∙ get_or_at ds x [] 0 (length ds) refl ∙ diagonal (subst (λ j. j / n ≡ j % n) here e))
  ];
}

abbrev packed : List ℕ → TextState → Result (List ℕ × TextState) InstanceError
packed ds s = Ok (ds, s)

record IsStep (n : ℕ) (made next : List ℕ) : Type 0 where
  kept : AreRead n made → AreRead n next
  longer : length next ≡ length made + 1

distance-step : (n : ℕ) (made next : List ℕ) (s t : TextState) → distance_at n made s ≡ Ok (next, t) → IsStep n made next
unfolding distance_at
distance-step n made next s t e =
    let read = number-read (pos 0) (pos 1000000000) s (λ z t. Ok (made ++ cond (nat_eq (length made / n) (length made % n)) 0 (nat_abs z) ∷ [], t)) (next, t) e in
    step read.number (size_most read.number 1000000000 read.low read.high) (made_is read.number read.rest)
  where
    made_is : (z : ℤ) → packed (made ++ cond (nat_eq (length made / n) (length made % n)) 0 (nat_abs z) ∷ []) (after_token s) ≡ packed next t → made ++ cond (nat_eq (length made / n) (length made % n)) 0 (nat_abs z) ∷ [] ≡ next
    made_is z h = let pair : (made ++ cond (nat_eq (length made / n) (length made % n)) 0 (nat_abs z) ∷ [], after_token s) ≡ (next, t) = cc in ap (λ (p : List ℕ × TextState). p.0) pair

    small : (b : Bool) (m : ℕ) → m ≤ 1000000000 → cond b 0 m ≤ 1000000000
    small true m l = omega arith
    small false m l = l

    step : (z : ℤ) → nat_abs z ≤ 1000000000 → made ++ cond (nat_eq (length made / n) (length made % n)) 0 (nat_abs z) ∷ [] ≡ next → IsStep n made next
    step z l is = record {
      kept = λ h. subst (AreRead n) is (read-more n made (cond (nat_eq (length made / n) (length made % n)) 0 (nat_abs z)) h (small (nat_eq (length made / n) (length made % n)) (nat_abs z) l)
          (λ d. ap (λ b. cond b 0 (nat_abs z)) (eq-eqb (length made / n) (length made % n) d)));
      longer = ap length (sym is) ∙ length-append made (cond (nat_eq (length made / n) (length made % n)) 0 (nat_abs z) ∷ []);
    }

record AreAll (n : ℕ) (made ds : List ℕ) (count : ℕ) : Type 0 where
  kept : AreRead n made → AreRead n ds
  longer : length ds ≡ length made + count

distances-read : (n count : ℕ) (made ds : List ℕ) (s t : TextState) → times (distance_at n) count made s ≡ Ok (ds, t) → AreAll n made ds count
unfolding times until
distances-read n zero made ds s t e =
    let pair : (made, s) ≡ (ds, t) = cc in
    let same : made ≡ ds = ap (λ (p : List ℕ × TextState). p.0) pair in
    record { kept = subst (AreRead n) same; longer = ap length (sym same) ∙ sym (add-zero (length made)) }
distances-read n (suc count) made ds s t e = go (λ next u. distances-read n count next ds u t) (distance_at n made s) refl e
  where
    go : ((next : List ℕ) (u : TextState) → times (distance_at n) count next u ≡ Ok (ds, t) → AreAll n next ds count) → (step : Result (List ℕ × TextState) InstanceError) → distance_at n made s ≡ step → part_then step (λ more u. times (distance_at n) count more u) ≡ Ok (ds, t) → AreAll n made ds (suc count)
    go later (Ok (next, u)) was h =
        let one = distance-step n made next s u was in
        let rest = later next u h in
        record { kept = λ k. rest.kept (one.kept k); longer = omega (arith, one.longer, rest.longer) }
    go later (Err f) was h = absurd (cc)

-- ---- windows

record IsWindowStep (made next : List Window) : Type 0 where
  kept : list_all is_window made ≡ true → list_all is_window next ≡ true
  longer : length next ≡ length made + 1

open_window : (a b : ℤ) → pos 0 ≤ℤ a → pos 0 ≤ℤ b → b ≤ℤ pos 1000000000000 → int_lt b a ≡ false → (nat_le (nat_abs a) (nat_abs b) && nat_le (nat_abs b) 1000000000000) ≡ true
open_window (pos a) (pos b) p q r e = and_from (nat_le a b) (nat_le b 1000000000000) (grind (arith, nat_tests)) (le-leb b 1000000000000 (omega (arith, ints)))
open_window (pos a) (negsuc b) p q r e = absurd (omega (arith, ints))
open_window (negsuc a) b p q r e = absurd (omega (arith, ints))

abbrev pub closing_in : List Window → ℤ → TextState → ℤ → TextState → Result (List Window × TextState) InstanceError
closing_in made opening t closing u = cond (int_lt closing opening) (Err (record { fault = faults.Window; place = place_of t })) (Ok (made ++ record { opening = nat_abs opening; closing = nat_abs closing } ∷ [], u))

abbrev pub opening_in : List Window → ℤ → TextState → Result (List Window × TextState) InstanceError
opening_in made opening t = number_then (pos 0) (pos 1000000000000) t (closing_in made opening t)

window-step : (made next : List Window) (s t : TextState) → window_at made s ≡ Ok (next, t) → IsWindowStep made next
unfolding window_at
window-step made next s t e =
    let first = number-read (pos 0) (pos 1000000000000) s (opening_in made) (next, t) e in
    let second = number-read (pos 0) (pos 1000000000000) (after_token s) (closing_in made first.number (after_token s)) (next, t) first.rest in
    go first.number second.number (after_token (after_token s)) (place_of (after_token s)) first.low second.low second.high (int_lt second.number first.number) refl second.rest
  where
    go : (a b : ℤ) (u : TextState) (place : Place) → pos 0 ≤ℤ a → pos 0 ≤ℤ b → b ≤ℤ pos 1000000000000 → (late : Bool) → int_lt b a ≡ late
        → cond {A = Result (List Window × TextState) InstanceError} late (Err (record { fault = faults.Window; place = place })) (Ok (made ++ record { opening = nat_abs a; closing = nat_abs b } ∷ [], u)) ≡ Ok (next, t) → IsWindowStep made next
    go a b u place p q r true f h = absurd (cc)
    go a b u place p q r false f h =
        let pair : (made ++ record { opening = nat_abs a; closing = nat_abs b } ∷ [], u) ≡ (next, t) = cc in
        let is : made ++ record { opening = nat_abs a; closing = nat_abs b } ∷ [] ≡ next = ap (λ (p : List Window × TextState). p.0) pair in
        record {
          kept = λ k. subst (λ ws. list_all is_window ws ≡ true) is (all_push is_window made (record { opening = nat_abs a; closing = nat_abs b }) k (open_window a b p q r f));
          longer = ap length (sym is) ∙ length-append made (record { opening = nat_abs a; closing = nat_abs b } ∷ []);
        }

record AreAllWindows (made ws : List Window) (count : ℕ) : Type 0 where
  kept : list_all is_window made ≡ true → list_all is_window ws ≡ true
  longer : length ws ≡ length made + count

windows-read : (count : ℕ) (made ws : List Window) (s t : TextState) → times window_at count made s ≡ Ok (ws, t) → AreAllWindows made ws count
unfolding times until
windows-read zero made ws s t e =
    let pair : (made, s) ≡ (ws, t) = cc in
    let same : made ≡ ws = ap (λ (p : List Window × TextState). p.0) pair in
    record { kept = subst (λ ws. list_all is_window ws ≡ true) same; longer = ap length (sym same) ∙ sym (add-zero (length made)) }
windows-read (suc count) made ws s t e = go (λ next u. windows-read count next ws u t) (window_at made s) refl e
  where
    go : ((next : List Window) (u : TextState) → times window_at count next u ≡ Ok (ws, t) → AreAllWindows next ws count) → (step : Result (List Window × TextState) InstanceError) → window_at made s ≡ step → part_then step (λ more u. times window_at count more u) ≡ Ok (ws, t) → AreAllWindows made ws (suc count)
    go later (Ok (next, u)) was h =
        let one = window-step made next s u was in
        let rest = later next u h in
        record { kept = λ k. rest.kept (one.kept k); longer = omega (arith, one.longer, rest.longer) }
    go later (Err f) was h = absurd (cc)

-- ---- the instance

-- distances and windows that are read or drawn one after another make an instance within the limits
pub small_from : (n : ℕ) (ds : List ℕ) (ws : List Window) → 1 ≤ n → n ≤ 300 → AreRead n ds → length ds ≡ n * n → length ws ≡ n → list_all is_window ws ≡ true → is_small (record { nodes = n; distances = ds; windows = ws }) ≡ true
unfolding is_small
small_from n ds ws some few read square each windows =
    and_from (nat_le 1 n) _ (le-leb 1 n some) (and_from (nat_le n 300) _ (le-leb n 300 few) (and_from (nat_eq (length ds) (n * n)) _ (eq-eqb (length ds) (n * n) square) (and_from (list_all (λ d. nat_le d 1000000000) ds) _ read.short
    (and_from (all_below n (λ v. nat_eq (get_or ds (v * n + v) 0) 0)) _ (all_below-from n (λ v. nat_eq (get_or ds (v * n + v) 0) 0) (λ v l. eq-eqb (get_or ds (v * n + v) 0) 0
    (read.home (v * n + v) (subst (λ m. v * n + v < m) (sym square) (mul-add-lt v n v n l l)) (div-mul-add v n v l ∙ sym (mod-mul-add v n v l)))))
    (and_from (nat_eq (length ws) n) _ (eq-eqb (length ws) n each) windows)))))

pub read_small : (n : ℕ) (d0 ds : List ℕ) (w0 ws : List Window) (s t u v : TextState) → 1 ≤ n → n ≤ 300 → d0 ≡ [] → w0 ≡ [] → times (distance_at n) (n * n) d0 s ≡ Ok (ds, t) → times window_at n w0 u ≡ Ok (ws, v) → is_small (record { nodes = n; distances = ds; windows = ws }) ≡ true
read_small n d0 ds w0 ws s t u v some few de we d w =
    let distances = distances-read n (n * n) d0 ds s t d in
    let windows = windows-read n w0 ws u v w in
    small_from n ds ws some few (distances.kept (subst (AreRead n) (sym de) (record { short = refl; home = λ k l e. absurd (omega arith) })))
    (distances.longer ∙ ap (λ (l : List ℕ). length l + n * n) de ∙ zero-add (n * n)) (windows.longer ∙ ap (λ (l : List Window). length l + n) we ∙ zero-add n)
    (windows.kept (subst (λ l. list_all is_window l ≡ true) (sym we) refl))
