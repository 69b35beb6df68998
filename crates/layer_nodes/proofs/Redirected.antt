-- Routes that get new targets, one after another.
use Rattle.std.proofs.Common.{◌≡◌, ℕ, zero, suc, ◌+◌, ◌%◌, ◌^◌, ◌<◌, ◌≤◌, ℤ, ◌+ℤ◌, List, [], ◌∷◌, ◌++◌, length, take, drop, set, get_or, slice_get, Option, Some, None, option_and_then, to_z, of_z, w64, refl, sym, ◌∙◌, ap, subst, arith}
use Rattle.std.proofs.lemmas.Int.{ints, wrapping_add_is, int_wrap_fits}
use Rattle.std.proofs.lemmas.List.{take_more, take_more_set, drop-set-lt, length-set, take_all}
use Rattle.dp_model.specs.Lists.{Each}
use Rattle.dp_model.specs.Numbers.{IsSmall, IsFar}
use Rattle.dp_laws.specs.Rules.Redirects.{Redirect}
use Rattle.layer_nodes.specs.declared.routing.Route.{Route}
use Rattle.layer_nodes.specs.Redirecting.{redirect_of, IsShort, rerouted_by, rerouted, IsRerouted, AreRerouted}

-- One route.

short-at : (ls : List (Option Redirect)) (i : ℕ) (l : Redirect) → Each IsShort ls → option_and_then (λ o. o) (slice_get ls i) ≡ Some l → IsSmall l.longer
short-at [] i l short h = absurd (cc)
short-at (o ∷ ls) zero l short h = subst IsShort h short.0
short-at (o ∷ ls) (suc i) l short h = short-at ls i l short.1 h

pub short-redirect : (ls : List (Option Redirect)) (target : Option ℕ) (l : Redirect) → Each IsShort ls → redirect_of ls target ≡ Some l → IsSmall l.longer
short-redirect ls None l short h = absurd (cc)
short-redirect ls (Some i) l short h = short-at ls i l short h

pub sum-is : (a b : ℤ) → IsFar a → IsSmall b → to_z w64 ((of_z w64 a + of_z w64 b) % 2 ^ 64) ≡ (a +ℤ b)
sum-is a b far small = wrapping_add_is w64 a b (omega (arith, ints)) (omega (arith, ints)) ∙ int_wrap_fits w64 (a +ℤ b) (omega (arith, ints))

abbrev route_of : Option ℕ → ℤ → Route
route_of target longer = record { target = target; longer = longer }

pub rerouted-some : (ls : List (Option Redirect)) (route : Route) (l : Redirect) (place : ℕ) (longer : ℤ) → redirect_of ls route.target ≡ Some l → place ≡ l.place → longer ≡ (route.longer +ℤ l.longer)
    → route_of (Some place) longer ≡ rerouted ls route
rerouted-some ls route l place longer h a b = rw a (rw b (sym (ap (rerouted_by route) h)))

-- Lists of routes.

module _ (ls : List (Option Redirect)) where
  push : (olds news : List Route) (old new : Route) → AreRerouted ls olds news → IsRerouted ls old new → AreRerouted ls (olds ++ old ∷ []) (news ++ new ∷ [])
  push [] [] old new all one = (one, tt)
  push [] (n ∷ news) old new all one = absurd all
  push (o ∷ olds) [] old new all one = absurd all
  push (o ∷ olds) (n ∷ news) old new all one = (all.0, push olds news old new all.1 one)

  pub rerouted-length : (olds news : List Route) → AreRerouted ls olds news → length news ≡ length olds
  rerouted-length [] [] all = refl
  rerouted-length [] (n ∷ news) all = absurd all
  rerouted-length (o ∷ olds) [] all = absurd all
  rerouted-length (o ∷ olds) (n ∷ news) all = let rest = rerouted-length olds news all.1 in omega arith

-- What was done and what is left.

pub record IsChanged (ls : List (Option Redirect)) (old now : List Route) (i : ℕ) : Type 0 where
  pub done : AreRerouted ls (take i old) (take i now)
  pub left : drop i now ≡ drop i old
  pub same : length now ≡ length old

-- the element that is next
pub left-at : {X : Type 0} (old now : List X) (i : ℕ) (d : X) → drop i now ≡ drop i old → length now ≡ length old → i < length old → get_or now i d ≡ get_or old i d
left-at [] now i d left same less = absurd (omega arith)
left-at (o ∷ old) [] i d left same less = absurd (omega arith)
left-at (o ∷ old) (n ∷ now) zero d left same less = ap (λ l. get_or l 0 d) left
left-at (o ∷ old) (n ∷ now) (suc i) d left same less = left-at old now i d left (omega arith) (omega arith)

-- the elements after it
pub left-after : {X : Type 0} (old now : List X) (i : ℕ) → drop i now ≡ drop i old → length now ≡ length old → drop (i + 1) now ≡ drop (i + 1) old
left-after old now i left same = let one : i + 1 ≡ suc i = omega arith in ap (λ n. drop n now) one ∙ (next old now i left same ∙ ap (λ n. drop n old) (sym one))
  where
    next : {X : Type 0} (old now : List X) (i : ℕ) → drop i now ≡ drop i old → length now ≡ length old → drop (suc i) now ≡ drop (suc i) old
    next [] [] i left same = refl
    next [] (n ∷ now) i left same = absurd (omega arith)
    next (o ∷ old) [] i left same = absurd (omega arith)
    next (o ∷ old) (n ∷ now) zero left same = ap (drop 1) left
    next (o ∷ old) (n ∷ now) (suc i) left same = next old now i left (omega arith)

pub changed-more : (ls : List (Option Redirect)) (old now : List Route) (i : ℕ) (route d : Route) → IsChanged ls old now i → i < length old → IsRerouted ls (get_or now i d) route → IsChanged ls old (set now i route) (i + 1)
changed-more ls old now i route d h less one =
    let size = h.same in
    let at = left-at old now i d h.left h.same less in
    record {
      done = subst (λ l. AreRerouted ls (take (i + 1) old) l) (sym (take_more_set now i route (omega arith)))
          (subst (λ l. AreRerouted ls l (take i now ++ route ∷ [])) (sym (take_more old i d less))
          (push ls (take i old) (take i now) (get_or old i d) route h.done (subst (λ a. IsRerouted ls a route) at one)));
      left = drop-set-lt (i + 1) now i route (omega arith) ∙ left-after old now i h.left h.same;
      same = length-set now i route ∙ h.same;
    }

pub changed-all : (ls : List (Option Redirect)) (old now : List Route) (i : ℕ) → IsChanged ls old now i → length old ≤ i → AreRerouted ls old now
changed-all ls old now i h end =
    let size = h.same in
    subst (λ l. AreRerouted ls l now) (take_all i old (omega arith)) (subst (AreRerouted ls (take i old)) (take_all i now (omega arith)) h.done)

pub changed-none : (ls : List (Option Redirect)) (routes : List Route) → IsChanged ls routes routes 0
changed-none ls routes = record { done = tt; left = refl; same = refl }
