-- What a push by the fringe's rule makes of the open subproblems.
use Rattle.std.proofs.Common.{◌≡◌, ◌≢◌, ℕ, ◌+◌, ◌≤◌, ℤ, int_le, nat_eq, Bool, true, false, cond, not, List, [], ◌++◌, length, filter, Option, Some, None, ◌⊎◌, inl, inr, refl, sym, subst, IsTrue, arith}
use Rattle.std.proofs.lemmas.Bool.Decides.{nat_tests}
use Rattle.std.proofs.lemmas.List.Sums.{sum_by-append}
use Rattle.std.specs.List.{sum_by}
use Rattle.dp_model.specs.Dp.{Dp}
use Rattle.dp_model.specs.Laws.{IsLawful}
use Rattle.dp_model.specs.Lists.{Each, OneOf}
use Rattle.dp_model.specs.Numbers.{AtMost, is_above}
use Rattle.dp_model.specs.Subproblem.{IsOwn}
use Rattle.dp_model.proofs.Members.{Each-then, Each-append, Has, each-has, one-of-has}
use Rattle.dp_laws.specs.Pairs.{EachTwo}
use Rattle.dp_laws.proofs.Lists.{each-filter, two-filter}
use Rattle.fringe.specs.Fringe.{same_open, AreDifferent}
use Rattle.fringe.specs.Pushing.{pushed_beside, after_push}
use Rattle.fringe.specs.Tickets.{Ticketed, IsEarlier, by_ticket, without}
use Rattle.fringe.proofs.Rows.{same-depth, same-row, same-none, same-others, different-turned}
use Rattle.fringe.proofs.Tickets.{tickets-by_ticket, two-by_ticket}
use Rattle.board_laws.proofs.Carrying.{Deep}
use Rattle.board_laws.proofs.Fates.{Beats, found-one, same-ticket, int-more, int-less}
use Rattle.board_laws.proofs.Finishing.{beats-deep}
use Rattle.board_laws.proofs.Lists.{sum-less, one-left, one-right, one-filter, each-front, each-back, two-front, two-back, two-across}
use Rattle.board_laws.proofs.Slots.{with-by_ticket}
use Rattle.board_laws.proofs.With.{with-left, each-in, two-in, one-in, sum-with}
use Rattle.board_laws.specs.Board.{reach}
use Rattle.dp_laws.proofs.Restricted.Covering.{one-cases, one-member}
use Rattle.dp_laws.proofs.Restricted.Permutations.{two-append}

-- what a push of the slot's subproblem makes of the open ones
pub record IsPushed (dp : Dp) (reach : Option ℤ) (next : ℕ) (o : Ticketed) (rest os new : List Ticketed) : Type 1 where
  pub each : (P : Ticketed → Type 0) → P o → Each P (rest ++ os) → Each P (rest ++ new)
  pub each_open : (P : Ticketed → Type 0) → (IsTrue (is_above reach o.subproblem.bound) → P o) → Each P os → Each P new
  pub two : (R : Ticketed → Ticketed → Type 0) → ((a c : Ticketed) → R a c → R c a) → Each (R o) (rest ++ os) → EachTwo R (rest ++ os) → EachTwo R (rest ++ new)
  pub ordered : EachTwo IsEarlier new
  pub different : EachTwo AreDifferent new
  pub sum : (f : Ticketed → ℕ) → sum_by f (rest ++ new) ≤ f o + sum_by f (rest ++ os)

-- what the slot's prefix and the others reach goes on
abbrev pub GoesOn : Dp → Option ℤ → Ticketed → List Ticketed → List Ticketed → List Ticketed → Type 0
GoesOn dp reach o rest os new = (k : ℕ) (v : ℤ) → Deep dp k v o ⊎ OneOf (Deep dp k v) (rest ++ os) → AtMost v reach ⊎ OneOf (Deep dp k v) (rest ++ new)

-- what is left of a list
pub record IsLeft (os left : List Ticketed) : Type 1 where
  pub each : (P : Ticketed → Type 0) → Each P os → Each P left
  pub two : (R : Ticketed → Ticketed → Type 0) → EachTwo R os → EachTwo R left
  pub sum : (f : Ticketed → ℕ) → sum_by f left ≤ sum_by f os

left-whole : (os : List Ticketed) → IsLeft os os
left-whole os = record { each = λ P h. h; two = λ R h. h; sum = λ f. omega arith }

left-filter : (p : Ticketed → Bool) (os : List Ticketed) → IsLeft os (filter p os)
left-filter p os = record { each = λ P h. each-filter P p os h; two = λ R h. two-filter R p os h; sum = λ f. sum-less f p [] os }

-- it does not enter, since what it reaches is known
pub push-out : (dp : Dp) (reach : Option ℤ) (next : ℕ) (o : Ticketed) (rest os : List Ticketed) → EachTwo IsEarlier os → EachTwo AreDifferent os → IsPushed dp reach next o rest os os
push-out dp reach next o rest os rise two = record {
  each = λ P one h. h;
  each_open = λ P one h. h;
  two = λ R flip one h. h;
  ordered = rise;
  different = two;
  sum = λ f. omega arith;
}

pub out-goes : (dp : Dp) (reach : Option ℤ) (o : Ticketed) (rest os : List Ticketed) → ((k : ℕ) (v : ℤ) → Deep dp k v o → AtMost v reach ⊎ OneOf (Deep dp k v) (rest ++ os)) → GoesOn dp reach o rest os os
out-goes dp reach o rest os goes k v h = elim h as (λ _. AtMost v reach ⊎ OneOf (Deep dp k v) (rest ++ os)) [ inl a ↦ goes k v a | inr b ↦ inr b ]

-- it enters, beside what is left
push-in : (dp : Dp) (reach : Option ℤ) (next : ℕ) (o : Ticketed) (rest os left : List Ticketed) → IsLeft os left → is_above reach o.subproblem.bound ≡ true
    → Each (λ x. x.ticket ≢ o.ticket) os → Each (AreDifferent o) left → EachTwo IsEarlier os → EachTwo AreDifferent os → IsPushed dp reach next o rest os (by_ticket o left)
push-in dp reach next o rest os left l up fresh differ rise two =
    let put = with-by_ticket o left in
    let w = with-left o rest left (by_ticket o left) put in
    let each : (P : Ticketed → Type 0) → Each P (rest ++ os) → Each P (rest ++ left) = λ P h. Each-append P rest left (each-front P rest os h) (l.each P (each-back P rest os h)) in
    record {
      each = λ P one h. each-in P o (rest ++ left) (rest ++ by_ticket o left) w one (each P h);
      each_open = λ P one h. each-in P o left (by_ticket o left) put (one up) (l.each P h);
      two = λ R flip one h. two-in R flip o (rest ++ left) (rest ++ by_ticket o left) w (each (R o) one)
          (two-append R rest left (two-front R rest os h) (l.two R (two-back R rest os h)) (Each-then (λ a. Each (R a) os) (λ a. Each (R a) left) rest (λ a x. l.each (R a) x) (two-across R rest os h)));
      ordered = tickets-by_ticket o left (l.each (λ x. x.ticket ≢ o.ticket) fresh) (l.two IsEarlier rise);
      different = two-by_ticket AreDifferent different-turned o left differ (l.two AreDifferent two);
      sum = λ f. (let whole = sum-with f o (rest ++ left) (rest ++ by_ticket o left) w in let first = sum_by-append f rest left in let second = sum_by-append f rest os in let less = l.sum f in omega arith);
    }

in-goes : (dp : Dp) (reach : Option ℤ) (o : Ticketed) (rest os left : List Ticketed) → ((k : ℕ) (v : ℤ) → OneOf (Deep dp k v) os → Deep dp k v o ⊎ OneOf (Deep dp k v) left) → GoesOn dp reach o rest os (by_ticket o left)
in-goes dp reach o rest os left goes k v h =
    let w = with-left o rest left (by_ticket o left) (with-by_ticket o left) in
    let Answer : Type 0 = AtMost v reach ⊎ OneOf (Deep dp k v) (rest ++ by_ticket o left) in
    let in_ : Deep dp k v o ⊎ OneOf (Deep dp k v) (rest ++ left) → Answer = λ x. inr (one-in (Deep dp k v) o (rest ++ left) (rest ++ by_ticket o left) w x) in
    elim h as (λ _. Answer) [
      | inl a ↦ in_ (inl a)
      | inr b ↦ elim (one-cases (Deep dp k v) rest os b) as (λ _. Answer) [
        | inl c ↦ in_ (inr (one-left (Deep dp k v) rest left c))
        | inr c ↦ elim (goes k v c) as (λ _. Answer) [ inl d ↦ in_ (inl d) | inr d ↦ in_ (inr (one-right (Deep dp k v) rest left d)) ]
      ]
    ]

-- what goes is the one that is beaten
gone : (dp : Dp) → IsLawful dp → (k : ℕ) (v : ℤ) (o other : Ticketed) (os : List Ticketed) → OneOf (λ x. Deep dp k v x × (not (nat_eq x.ticket other.ticket) ≡ false)) os
    → IsOwn dp o.subproblem → IsOwn dp other.subproblem → EachTwo IsEarlier os → Has other os → Beats other o → Deep dp k v o
gone dp laws k v o other os one own own_other rise in_list b =
    let r = one-member (λ (x : Ticketed). Deep dp k v x × (not (nat_eq x.ticket other.ticket) ≡ false)) os one in
    let out = r.2.1 in
    let same : r.0.ticket ≡ other.ticket = grind (arith, nat_tests) in
    let is = same-ticket os r.0 other rise r.1 in_list same in
    beats-deep dp laws k v other o own_other own b (subst (Deep dp k v) is r.2.0)

-- the push by the fringe's rule
pub pushed : (dp : Dp) → IsLawful dp → (reach : Option ℤ) (next : ℕ) (o : Ticketed) (rest os : List Ticketed) → IsOwn dp o.subproblem → Each (λ o. IsOwn dp o.subproblem) os → is_above reach o.subproblem.bound ≡ true
    → Each (λ x. x.ticket ≢ o.ticket) os → EachTwo IsEarlier os → EachTwo AreDifferent os → IsPushed dp reach next o rest os (after_push o os) × GoesOn dp reach o rest os (after_push o os)
pushed dp laws reach next o rest os own own_open up fresh rise two =
    let c = o.subproblem in
    let Both : List Ticketed → Type 1 = λ new. IsPushed dp reach next o rest os new × GoesOn dp reach o rest os new in
    let go : (s : Option Ticketed) → same_open c os ≡ s → Both (pushed_beside o os s) =
    λ s. elim s as (λ s. same_open c os ≡ s → Both (pushed_beside o os s)) [
      | None ↦ λ e. (push-in dp reach next o rest os os (left-whole os) up fresh (same-none (length c.decisions) c.row os e) rise two, in-goes dp reach o rest os os (λ k v h. inr h))
      | Some other ↦ λ e.
          let one = found-one (length c.decisions) c.row os other e in
          let level = same-depth (length c.decisions) c.row other one.1 in
          let row = same-row (length c.decisions) c.row other one.1 in
          let own_other = each-has (λ (o : Ticketed). IsOwn dp o.subproblem) os other own_open one.0 in
          let left = without other.ticket os in
          let cases : (b : Bool) → int_le c.value other.subproblem.value ≡ b → Both (cond b os (by_ticket o left)) =
          λ b. elim b as (λ b. int_le c.value other.subproblem.value ≡ b → Both (cond b os (by_ticket o left))) [
            | true ↦ λ le. (
              push-out dp reach next o rest os rise two,
              out-goes dp reach o rest os
                  (λ k v d. inr (one-right (Deep dp k v) rest os (one-of-has (Deep dp k v) os other
                  (beats-deep dp laws k v o other own own_other (record { depth = sym level; row = sym row; value = int-less c.value other.subproblem.value le }) d) one.0))),
            )
            | false ↦ λ le. (
              push-in dp reach next o rest os left (left-filter (λ x. not (nat_eq x.ticket other.ticket)) os) up fresh (same-others (length c.decisions) c.row os other e rise two) rise two,
              in-goes dp reach o rest os left
                  (λ k v h.
                  elim (one-filter (Deep dp k v) (λ (x : Ticketed). not (nat_eq x.ticket other.ticket)) os h) as (λ _. Deep dp k v o ⊎ OneOf (Deep dp k v) left) [
                    | inl stays ↦ inr stays
                    | inr goes ↦ inl (gone dp laws k v o other os goes own own_other rise one.0 (record { depth = level; row = row; value = int-more c.value other.subproblem.value le }))
                  ]),
            )
          ] in cases (int_le c.value other.subproblem.value) refl
    ] in go (same_open c os) refl
