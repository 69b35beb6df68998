-- What the claims of nodes are worth.
use Rattle.std.proofs.Common.{◌≡◌, ℤ, pos, ◌+ℤ◌, ◌-ℤ◌, ◌≤ℤ◌, int_le, true, false, cond, Option, Some, None, IsTrue, refl, arith}
use Rattle.std.proofs.lemmas.Int.{ints}
use Rattle.dp_model.specs.Gaps.{is_struck_by}
use Rattle.dp_model.specs.NumberLaws.{int_le-is, int_le-from}
use Rattle.dp_model.specs.Numbers.{AtMost, add_some}
use Rattle.bound_cover.specs.Tests.{is_at_most}
use Rattle.bound_cover.specs.Exploring.{rest_of, greater_of}

pub at-most-self : (a : Option ℤ) → IsTrue (is_at_most a a)
at-most-self None = refl
at-most-self (Some a) = int_le-from a a (omega (arith, ints))

pub at-most-through : (a b c : Option ℤ) → IsTrue (is_at_most a b) → IsTrue (is_at_most b c) → IsTrue (is_at_most a c)
at-most-through None b c h k = refl
at-most-through (Some a) None c h k = absurd (let clash : false ≡ true = h in cc)
at-most-through (Some a) (Some b) None h k = absurd (let clash : false ≡ true = k in cc)
at-most-through (Some a) (Some b) (Some c) h k =
    let one : a ≤ℤ b = int_le-is a b h in let two : b ≤ℤ c = int_le-is b c k in int_le-from a c (omega (arith, ints))

pub test-of : (z : ℤ) (b : Option ℤ) → AtMost z b → IsTrue (is_at_most (Some z) b)
test-of z None h = absurd h
test-of z (Some b) h = int_le-from z b h

pub greater-left : (a b : Option ℤ) → IsTrue (is_at_most a (greater_of a b))
greater-left None b = refl
greater-left (Some a) None = at-most-self (Some a)
greater-left (Some a) (Some b) = elim (int_le a b) as (λ t. int_le a b ≡ t → IsTrue (int_le a (cond t b a))) [
  | true ↦ λ e. e
  | false ↦ λ e. int_le-from a a (omega (arith, ints))
] refl

pub greater-right : (a b : Option ℤ) → IsTrue (is_at_most b (greater_of a b))
greater-right None b = at-most-self b
greater-right (Some a) None = refl
greater-right (Some a) (Some b) = elim (int_le a b) as (λ t. int_le a b ≡ t → IsTrue (int_le b (cond t b a))) [
  | true ↦ λ e. int_le-from b b (omega (arith, ints))
  | false ↦ λ e. (let less : b ≤ℤ a = grind (arith, ints) in int_le-from b a less)
] refl

-- what two options are within, the greater of them is within
pub add-greater : (z : ℤ) (a b c : Option ℤ) → IsTrue (is_at_most (add_some z a) c) → IsTrue (is_at_most (add_some z b) c) → IsTrue (is_at_most (add_some z (greater_of a b)) c)
add-greater z None b c h k = k
add-greater z (Some a) None c h k = h
add-greater z (Some a) (Some b) c h k = elim (int_le a b) as (λ t. IsTrue (is_at_most (Some (z +ℤ cond t b a)) c)) [ true ↦ k | false ↦ h ]

-- a target of no less value has less left below best
pub rest-step : (best : Option ℤ) (v gain gap longer over : ℤ) → gap ≤ℤ longer → (v +ℤ (gain +ℤ longer)) ≤ℤ over → IsTrue (is_at_most (add_some (gain +ℤ gap) (rest_of best over)) (rest_of best v))
rest-step None v gain gap longer over low reached = refl
rest-step (Some b) v gain gap longer over low reached = int_le-from ((gain +ℤ gap) +ℤ (b -ℤ over)) (b -ℤ v) (omega (arith, ints))

-- what is struck has a rough bound within what is left below best
pub struck-within : (v gain : ℤ) (rough best : Option ℤ) → IsTrue (is_struck_by (v +ℤ gain) rough best) → IsTrue (is_at_most (add_some gain rough) (rest_of best v))
struck-within v gain None best h = refl
struck-within v gain (Some r) None h = absurd (let clash : false ≡ true = h in cc)
struck-within v gain (Some r) (Some b) h =
    let low : ((v +ℤ gain) +ℤ r) ≤ℤ b = int_le-is ((v +ℤ gain) +ℤ r) b h in int_le-from (gain +ℤ r) (b -ℤ v) (omega (arith, ints))

-- where value and suffix are at most best, the suffix is within what is left below best
pub suffix-within : (v : ℤ) (suffix best : Option ℤ) → IsTrue (is_at_most (add_some v suffix) best) → IsTrue (is_at_most suffix (rest_of best v))
suffix-within v None best h = refl
suffix-within v (Some z) None h = absurd (let clash : false ≡ true = h in cc)
suffix-within v (Some z) (Some b) h = let low : (v +ℤ z) ≤ℤ b = int_le-is (v +ℤ z) b h in int_le-from z (b -ℤ v) (omega (arith, ints))

-- a value that is at most best leaves at least 0
pub rest-positive : (v : ℤ) (best : Option ℤ) → AtMost v best → IsTrue (is_at_most (Some (pos 0)) (rest_of best v))
rest-positive v None h = absurd h
rest-positive v (Some b) h = let low : v ≤ℤ b = h in int_le-from (pos 0) (b -ℤ v) (omega (arith, ints))

-- gain, gap and the target's suffix are within what the source's suffix is within
pub suffix-step : (gain gap longer : ℤ) (suffix over c : Option ℤ) → gap ≤ℤ longer → ((z : ℤ) → suffix ≡ Some z → AtMost ((gain +ℤ longer) +ℤ z) over) → IsTrue (is_at_most over c) → IsTrue (is_at_most (add_some (gain +ℤ gap) suffix) c)
suffix-step gain gap longer None over c low h k = refl
suffix-step gain gap longer (Some z) over c low h k =
    let less : ((gain +ℤ gap) +ℤ z) ≤ℤ ((gain +ℤ longer) +ℤ z) = omega (arith, ints) in
    at-most-through (Some ((gain +ℤ gap) +ℤ z)) (Some ((gain +ℤ longer) +ℤ z)) c (int_le-from ((gain +ℤ gap) +ℤ z) ((gain +ℤ longer) +ℤ z) less) (at-most-through (Some ((gain +ℤ longer) +ℤ z)) over c (test-of ((gain +ℤ longer) +ℤ z) over (h z refl)) k)
