-- The one to take is first.
use Rattle.std.proofs.Common.{◌≡◌, ℕ, ℤ, List, [], ◌∷◌, Bool, true, false, cond, ◌&&◌, ◌||◌, nat_lt, Some, inl, inr, refl, sym, subst, arith}
use Rattle.std.proofs.lemmas.Bool.Decides.{nat_tests}
use Rattle.std.proofs.lemmas.Int.{ints}
use Rattle.std.specs.Prelude.{int_lt, int_le}
use Rattle.dp_model.specs.Lists.{OneOf}
use Rattle.fringe.specs.Firsts.{is_taken_before, first_from, first_taken, IsFirstTaken}
use Rattle.fringe.specs.Tickets.{Ticketed}

before-self : (a : Ticketed) → is_taken_before a a ≡ false
before-self a = grind (arith, ints, nat_tests)

-- two keys, of which the first decides unless it is the same
lex-else : (x y z : ℤ) (p q r : Bool) → (int_lt y x || (int_le y x && p)) ≡ false → (int_lt z y || (int_le z y && q)) ≡ false → (p ≡ false → q ≡ false → r ≡ false) → (int_lt z x || (int_le z x && r)) ≡ false
lex-else x y z false false r h k then =
    let low : (int_lt z x || (int_le z x && false)) ≡ false = grind (arith, ints) in subst (λ v. (int_lt z x || (int_le z x && v)) ≡ false) (sym (then refl refl)) low
lex-else x y z true q r h k then = grind (arith, ints)
lex-else x y z false true r h k then = grind (arith, ints)

lex-turned : (x y : ℤ) (p q : Bool) → (int_lt y x || (int_le y x && p)) ≡ true → (p ≡ true → q ≡ false) → (int_lt x y || (int_le x y && q)) ≡ false
lex-turned x y true q h then =
    let low : (int_lt x y || (int_le x y && false)) ≡ false = grind (arith, ints) in subst (λ v. (int_lt x y || (int_le x y && v)) ≡ false) (sym (then refl)) low
lex-turned x y false q h then = grind (arith, ints)

later-else : (a b c : ℕ) → nat_lt a b ≡ false → nat_lt b c ≡ false → nat_lt a c ≡ false
later-else a b c h k = grind (arith, nat_tests)

later-turned : (a b : ℕ) → nat_lt a b ≡ true → nat_lt b a ≡ false
later-turned a b h = grind (arith, nat_tests)

before-else : (a b c : Ticketed) → is_taken_before a b ≡ false → is_taken_before b c ≡ false → is_taken_before a c ≡ false
before-else a b c h k =
    lex-else a.subproblem.bound b.subproblem.bound c.subproblem.bound _ _ _ h k
    (λ h2 k2. lex-else a.subproblem.value b.subproblem.value c.subproblem.value _ _ _ h2 k2 (later-else a.ticket b.ticket c.ticket))

before-turned : (a b : Ticketed) → is_taken_before a b ≡ true → is_taken_before b a ≡ false
before-turned a b h =
    lex-turned a.subproblem.bound b.subproblem.bound _ _ h (λ h2. lex-turned a.subproblem.value b.subproblem.value _ _ h2 (later-turned a.ticket b.ticket))

-- what is not before a third one is not before what comes before it
before-then : (a b c : Ticketed) → is_taken_before a b ≡ true → is_taken_before a c ≡ false → is_taken_before b c ≡ false
before-then a b c h k =
    let go : (v : Bool) → is_taken_before b c ≡ v → v ≡ false = λ v. elim v as (λ v. is_taken_before b c ≡ v → v ≡ false) [
      | true ↦ λ e. (let no = before-else a c b k (before-turned b c e) in absurd (cc))
      | false ↦ λ e. refl
    ] in
    go (is_taken_before b c) refl

first_from-is : (first : Ticketed) (os : List Ticketed) → IsFirstTaken (first ∷ os) (first_from first os)
first_from-is first [] = record { one = inl refl; first = (before-self first, tt) }
first_from-is first (o ∷ os) =
    let Goal : Bool → Type 0 = λ b. IsFirstTaken (first ∷ o ∷ os) (first_from (cond b o first) os) in
    let go : (b : Bool) → is_taken_before o first ≡ b → Goal b = λ b. elim b as (λ b. is_taken_before o first ≡ b → Goal b) [
      | true ↦ λ e. (let rest = first_from-is o os in record { one = inr rest.one; first = (before-then o first (first_from o os) e rest.first.0, rest.first) })
      | false ↦ λ e. (let rest = first_from-is first os in record {
        one = elim rest.one as (λ _. OneOf (λ a. a ≡ first_from first os) (first ∷ o ∷ os)) [ inl a ↦ inl a | inr m ↦ inr (inr m) ];
        first = (rest.first.0, (before-else o first (first_from first os) e rest.first.0, rest.first.1));
      })
    ] in
    go (is_taken_before o first) refl

-- the one to take is first
pub first_taken-is : (os : List Ticketed) (o : Ticketed) → Some o ≡ first_taken os → IsFirstTaken os o
first_taken-is [] o h = absurd (cc)
first_taken-is (first ∷ os) o h = let same : first_from first os ≡ o = cc in subst (IsFirstTaken (first ∷ os)) same (first_from-is first os)
