-- Lists in which no number stands twice, and sets without a number.
use Rattle.std.proofs.Common.{◌≡◌, ℕ, ◌<◌, Bool, true, false, not, ◌||◌, nat_eq, nat_lt, List, [], ◌∷◌, refl, sym, ap, ap₂}
use Rattle.std.specs.List.{list_any, list_all}
use Rattle.std.proofs.lemmas.Bool.{false≢true, and_parts, and_from, not-true, lt-ltb}
use Rattle.pending_rows.specs.Pending.{without}
use Rattle.pending_rows.specs.Orders.{are_different}

first : (a b : Bool) → (a || b) ≡ false → a ≡ false
first true b e = absurd (false≢true (sym e))
first false b e = refl

second : (a b : Bool) → (a || b) ≡ false → b ≡ false
second true b e = absurd (false≢true (sym e))
second false b e = e

-- a list of members that does not hold a number is one of the members without it
pub all-without : (test : ℕ → Bool) (d : ℕ) (ds : List ℕ) → list_any (λ u. nat_eq u d) ds ≡ false → list_all test ds ≡ true → list_all (without test d) ds ≡ true
all-without test d [] e h = refl
all-without test d (v ∷ vs) e h =
    let parts = and_parts (test v) (list_all test vs) h in
    and_from (without test d v) _ (and_from (test v) (not (nat_eq v d)) parts.0 (ap not (first (nat_eq v d) (list_any (λ u. nat_eq u d) vs) e)))
    (all-without test d vs (second (nat_eq v d) (list_any (λ u. nat_eq u d) vs) e) parts.1)

-- and the other way round
pub without-all : (test : ℕ → Bool) (d : ℕ) (ds : List ℕ) → list_all (without test d) ds ≡ true → list_all test ds ≡ true
without-all test d [] h = refl
without-all test d (v ∷ vs) h =
    let parts = and_parts (without test d v) (list_all (without test d) vs) h in
    and_from (test v) _ (and_parts (test v) (not (nat_eq v d)) parts.0).0 (without-all test d vs parts.1)

pub without-none : (test : ℕ → Bool) (d : ℕ) (ds : List ℕ) → list_all (without test d) ds ≡ true → list_any (λ u. nat_eq u d) ds ≡ false
without-none test d [] h = refl
without-none test d (v ∷ vs) h =
    let parts = and_parts (without test d v) (list_all (without test d) vs) h in
    let other : nat_eq v d ≡ false = off (nat_eq v d) (and_parts (test v) (not (nat_eq v d)) parts.0).1 in
    ap₂ ◌||◌ other (without-none test d vs parts.1)
  where
    off : (b : Bool) → not b ≡ true → b ≡ false
    off true e = absurd (false≢true e)
    off false e = refl

-- ---- members of a set below n, each once
pub record AreListed (n : ℕ) (must : ℕ → Bool) (ds : List ℕ) : Type 0 where
  pub inside : list_all (λ v. nat_lt v n) ds ≡ true
  pub different : are_different ds ≡ true
  pub wanted : list_all must ds ≡ true

pub listed-more : (n : ℕ) (must : ℕ → Bool) (d : ℕ) (ds : List ℕ) → d < n → must d ≡ true → AreListed n (without must d) ds → AreListed n must (d ∷ ds)
listed-more n must d ds inside there h = record {
  inside = and_from (nat_lt d n) _ (lt-ltb d n inside) h.inside;
  different = and_from (not (list_any (λ u. nat_eq u d) ds)) _ (ap not (without-none must d ds h.wanted)) h.different;
  wanted = and_from (must d) _ there (without-all must d ds h.wanted);
}

pub listed-rest : (n : ℕ) (must : ℕ → Bool) (d : ℕ) (ds : List ℕ) → AreListed n must (d ∷ ds) → AreListed n (without must d) ds
listed-rest n must d ds h =
    let different = and_parts (not (list_any (λ u. nat_eq u d) ds)) _ h.different in
    record {
      inside = (and_parts (nat_lt d n) _ h.inside).1;
      different = different.1;
      wanted = all-without must d ds (not-true (list_any (λ u. nat_eq u d) ds) different.0) (and_parts (must d) _ h.wanted).1;
    }
