-- The loop that finds the last snapshot.
use Rattle.std.proofs.Common.{◌≡◌, ℕ, cond, Bool, true, false, ◌||◌, List, [], ◌∷◌, refl, sym, ◌∙◌, ap}
use Rattle.journal_bytes.specs.Bodies.{RecordView}
use Rattle.journal_bytes.specs.Base.{is_snapshot, have_snapshot, from_base, base_offset, following_record}
use Rattle.journal_replay.proofs.Based.{by-cases, none-of, all-from}

none-before : (at : ℕ) (rs : List RecordView) → have_snapshot rs ≡ false → base_offset at rs ≡ at
none-before at [] h = refl
none-before at (r ∷ rs) h = ap (λ b. cond b (base_offset (following_record at r) rs) at) (none-of (is_snapshot r) (have_snapshot rs) h)

-- the base of all is that of the rest where it has a snapshot, and else the one found so far
pub record IsBaseSoFar (first : ℕ) (all : List RecordView) (offset : ℕ) (base : List RecordView) (at : ℕ) (rest : List RecordView) : Type 0 where
  pub stands : cond (have_snapshot rest) (base_offset at rest) offset ≡ base_offset first all
  pub records : cond (have_snapshot rest) (from_base rest) base ≡ from_base all

pub base-first : (first : ℕ) (all : List RecordView) → IsBaseSoFar first all first all first all
base-first first all = record {
  stands = by-cases (have_snapshot all) (λ b. cond b (base_offset first all) first ≡ base_offset first all) (λ h. refl) (λ h. sym (none-before first all h));
  records = by-cases (have_snapshot all) (λ b. cond b (from_base all) all ≡ from_base all) (λ h. refl) (λ h. sym (all-from all h));
}

pub base-here : (first : ℕ) (all : List RecordView) (offset : ℕ) (base : List RecordView) (at : ℕ) (r : RecordView) (rest : List RecordView) → is_snapshot r ≡ true
    → IsBaseSoFar first all offset base at (r ∷ rest) → IsBaseSoFar first all at (r ∷ rest) (following_record at r) rest
base-here first all offset base at r rest is so = record {
  stands = sym (ap (λ b. cond (b || have_snapshot rest) (base_offset at (r ∷ rest)) offset) is) ∙ so.stands;
  records = sym (ap (λ b. cond (b || have_snapshot rest) (from_base (r ∷ rest)) base) is) ∙ so.records;
}

skipped : {X : Type 0} (b c : Bool) (x y z : X) → b ≡ false → cond (b || c) (cond c x y) z ≡ cond c x z
skipped true c x y z h = absurd (cc)
skipped false true x y z h = refl
skipped false false x y z h = refl

pub base-later : (first : ℕ) (all : List RecordView) (offset : ℕ) (base : List RecordView) (at : ℕ) (r : RecordView) (rest : List RecordView) → is_snapshot r ≡ false
    → IsBaseSoFar first all offset base at (r ∷ rest) → IsBaseSoFar first all offset base (following_record at r) rest
base-later first all offset base at r rest is so = record {
  stands = sym (skipped (is_snapshot r) (have_snapshot rest) (base_offset (following_record at r) rest) at offset is) ∙ so.stands;
  records = sym (skipped (is_snapshot r) (have_snapshot rest) (from_base rest) (r ∷ rest) base is) ∙ so.records;
}
