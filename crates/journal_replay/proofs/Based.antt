-- Records from the last snapshot on.
use Rattle.std.proofs.Common.{◌≡◌, ℕ, ℤ, cond, Bool, true, false, ◌||◌, List, [], ◌∷◌, ◌++◌, refl, sym, ◌∙◌, ap}
use Rattle.dp_model.specs.Dp.{Dp}
use Rattle.journal_bytes.specs.Bodies.{RecordView, Improve, Finish, Snapshot}
use Rattle.journal_bytes.specs.Base.{is_snapshot, have_snapshot, from_base}
use Rattle.journal_replay.specs.Replay.{Replayed, after_record, after_records}
use Rattle.journal_replay.specs.Accepting.{MayFollowAll}
use Rattle.journal_replay.specs.Sound.{IsSoundStateOf, StaySound, finished_after, finished_after_all}

pub by-cases : (x : Bool) (Goal : Bool → Type 0) → (x ≡ true → Goal true) → (x ≡ false → Goal false) → Goal x
by-cases x Goal where_true where_false =
    let go : (b : Bool) → x ≡ b → Goal b = λ b. elim b as (λ b. x ≡ b → Goal b) [ true ↦ where_true | false ↦ where_false ] in go x refl

pub none-of : (b c : Bool) → (b || c) ≡ false → c ≡ false
none-of true c h = absurd (cc)
none-of false c h = h

first-of : (b c : Bool) → (b || c) ≡ true → c ≡ false → b ≡ true
first-of true c h none = refl
first-of false c h none = absurd (cc)

-- where there is none, they are all
pub all-from : (rs : List RecordView) → have_snapshot rs ≡ false → from_base rs ≡ rs
all-from [] h = refl
all-from (r ∷ rs) h = ap (λ b. cond b (from_base rs) (r ∷ rs)) (none-of (is_snapshot r) (have_snapshot rs) h)

have-joined : (b : Bool) (rs more : List RecordView) → (b || have_snapshot (rs ++ more)) ≡ ((b || have_snapshot rs) || have_snapshot more)
have-joined true rs more = refl
have-joined false [] more = refl
have-joined false (r ∷ rs) more = have-joined (is_snapshot r) rs more

picked : {X : Type 0} (a b : Bool) (x y z : X) → cond (a || b) (cond b x y) z ≡ cond b x (cond a y z)
picked true true x y z = refl
picked true false x y z = refl
picked false true x y z = refl
picked false false x y z = refl

cond-append : (b : Bool) (xs ys more : List RecordView) → cond b (xs ++ more) (ys ++ more) ≡ cond b xs ys ++ more
cond-append true xs ys more = refl
cond-append false xs ys more = refl

-- of records after others
pub from-joined : (rs more : List RecordView) → from_base (rs ++ more) ≡ cond (have_snapshot more) (from_base more) (from_base rs ++ more)
from-joined [] more = by-cases (have_snapshot more) (λ b. from_base more ≡ cond b (from_base more) more) (λ h. refl) (λ h. all-from more h)
from-joined (r ∷ rs) more =
    let a = have_snapshot rs in
    let b = have_snapshot more in
    let whole = r ∷ (rs ++ more) in
    ap (λ c. cond c (from_base (rs ++ more)) whole) (have-joined false rs more)
    ∙ (ap (λ l. cond (a || b) l whole) (from-joined rs more)
    ∙ (picked a b (from_base more) (from_base rs ++ more) whole
    ∙ ap (λ l. cond b (from_base more) l) (cond-append a (from_base rs) (r ∷ rs) more)))

-- What is made of records one after another, where a snapshot makes the same of all that is before it.
module _ {A : Type 0} (step : A → RecordView → A) (all : A → List RecordView → A) (all-next : (a : A) (r : RecordView) (rs : List RecordView) → all a (r ∷ rs) ≡ all (step a r) rs)
    (anew : (a b : A) (r : RecordView) → is_snapshot r ≡ true → step a r ≡ step b r) where
  made-anew : (a b : A) (rs : List RecordView) → have_snapshot rs ≡ true → all a rs ≡ all b rs
  made-anew a b [] h = absurd (cc)
  made-anew a b (r ∷ rs) h =
      let from : all (step a r) rs ≡ all (step b r) rs = by-cases (have_snapshot rs) (λ _. all (step a r) rs ≡ all (step b r) rs)
      (λ more. made-anew (step a r) (step b r) rs more)
      (λ none. ap (λ c. all c rs) (anew a b r (first-of (is_snapshot r) (have_snapshot rs) h none))) in
      all-next a r rs ∙ (from ∙ sym (all-next b r rs))

  made-from : (a : A) (rs : List RecordView) → all a rs ≡ all a (from_base rs)
  made-from a [] = refl
  made-from a (r ∷ rs) = by-cases (have_snapshot rs) (λ b. all a (r ∷ rs) ≡ all a (cond b (from_base rs) (r ∷ rs)))
      (λ more. all-next a r rs ∙ (made-anew (step a r) a rs more ∙ made-from a rs))
      (λ none. refl)

state-anew : (dp : Dp) (s t : Replayed) (r : RecordView) → is_snapshot r ≡ true → after_record dp s r ≡ after_record dp t r
state-anew dp s t (Improve value ds) h = absurd (cc)
state-anew dp s t (Finish ticket cs) h = absurd (cc)
state-anew dp s t (Snapshot best next os) h = refl

since-anew : (n m : ℕ) (r : RecordView) → is_snapshot r ≡ true → finished_after n r ≡ finished_after m r
since-anew n m (Improve value ds) h = absurd (cc)
since-anew n m (Finish ticket cs) h = absurd (cc)
since-anew n m (Snapshot best next os) h = refl

-- the state, and the number of finished ones since the base
pub state-from : (dp : Dp) (s : Replayed) (rs : List RecordView) → after_records dp s rs ≡ after_records dp s (from_base rs)
state-from dp s rs = made-from (after_record dp) (after_records dp) (λ a r rs. refl) (state-anew dp) s rs

pub since-from : (n : ℕ) (rs : List RecordView) → finished_after_all n rs ≡ finished_after_all n (from_base rs)
since-from n rs = made-from finished_after finished_after_all (λ a r rs. refl) since-anew n rs

-- from a snapshot on records follow whatever was before

follow-anew : (dp : Dp) (s t : Replayed) (r : RecordView) (rs : List RecordView) → is_snapshot r ≡ true → MayFollowAll dp s (r ∷ rs) → MayFollowAll dp t (r ∷ rs)
follow-anew dp s t (Improve value ds) rs h may = absurd (cc)
follow-anew dp s t (Finish ticket cs) rs h may = absurd (cc)
follow-anew dp s t (Snapshot best next os) rs h may = may

pub follow-from : (dp : Dp) (s t : Replayed) (rs : List RecordView) → have_snapshot rs ≡ true → MayFollowAll dp s rs → MayFollowAll dp t (from_base rs)
follow-from dp s t [] h may = absurd (cc)
follow-from dp s t (r ∷ rs) h may = by-cases (have_snapshot rs) (λ b. MayFollowAll dp t (cond b (from_base rs) (r ∷ rs)))
    (λ more. follow-from dp (after_record dp s r) t rs more may.1)
    (λ none. follow-anew dp s t r rs (first-of (is_snapshot r) (have_snapshot rs) h none) may)

-- and are sound

sound-anew : (dp : Dp) (starts : List (List ℕ)) (within : ℤ) (n m : ℕ) (s t : Replayed) (r : RecordView) (rs : List RecordView) → is_snapshot r ≡ true → IsSoundStateOf dp starts within m t
    → StaySound dp starts within n s (r ∷ rs) → StaySound dp starts within m t (r ∷ rs)
sound-anew dp starts within n m s t (Improve value ds) rs h first sound = absurd (cc)
sound-anew dp starts within n m s t (Finish ticket cs) rs h first sound = absurd (cc)
sound-anew dp starts within n m s t (Snapshot best next os) rs h first sound = (first, sound.1)

pub sound-from : (dp : Dp) (starts : List (List ℕ)) (within : ℤ) (n m : ℕ) (s t : Replayed) (rs : List RecordView) → have_snapshot rs ≡ true → IsSoundStateOf dp starts within m t
    → StaySound dp starts within n s rs → StaySound dp starts within m t (from_base rs)
sound-from dp starts within n m s t [] h first sound = absurd (cc)
sound-from dp starts within n m s t (r ∷ rs) h first sound = by-cases (have_snapshot rs) (λ b. StaySound dp starts within m t (cond b (from_base rs) (r ∷ rs)))
    (λ more. sound-from dp starts within (finished_after n r) m (after_record dp s r) t rs more first sound.1)
    (λ none. sound-anew dp starts within n m s t r rs (first-of (is_snapshot r) (have_snapshot rs) h none) first sound)
