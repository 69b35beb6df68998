-- Records after records.
use Rattle.std.proofs.Common.{◌≡◌, ℕ, ℤ, true, cond, List, [], ◌∷◌, ◌++◌, Option, Some, None, refl, sym, subst, arith}
use Rattle.std.proofs.lemmas.Int.{ints}
use Rattle.dp_model.specs.Dp.{Dp}
use Rattle.dp_model.specs.Laws.{IsLawful}
use Rattle.dp_model.specs.Numbers.{OptionAtMost, is_above}
use Rattle.board_laws.specs.declared.settings.Settings.{Settings}
use Rattle.board_laws.specs.Board.{AreSettings, value_held}
use Rattle.board_laws.specs.GoodBoard.{IsGoodFrom}
use Rattle.journal_bytes.specs.Bodies.{RecordView, Improve, Finish, Snapshot}
use Rattle.journal_bytes.specs.Base.{have_snapshot, from_base}
use Rattle.journal_replay.specs.Replay.{Replayed, taken_off, after_record, after_records, replay_of, replay_start, restored_from}
use Rattle.journal_replay.specs.Accepting.{MayFollow, MayFollowAll, AreAccepted}
use Rattle.journal_replay.specs.Following.{TellsState}
use Rattle.journal_replay.specs.Sound.{IsSoundStateOf, StaySound, AreSoundOf, finished_after, finished_after_all}
use Rattle.journal_replay.specs.Laws.{JournalsGrow, RecordsJoin, RecordsDoNotWorsen}
use Rattle.journal_replay.proofs.Added.{added}
use Rattle.journal_replay.proofs.Based.{by-cases, from-joined, follow-from, since-from, sound-from, state-from}
use Rattle.journal_replay.proofs.Restored.{accepted-restore}
use Rattle.board_laws.proofs.Carrying.{option-self}
use Rattle.board_laws.proofs.Restoring.{restored-boards-keep}

after-joined : (dp : Dp) (s : Replayed) (rs more : List RecordView) → after_records dp s (rs ++ more) ≡ after_records dp (after_records dp s rs) more
after-joined dp s [] more = refl
after-joined dp s (r ∷ rs) more = after-joined dp (after_record dp s r) rs more

accepted-joined : (dp : Dp) (s : Replayed) (rs more : List RecordView) → MayFollowAll dp s rs → MayFollowAll dp (after_records dp s rs) more → MayFollowAll dp s (rs ++ more)
accepted-joined dp s [] more h k = k
accepted-joined dp s (r ∷ rs) more h k = (h.0, accepted-joined dp (after_record dp s r) rs more h.1 k)

sound-last : (dp : Dp) (starts : List (List ℕ)) (within : ℤ) (n : ℕ) (s : Replayed) (rs : List RecordView) → StaySound dp starts within n s rs → IsSoundStateOf dp starts within (finished_after_all n rs) (after_records dp s rs)
sound-last dp starts within n s [] h = h
sound-last dp starts within n s (r ∷ rs) h = sound-last dp starts within (finished_after n r) (after_record dp s r) rs h.1

sound-joined : (dp : Dp) (starts : List (List ℕ)) (within : ℤ) (n : ℕ) (s : Replayed) (rs more : List RecordView) → StaySound dp starts within n s rs → StaySound dp starts within (finished_after_all n rs) (after_records dp s rs) more
    → StaySound dp starts within n s (rs ++ more)
sound-joined dp starts within n s [] more h k = k
sound-joined dp starts within n s (r ∷ rs) more h k = (h.0, sound-joined dp starts within (finished_after n r) (after_record dp s r) rs more h.1 k)

finished-joined : (n : ℕ) (rs more : List RecordView) → finished_after_all n (rs ++ more) ≡ finished_after_all (finished_after_all n rs) more
finished-joined n [] more = refl
finished-joined n (r ∷ rs) more = finished-joined (finished_after n r) rs more

accepted-front : (dp : Dp) (s : Replayed) (rs more : List RecordView) → MayFollowAll dp s (rs ++ more) → MayFollowAll dp s rs
accepted-front dp s [] more h = tt
accepted-front dp s (r ∷ rs) more h = (h.0, accepted-front dp (after_record dp s r) rs more h.1)

accepted-back : (dp : Dp) (s : Replayed) (rs more : List RecordView) → MayFollowAll dp s (rs ++ more) → MayFollowAll dp (after_records dp s rs) more
accepted-back dp s [] more h = h
accepted-back dp s (r ∷ rs) more h = accepted-back dp (after_record dp s r) rs more h.1

sound-first : (dp : Dp) (starts : List (List ℕ)) (within : ℤ) (n : ℕ) (s : Replayed) (rs : List RecordView) → StaySound dp starts within n s rs → IsSoundStateOf dp starts within n s
sound-first dp starts within n s [] h = h
sound-first dp starts within n s (r ∷ rs) h = h.0

sound-front : (dp : Dp) (starts : List (List ℕ)) (within : ℤ) (n : ℕ) (s : Replayed) (rs more : List RecordView) → StaySound dp starts within n s (rs ++ more) → StaySound dp starts within n s rs
sound-front dp starts within n s [] more h = sound-first dp starts within n s more h
sound-front dp starts within n s (r ∷ rs) more h = (h.0, sound-front dp starts within (finished_after n r) (after_record dp s r) rs more h.1)

pub records-join : (dp : Dp) → RecordsJoin dp
records-join dp s rs more = record {
  after = after-joined dp s rs more;
  finished = λ n. finished-joined n rs more;
  accepted = accepted-joined dp s rs more;
  accepted_front = accepted-front dp s rs more;
  accepted_back = accepted-back dp s rs more;
  last = λ starts within n. sound-last dp starts within n s rs;
  sound = λ starts within n. sound-joined dp starts within n s rs more;
  sound_front = λ starts within n. sound-front dp starts within n s rs more;
}

-- The incumbent.

most-then : (a b c : Option ℤ) → OptionAtMost a b → OptionAtMost b c → OptionAtMost a c
most-then None b c h k = tt
most-then (Some x) None c h k = absurd h
most-then (Some x) (Some y) None h k = absurd k
most-then (Some x) (Some y) (Some z) h k = omega (arith, ints)

above-most : (a : Option ℤ) (z : ℤ) → is_above a z ≡ true → OptionAtMost a (Some z)
above-most None z h = tt
above-most (Some x) z h = grind (arith, ints)

record-better : (dp : Dp) (s : Replayed) (r : RecordView) → MayFollow dp s r → TellsState dp s r → OptionAtMost (value_held s.incumbent) (value_held (after_record dp s r).incumbent)
record-better dp s (Improve worth ds) may tells = above-most (value_held s.incumbent) worth may.better
record-better dp s (Finish ticket cs) may tells = rw (added dp (taken_off ticket s) cs).incumbent (option-self (value_held s.incumbent))
record-better dp s (Snapshot best next os) may tells = rw tells.incumbent (option-self (value_held s.incumbent))

pub not-worse : (dp : Dp) → RecordsDoNotWorsen dp
not-worse dp s [] may = option-self (value_held s.incumbent)
not-worse dp s (r ∷ rs) may =
    let next = after_record dp s r in
    most-then (value_held s.incumbent) (value_held next.incumbent) (value_held (after_records dp next rs).incumbent) (record-better dp s r may.0.0 may.0.1) (not-worse dp next rs may.1)

-- Records after those of a journal.

journal-last : (dp : Dp) (starts : List (List ℕ)) (within : ℤ) (old : List RecordView) → AreSoundOf dp starts within old → IsSoundStateOf dp starts within (finished_after_all 0 old) (replay_of dp old)
journal-last dp starts within old h =
    let start = replay_start dp in
    subst (λ n. IsSoundStateOf dp starts within n (replay_of dp old)) (sym (since-from 0 old))
    (subst (IsSoundStateOf dp starts within (finished_after_all 0 (from_base old))) (sym (state-from dp start old)) (sound-last dp starts within 0 start (from_base old) h))

journal-accepted : (dp : Dp) (old new : List RecordView) → AreAccepted dp old → MayFollowAll dp (replay_of dp old) new → AreAccepted dp (old ++ new)
journal-accepted dp old new h k =
    let start = replay_start dp in
    subst (MayFollowAll dp start) (sym (from-joined old new))
    (by-cases (have_snapshot new) (λ b. MayFollowAll dp start (cond b (from_base new) (from_base old ++ new)))
    (λ more. follow-from dp (replay_of dp old) start new more k)
    (λ none. accepted-joined dp start (from_base old) new h (subst (λ s. MayFollowAll dp s new) (state-from dp start old) k)))

journal-sound : (dp : Dp) (starts : List (List ℕ)) (within : ℤ) (old new : List RecordView) → AreSoundOf dp starts within old → StaySound dp starts within (finished_after_all 0 old) (replay_of dp old) new → AreSoundOf dp starts within (old ++ new)
journal-sound dp starts within old new h k =
    let start = replay_start dp in
    subst (StaySound dp starts within 0 start) (sym (from-joined old new))
    (by-cases (have_snapshot new) (λ b. StaySound dp starts within 0 start (cond b (from_base new) (from_base old ++ new)))
    (λ more. sound-from dp starts within (finished_after_all 0 old) 0 (replay_of dp old) start new more (sound-first dp starts within 0 start (from_base old) h) k)
    (λ none. sound-joined dp starts within 0 start (from_base old) new h
    (subst (λ n. StaySound dp starts within n (after_records dp start (from_base old)) new) (since-from 0 old) (subst (λ s. StaySound dp starts within (finished_after_all 0 old) s new) (state-from dp start old) k))))

pub journals-grow : (dp : Dp) → JournalsGrow dp
journals-grow dp old new = record {
  after = after-joined dp (replay_start dp) old new;
  since = finished-joined 0 old new;
  accepted = journal-accepted dp old new;
  last = λ starts within. journal-last dp starts within old;
  sound = λ starts within. journal-sound dp starts within old new;
}

-- A good board.

pub sound-restore-good : (dp : Dp) → IsLawful dp → {starts : List (List ℕ)} → (settings : Settings) (rs : List RecordView) → AreSettings settings → AreAccepted dp rs → AreSoundOf dp starts settings.within rs
    → IsGoodFrom dp starts (restored_from settings (replay_of dp rs))
sound-restore-good dp laws {starts} settings rs are may sound =
    let s = replay_of dp rs in
    let last = journal-last dp starts settings.within rs sound in
    (restored-boards-keep dp laws settings s.incumbent s.listed s.next_ticket are (accepted-restore dp laws rs may)).good (finished_after_all 0 rs) last.list
