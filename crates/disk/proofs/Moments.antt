-- What a crash may leave of a disk in memory as its calls go on.
use Rattle.std.proofs.Common.{◌≡◌, ◌⊎◌, ◌↔◌, inl, inr, ⊎_elim, ℕ, zero, suc, ◌+◌, ◌-◌, ◌≤◌, List, [], ◌∷◌, ◌++◌, length, drop, refl, sym, subst, arith, length-append, Option, Some, None, Vec, Global}
use Rattle.std.specs.Prelude.{IsSome}
use Rattle.std.proofs.lemmas.Bool.{false≢true}
use Rattle.std.specs.declared.snapshot.Snapshot.{Snapshot}
use Rattle.disk.specs.declared.content.Write.{Write}
use Rattle.disk.specs.Disk.{Torn, Follows, Elapses}
use Rattle.disk.specs.Synced.{synced_or}
use Rattle.disk.specs.Content.{ContentView, Reaches, Leaves, HadLeft, LeftSince, Remembers}

-- the last write of some is the last step
pub reaches_push : (base : List ℕ) (writes : List Write) (write : Write) (c : List ℕ) → Reaches base (writes ++ write ∷ []) c → (d : List ℕ) × Reaches base writes d × Torn write.at write.count d c
reaches_push base [] write c (d, torn, same) = (base, refl, subst (Torn write.at write.count base) (sym same) torn)
reaches_push base (w ∷ writes) write c (d, torn, rest) =
    let from = reaches_push d writes write c rest in (from.0, (d, torn, from.1), from.2)

abbrev Past : Type 0
Past = List (Snapshot ContentView)

keeps : (past : Past) (s : Snapshot ContentView) (c : List ℕ) → HadLeft past c → HadLeft (past ++ s ∷ []) c
keeps [] s c had = absurd had
keeps (p ∷ past) s c (inl here) = inl here
keeps (p ∷ past) s c (inr there) = inr (keeps past s c there)

adds : (past : Past) (s : Snapshot ContentView) (c : List ℕ) → HadLeft (past ++ s ∷ []) c → HadLeft past c ⊎ Leaves s.value c
adds [] s c (inl here) = inr here
adds [] s c (inr none) = absurd none
adds (p ∷ past) s c (inl here) = inl (inl here)
adds (p ∷ past) s c (inr there) = ⊎_elim (λ had. inl (inr had)) (λ new. inr new) (adds past s c there)

newest : (past : Past) (s : Snapshot ContentView) (c : List ℕ) → Leaves s.value c → HadLeft (past ++ s ∷ []) c
newest [] s c left = inl left
newest (p ∷ past) s c left = inr (newest past s c left)

drop_push : (t : ℕ) (past : Past) (s : Snapshot ContentView) → t ≤ length past → drop t (past ++ s ∷ []) ≡ drop t past ++ s ∷ []
drop_push zero past s le = refl
drop_push (suc t) [] s le = absurd (omega arith)
drop_push (suc t) (p ∷ past) s le = drop_push t past s (omega arith)

pub elapses_same : (past : Past) (old new : ContentView) → ((c : List ℕ) → Leaves new c ↔ Leaves old c) → Elapses (length past) (length past) (LeftSince past old) (LeftSince past new) (Leaves new)
elapses_same past old new same = record {
  later = omega arith;
  nothing_else = λ t c le left. ⊎_elim (λ now. inr now) (λ had. inl (inr had)) left;
  keeps = λ t c le left. ⊎_elim (λ now. inl ((same c).1 now)) (λ had. inr had) left;
}

elapses_push : (past : Past) (s : Snapshot ContentView) (old new : ContentView) → s.value ≡ old → Elapses (length past) (length (past ++ s ∷ [])) (LeftSince past old) (LeftSince (past ++ s ∷ []) new) (Leaves new)
elapses_push past s old new is = record {
  later = omega (arith, length-append past (s ∷ []));
  nothing_else = λ t c le left. ⊎_elim (λ now. inr now) (λ had. inl (was t c (adds (drop t past) s c (subst (λ (l : Past). HadLeft l c) (drop_push t past s le) had)))) left;
  keeps = λ t c le left. inr (subst (λ (l : Past). HadLeft l c) (sym (drop_push t past s le)) (⊎_elim (λ now. newest (drop t past) s c (subst (λ (x : ContentView). Leaves x c) (sym is) now)) (keeps (drop t past) s c) left));
}
  where
    was : (t : ℕ) (c : List ℕ) → HadLeft (drop t past) c ⊎ Leaves s.value c → LeftSince past old t c
    was t c (inl had) = inr had
    was t c (inr new) = inl (subst (λ (x : ContentView). Leaves x c) is new)

pub elapses_to : (past later : Past) (s : Snapshot ContentView) (old new : ContentView) → s.value ≡ old → later ≡ past ++ s ∷ [] → Elapses (length past) (length later) (LeftSince past old) (LeftSince later new) (Leaves new)
elapses_to past later s old new is same =
    subst (λ (l : Past). Elapses (length past) (length l) (LeftSince past old) (LeftSince l new) (Leaves new)) (sym same) (elapses_push past s old new is)

-- time goes on as the contents are remembered
pub elapses : (past later : Past) (old new : ContentView) → Remembers past old later new → Elapses (length past) (length later) (LeftSince past old) (LeftSince later new) (Leaves new)
elapses past later old new (inl (s, is, same)) = elapses_to past later s old new is same
elapses past later old new (inr (same, outcomes)) =
    subst (λ (l : Past). Elapses (length past) (length l) (LeftSince past old) (LeftSince l new) (Leaves new)) (sym same) (elapses_same past old new outcomes)

pub torn_same : (at n : ℕ) (file : List ℕ) → Torn at n file file
torn_same at n file = record { before = refl; after = refl; no_shorter = omega arith; no_longer = omega arith }

pub reaches_none : (base : List ℕ) (writes : List Write) → Reaches base writes base
reaches_none base [] = refl
reaches_none base (w ∷ writes) = (base, torn_same w.at w.count base, reaches_none base writes)

-- the next write of those that are left
pub reaches_step : (base image next : List ℕ) (writes : List Write) (i : ℕ) (write : Write) → drop i writes ≡ write ∷ drop (i + 1) writes → Torn write.at write.count image next
    → ((c : List ℕ) → Reaches image (drop i writes) c → Reaches base writes c) → (c : List ℕ) → Reaches next (drop (i + 1) writes) c → Reaches base writes c
reaches_step base image next writes i write is torn so_far c left =
    so_far c (subst (λ (ws : List Write). Reaches image ws c) (sym is) (next, torn, left))

-- a write that was not noted yet
pub follows_same : (old now : ContentView) (at n : ℕ) → now.synced ≡ old.synced → now.pending ≡ old.pending → Follows (Torn at n) (Leaves old) (Leaves now)
follows_same old now at n synced pending c left =
    let kept = subst (λ (base : List ℕ). Reaches base now.pending c) synced left in
    (c, subst (λ (ws : List Write). Reaches old.synced ws c) pending kept, torn_same at n c)

-- a write that was noted
pub follows_push : (old now : ContentView) (write : Write) → now.synced ≡ old.synced → now.pending ≡ old.pending ++ write ∷ [] → Follows (Torn write.at write.count) (Leaves old) (Leaves now)
follows_push old now write synced pending c left =
    let kept = subst (λ (base : List ℕ). Reaches base now.pending c) synced left in
    reaches_push old.synced old.pending write c (subst (λ (ws : List Write). Reaches old.synced ws c) pending kept)

-- what is kept of the last sync stays as the bytes change
pub synced_stays : (synced : Option (Vec ℕ Global)) (bytes later : List ℕ) → IsSome synced → synced_or synced bytes ≡ synced_or synced later
synced_stays (Some kept) bytes later some = refl
synced_stays None bytes later some = absurd (false≢true some)
