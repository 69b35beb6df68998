-- The file of a disk in memory, what a crash may leave of it, and the contents that it has had.
use Rattle.std.specs.Prelude.{◌≡◌, ◌⊎◌, ◌↔◌, ℕ, List, [], ◌∷◌, ◌++◌, length, drop}
use mathlib.Core.Logic.{inl, inr}
use Rattle.std.specs.declared.snapshot.Snapshot.{Snapshot}
use Rattle.disk.specs.declared.content.Write.{Write}
use Rattle.disk.specs.Disk.{Torn}

-- what a read gives, what the last sync has put on the disk, and the writes since then, the oldest first
pub record ContentView : Type 0 where
  pub bytes : List ℕ
  pub synced : List ℕ
  pub pending : List Write

-- from a content, through writes that a crash may cut short, the oldest first
abbrev pub Reaches : List ℕ → List Write → List ℕ → Type 0
Reaches base [] c = c ≡ base
Reaches base (write ∷ later) c = (d : List ℕ) × Torn write.at write.count base d × Reaches d later c

-- what a crash may leave
abbrev pub Leaves : ContentView → List ℕ → Type 0
Leaves content c = Reaches content.synced content.pending c

-- one of the past contents may have left this
abbrev pub HadLeft : List (Snapshot ContentView) → List ℕ → Type 0
HadLeft [] c = ⊥
HadLeft (before ∷ past) c = Leaves before.value c ⊎ HadLeft past c

-- what a crash since t might have left
abbrev pub LeftSince : List (Snapshot ContentView) → ContentView → ℕ → List ℕ → Type 0
LeftSince past content t c = Leaves content c ⊎ HadLeft (drop t past) c

-- the content from before is kept, or a crash leaves what it left before
abbrev pub Remembers : List (Snapshot ContentView) → ContentView → List (Snapshot ContentView) → ContentView → Type 0
Remembers past before later now = ((s : Snapshot ContentView) × (s.value ≡ before) × (later ≡ past ++ s ∷ [])) ⊎ ((later ≡ past) × ((c : List ℕ) → Leaves now c ↔ Leaves before c))

none_left : (past : List (Snapshot ContentView)) (c : List ℕ) → HadLeft (drop (length past) past) c → ⊥
none_left [] c had = had
none_left (s ∷ past) c had = none_left past c had

-- since now there is what a crash may leave now
pub only_now : (past : List (Snapshot ContentView)) (content : ContentView) (c : List ℕ) → LeftSince past content (length past) c → Leaves content c
only_now past content c (inl now) = now
only_now past content c (inr had) = absurd (none_left past c had)
