-- What a call at each seat says of all seats.
use Rattle.std.proofs.Common.{◌≡◌, List, [], ◌∷◌, map, length, refl, arith}
use Rattle.std.specs.List.{All, AllByRecursion}
use Rattle.std.proofs.lemmas.List.Elements.{recursion_from_All, All-from_recursion}
use denote.Ref.{MutBor}
use denote.Param.Members.{Shared}
use Rattle.search_workers.specs.Each.{Accepts, Changes, Leaves, EachAccepts, EachChanges, MayCall, HaveLeft, Pairwise}

module _ {F S K : Type 0} (g : Shared F (MutBor S × (MutBor K × Unit {0})) (Unit {0} × (MutBor S × (MutBor K × Unit {0})))) (f : F) where
  pub leaves_of : (s t : S) (k l : K) → Changes g f s t k l → Leaves g f s t k l
  unfolding Leaves
  leaves_of s t k l h = h

  pub changes_of : (s t : S) (k l : K) → Leaves g f s t k l → Changes g f s t k l
  unfolding Leaves
  changes_of s t k l h = h

  -- where facts of a seat and of a desk let f be called, and they hold at each place
  pub each_accepts : (P : S → Type 0) (D : K → Type 0) → ((s : S) (k : K) → P s → D k → Accepts g f s k) → (ss : List S) (ks : List K) → length ss ≡ length ks
      → AllByRecursion P ss → AllByRecursion D ks → EachAccepts g f ss ks
  each_accepts P D take [] [] e h d = tt
  each_accepts P D take [] (k ∷ ks) e h d = absurd (omega arith)
  each_accepts P D take (s ∷ ss) [] e h d = absurd (omega arith)
  each_accepts P D take (s ∷ ss) (k ∷ ks) e h d = (take s k h.0 d.0, each_accepts P D take ss ks (omega arith) h.1 d.1)

  pub may_call : (P : S → Type 0) (D : K → Type 0) → ((s : S) (k : K) → P s → D k → Accepts g f s k) → (ss : List S) (ks : List K) → length ss ≡ length ks → All P ss → All D ks → MayCall g f ss ks
  unfolding MayCall
  may_call P D take ss ks e h d = each_accepts P D take ss ks e (recursion_from_All P ss h) (recursion_from_All D ks d)

  pub may_of : (ss : List S) (ks : List K) → MayCall g f ss ks → EachAccepts g f ss ks
  unfolding MayCall
  may_of ss ks h = h

  pub left_of : (ss ts : List S) (ks ls : List K) → EachChanges g f ss ts ks ls → HaveLeft g f ss ts ks ls
  unfolding HaveLeft
  left_of ss ts ks ls h = h

  -- what a call leaves at each seat, given that it left Q there
  pub each_left : (Q : S → S → Type 0) → ((s t : S) (k l : K) → Leaves g f s t k l → Q s t) → (ss ts : List S) (ks ls : List K) → EachChanges g f ss ts ks ls → Pairwise Q ss ts
  each_left Q of [] [] [] [] h = tt
  each_left Q of (s ∷ ss) (t ∷ ts) (k ∷ ks) (l ∷ ls) h = (of s t k l h.0, each_left Q of ss ts ks ls h.1)
  each_left Q of [] [] [] (l ∷ ls) h = absurd h
  each_left Q of [] [] (k ∷ ks) ls h = absurd h
  each_left Q of [] (t ∷ ts) ks ls h = absurd h
  each_left Q of (s ∷ ss) [] ks ls h = absurd h
  each_left Q of (s ∷ ss) (t ∷ ts) [] ls h = absurd h
  each_left Q of (s ∷ ss) (t ∷ ts) (k ∷ ks) [] h = absurd h

  pub have_left : (Q : S → S → Type 0) → ((s t : S) (k l : K) → Changes g f s t k l → Q s t) → (ss ts : List S) (ks ls : List K) → HaveLeft g f ss ts ks ls → Pairwise Q ss ts
  unfolding HaveLeft
  have_left Q of ss ts ks ls h = each_left Q (λ s t k l x. of s t k l (changes_of s t k l x)) ss ts ks ls h

  each_desk : (D : K → Type 0) → ((s t : S) (k l : K) → Leaves g f s t k l → D l) → (ss ts : List S) (ks ls : List K) → EachChanges g f ss ts ks ls → AllByRecursion D ls
  each_desk D of [] [] [] [] h = tt
  each_desk D of (s ∷ ss) (t ∷ ts) (k ∷ ks) (l ∷ ls) h = (of s t k l h.0, each_desk D of ss ts ks ls h.1)
  each_desk D of [] [] [] (l ∷ ls) h = absurd h
  each_desk D of [] [] (k ∷ ks) ls h = absurd h
  each_desk D of [] (t ∷ ts) ks ls h = absurd h
  each_desk D of (s ∷ ss) [] ks ls h = absurd h
  each_desk D of (s ∷ ss) (t ∷ ts) [] ls h = absurd h
  each_desk D of (s ∷ ss) (t ∷ ts) (k ∷ ks) [] h = absurd h

  -- what a call leaves of each desk
  pub desks_left : (D : K → Type 0) → ((s t : S) (k l : K) → Changes g f s t k l → D l) → (ss ts : List S) (ks ls : List K) → HaveLeft g f ss ts ks ls → All D ls
  unfolding HaveLeft
  desks_left D of ss ts ks ls h = All-from_recursion D ls (each_desk D (λ s t k l x. of s t k l (changes_of s t k l x)) ss ts ks ls h)

  each_long : (ss ts : List S) (ks ls : List K) → EachChanges g f ss ts ks ls → length ls ≡ length ks
  each_long [] [] [] [] h = refl
  each_long (s ∷ ss) (t ∷ ts) (k ∷ ks) (l ∷ ls) h = let rest = each_long ss ts ks ls h.1 in omega arith
  each_long [] [] [] (l ∷ ls) h = absurd h
  each_long [] [] (k ∷ ks) ls h = absurd h
  each_long [] (t ∷ ts) ks ls h = absurd h
  each_long (s ∷ ss) [] ks ls h = absurd h
  each_long (s ∷ ss) (t ∷ ts) [] ls h = absurd h
  each_long (s ∷ ss) (t ∷ ts) (k ∷ ks) [] h = absurd h

  -- there are as many desks
  pub left_long : (ss ts : List S) (ks ls : List K) → HaveLeft g f ss ts ks ls → length ls ≡ length ks
  unfolding HaveLeft
  left_long ss ts ks ls h = each_long ss ts ks ls h

module _ {S : Type 0} where
  pub pairs_right : (Q : S → S → Type 0) (P : S → Type 0) → ((s t : S) → Q s t → P t) → (ss ts : List S) → Pairwise Q ss ts → AllByRecursion P ts
  pairs_right Q P of [] [] h = tt
  pairs_right Q P of (s ∷ ss) (t ∷ ts) h = (of s t h.0, pairs_right Q P of ss ts h.1)
  pairs_right Q P of [] (t ∷ ts) h = absurd h
  pairs_right Q P of (s ∷ ss) [] h = absurd h

  pub all_right : (Q : S → S → Type 0) (P : S → Type 0) → ((s t : S) → Q s t → P t) → (ss ts : List S) → Pairwise Q ss ts → All P ts
  all_right Q P of ss ts h = All-from_recursion P ts (pairs_right Q P of ss ts h)

  pub pairs_map : {A : Type 0} (Q : S → S → Type 0) (a : S → A) → ((s t : S) → Q s t → a t ≡ a s) → (ss ts : List S) → Pairwise Q ss ts → map a ts ≡ map a ss
  pairs_map Q a of [] [] h = refl
  pairs_map Q a of (s ∷ ss) (t ∷ ts) h = λ i. of s t h.0 i ∷ pairs_map Q a of ss ts h.1 i
  pairs_map Q a of [] (t ∷ ts) h = absurd h
  pairs_map Q a of (s ∷ ss) [] h = absurd h
