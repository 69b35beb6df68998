-- A record's children, one after another on a list.
use Rattle.std.proofs.Common.{◌≡◌, ◌≢◌, ℕ, ◌+◌, ◌<◌, ◌≤◌, nat_eq, true, ◌&&◌, List, [], ◌∷◌, length, Option, Some, None, inl, inr, refl, sym, ◌∙◌, ap, subst, IsTrue, arith}
use Rattle.dp_model.specs.Dp.{Dp}
use Rattle.dp_model.specs.Lists.{Each, OneOf}
use Rattle.dp_model.specs.Numbers.{IsFar}
use Rattle.dp_model.specs.Rows.{row_same}
use Rattle.dp_model.specs.Subproblem.{Subproblem, IsChild}
use Rattle.dp_model.proofs.Members.{Has, Each-then, Each-append}
use Rattle.dp_laws.specs.Children.{DifferInPlace}
use Rattle.dp_laws.specs.Pairs.{EachTwo}
use Rattle.dp_laws.proofs.Lists.{each-filter}
use Rattle.fringe.specs.Fringe.{is_same}
use Rattle.fringe.specs.Tickets.{Ticketed, IsEarlier}
use Rattle.fringe.proofs.Rows.{same-depth, same-row}
use Rattle.board_laws.proofs.Fates.{same-ticket}
use Rattle.board_laws.proofs.Lists.{one-each, one-out}
use Rattle.journal_bytes.specs.Bodies.{ChildView}
use Rattle.journal_replay.specs.Replay.{Replayed, listed_at, child_of, unless_replaced, with_child, with_children}
use Rattle.journal_replay.specs.Accepting.{is_like, may_replace, MayAddAll}
use Rattle.journal_replay.proofs.Added.{kids_listed}
use Rattle.journal_replay.proofs.Entered.{ReplacesOpen, Spares}
use Rattle.journal_replay.proofs.Tickets.{at-without, at-front, at-end}

-- no subproblem has the depth and state of two that differ in them
twice-same : (a b : Subproblem) (o : Ticketed) → is_same (length a.decisions) a.row o ≡ true → is_same (length b.decisions) b.row o ≡ true → DifferInPlace a b → ⊥
twice-same a b o at_a at_b differ =
    let depth = sym (same-depth (length b.decisions) b.row o at_b) in
    let row = sym (same-row (length b.decisions) b.row o at_b) in
    let same : (nat_eq (length b.decisions) (length a.decisions) && row_same b.row a.row) ≡ true =
    subst (λ r. (nat_eq (length b.decisions) (length a.decisions) && row_same r a.row) ≡ true) row
    (subst (λ d. (nat_eq d (length a.decisions) && row_same o.subproblem.row a.row) ≡ true) depth at_a) in
    cc

-- one that a child does not replace is still found
still-found : (t : ℕ) (y : Ticketed) (os : List Ticketed) (replaced : Option ℕ) → Spares t replaced → listed_at t os ≡ Some y → listed_at t (unless_replaced replaced os) ≡ Some y
still-found t y os None spares h = h
still-found t y os (Some old) spares h = at-without t old os spares ∙ h

pub found-with : (dp : Dp) (t : ℕ) (y : Ticketed) (s : Replayed) (r : ChildView) → Spares t r.replaced → listed_at t s.listed ≡ Some y → listed_at t (with_child dp s r).listed ≡ Some y
found-with dp t y s r spares h =
    at-front t (unless_replaced r.replaced s.listed) (record { ticket = s.next_ticket; subproblem = child_of dp r } ∷ []) y (still-found t y s.listed r.replaced spares h)

pub stays-found : (dp : Dp) (t : ℕ) (y : Ticketed) (s : Replayed) (rs : List ChildView) → Each (λ r. Spares t r.replaced) rs → listed_at t s.listed ≡ Some y → listed_at t (with_children dp s rs).listed ≡ Some y
stays-found dp t y s [] spares h = h
stays-found dp t y s (r ∷ rs) spares h = stays-found dp t y (with_child dp s r) rs spares.1 (found-with dp t y s r spares.0 h)

-- a child that replaces an earlier ticket than this, or none
abbrev pub ReplacesBelow : ℕ → Option ℕ → Type 0
ReplacesBelow next None = Unit {0}
ReplacesBelow next (Some old) = old < next

below-spares : (next t : ℕ) (replaced : Option ℕ) → next ≤ t → ReplacesBelow next replaced → Spares t replaced
below-spares next t None le h = tt
below-spares next t (Some old) le h = let differ : t ≢ old = omega arith in differ

each-unless : (P : Ticketed → Type 0) (replaced : Option ℕ) (os : List Ticketed) → Each P os → Each P (unless_replaced replaced os)
each-unless P None os h = h
each-unless P (Some old) os h = each-filter P _ os h

-- the children of a record are found under their tickets
pub kids-found : (dp : Dp) (next : ℕ) (s : Replayed) (rs : List ChildView) → next ≤ s.next_ticket → Each (λ o. o.ticket < s.next_ticket) s.listed → Each (λ r. ReplacesBelow next r.replaced) rs
    → Each (λ k. listed_at k.ticket (with_children dp s rs).listed ≡ Some k) (kids_listed dp s.next_ticket rs)
kids-found dp next s [] le given below = tt
kids-found dp next s (r ∷ rs) le given below =
    let k : Ticketed = record { ticket = s.next_ticket; subproblem = child_of dp r } in
    let left = unless_replaced r.replaced s.listed in
    let given_left = each-unless (λ o. o.ticket < s.next_ticket) r.replaced s.listed given in
    let here = at-end left k (Each-then (λ (o : Ticketed). o.ticket < s.next_ticket) (λ o. o.ticket ≢ k.ticket) left (λ o less. let differ : o.ticket ≢ s.next_ticket = omega arith in differ) given_left) in
    let later = Each-append (λ o. o.ticket < s.next_ticket + 1) left (k ∷ []) (Each-then (λ (o : Ticketed). o.ticket < s.next_ticket) (λ o. o.ticket < s.next_ticket + 1) left (λ o less. omega arith) given_left) (omega arith, tt) in (
      stays-found dp s.next_ticket k (with_child dp s r) rs (Each-then (λ (q : ChildView). ReplacesBelow next q.replaced) (λ q. Spares s.next_ticket q.replaced) rs (λ q x. below-spares next s.next_ticket q.replaced le x) below.1) here,
      kids-found dp next (with_child dp s r) rs (omega arith) later below.1,
    )

-- each opens one of the depth and state of one of these children is found
abbrev pub Stand : List Ticketed → List Ticketed → Replayed → Type 0
Stand os ks s = (o : Ticketed) → Has o os → OneOf (λ k. is_same (length k.subproblem.decisions) k.subproblem.row o ≡ true) ks → listed_at o.ticket s.listed ≡ Some o

may-replace : (dp : Dp) (os ks : List Ticketed) (s : Replayed) (r : ChildView) (replaced : Option ℕ) → ReplacesOpen dp os r.decisions replaced
    → Stand os (record { ticket = s.next_ticket; subproblem = child_of dp r } ∷ ks) s → IsTrue (may_replace replaced (child_of dp r) s.listed)
may-replace dp os ks s r None opens stand = refl
may-replace dp os ks s r (Some old) like stand =
    let at = ap (λ t. listed_at t s.listed) like.ticket_is ∙ stand like.other like.in_list (inl like.same) in
    subst (λ x. IsTrue (is_like (child_of dp r) x)) (sym at) like.same

spared : (dp : Dp) (os ks : List Ticketed) (r : ChildView) (replaced : Option ℕ) (o : Ticketed) → ReplacesOpen dp os r.decisions replaced → EachTwo IsEarlier os
    → Each (λ k. DifferInPlace (child_of dp r) k.subproblem) ks → Has o os → OneOf (λ k. is_same (length k.subproblem.decisions) k.subproblem.row o ≡ true) ks → Spares o.ticket replaced
spared dp os ks r None o opens rise differ in_list one = tt
spared dp os ks r (Some old) o like rise differ in_list one =
    λ same.
    let is = same-ticket os o like.other rise in_list like.in_list (same ∙ like.ticket_is) in
    let at = subst (λ x. is_same (length r.decisions) (child_of dp r).row x ≡ true) (sym is) like.same in
    one-out (λ (k : Ticketed). (is_same (length k.subproblem.decisions) k.subproblem.row o ≡ true) × DifferInPlace (child_of dp r) k.subproblem) ⊥
    (λ k x. twice-same (child_of dp r) k.subproblem o at x.0 x.1) ks
    (one-each (λ (k : Ticketed). is_same (length k.subproblem.decisions) k.subproblem.row o ≡ true) (λ k. DifferInPlace (child_of dp r) k.subproblem) ks one differ)

-- children that differ in depth or state may be added one after another, where what they replace is opens
pub may-add-all : (dp : Dp) (p : List ℕ) (os : List Ticketed) (s : Replayed) (rs : List ChildView) → EachTwo IsEarlier os → Each (λ r. ReplacesOpen dp os r.decisions r.replaced) rs
    → Each (λ k. IsChild dp p k.subproblem × IsFar k.subproblem.bound) (kids_listed dp s.next_ticket rs) → EachTwo (λ a k. DifferInPlace a.subproblem k.subproblem) (kids_listed dp s.next_ticket rs)
    → Stand os (kids_listed dp s.next_ticket rs) s → MayAddAll dp p s rs
may-add-all dp p os s [] rise opens kids differ stand = tt
may-add-all dp p os s (r ∷ rs) rise opens kids differ stand =
    let ks = kids_listed dp (s.next_ticket + 1) rs in (
      record { child = kids.0.0; far = kids.0.1; replaced = may-replace dp os ks s r r.replaced opens.0 stand },
      may-add-all dp p os (with_child dp s r) rs rise opens.1 kids.1 differ.1
          (λ o in_list one. found-with dp o.ticket o s r (spared dp os ks r r.replaced o opens.0 rise differ.0 in_list one) (stand o in_list (inr one))),
    )
