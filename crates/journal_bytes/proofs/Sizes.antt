-- The sizes of bodies.
use Rattle.std.proofs.Common.{◌≡◌, ℕ, ◌+◌, ◌*◌, ◌^◌, ◌<◌, ◌≤◌, List, [], ◌∷◌, ◌++◌, length, map, take, get_or, Option, Some, None, Result, Ok, Err, Vec, Global, refl, ap, subst, ◌∙◌, append_assoc, length-append, arith}
use Rattle.std.specs.Prelude.{All, sum_by, IfOk, IfSome, option_map, ℤ}
use Rattle.std.specs.List.{flat_map}
use Rattle.std.specs.Int.{w32, w64, to_be_bytes, cast_unsigned}
use Rattle.std.proofs.lemmas.List.{length-map, get_or-map, map-append, take_more, append-nil}
use Rattle.std.proofs.lemmas.Grind.{flat_map-append}
use Rattle.std.proofs.lemmas.List.Sums.{get_or-le-sum_by, sum_by-cons}
use Rattle.journal_bytes.specs.declared.record.Child.{Child}
use Rattle.journal_bytes.specs.declared.record.Incumbent.{Incumbent}
use Rattle.journal_bytes.specs.declared.record.Listed.{Listed}
use Rattle.journal_bytes.specs.Bodies.{ChildView, IncumbentView, ListedView, RecordView, Improve, Finish, Snapshot}
use Rattle.journal_bytes.specs.declared.head.Part.{Part}
use Rattle.journal_bytes.specs.Journal.{HeadView}
use Rattle.journal_bytes.specs.Spelling.{PartFits, version_for, mark_bytes, mark_size, head_bytes, numbers, decision_bytes, bounded_bytes, child_bytes, listed_bytes, best_bytes, record_bytes, child_size, listed_size, best_size, record_size, number_of_ticket, IsTicket}
use Rattle.journal_bytes.specs.Views.{child_view, incumbent_view, listed_view}

length-numbers : (ds : List ℕ) → length (numbers ds) ≡ 4 * length ds
length-numbers [] = refl
length-numbers (d ∷ ds) = omega (arith, length-numbers ds, length-append (to_be_bytes w32 d) (numbers ds))

length-decisions : (ds : List ℕ) → length (decision_bytes ds) ≡ 4 + 4 * length ds
unfolding decision_bytes
length-decisions ds = omega (arith, length-numbers ds)

length-bounded : (number : ℕ) (bound : ℤ) (ds : List ℕ) → length (bounded_bytes number bound ds) ≡ 20 + 4 * length ds
unfolding bounded_bytes
length-bounded number bound ds = omega (arith, length-decisions ds)

length-children : (cs : List ChildView) → length (flat_map child_bytes cs) ≡ sum_by child_size cs
length-children [] = refl
length-children (c ∷ cs) = omega (arith, sum_by-cons child_size c cs, length-bounded (number_of_ticket c.replaced) c.bound c.decisions, length-children cs, length-append (child_bytes c) (flat_map child_bytes cs))

length-listed : (os : List ListedView) → length (flat_map listed_bytes os) ≡ sum_by listed_size os
length-listed [] = refl
length-listed (o ∷ os) = omega (arith, sum_by-cons listed_size o os, length-bounded o.ticket o.bound o.decisions, length-listed os, length-append (listed_bytes o) (flat_map listed_bytes os))

length-best : (best : Option IncumbentView) → length (best_bytes best) ≡ best_size best
unfolding best_bytes
length-best None = refl
length-best (Some b) = omega (arith, length-decisions b.decisions, length-append (to_be_bytes w64 (cast_unsigned w64 b.value)) (decision_bytes b.decisions))

-- the bytes of a snapshot, field by field
pub snapshot_parts : (best : Option IncumbentView) (next : ℕ) (os : List ListedView) → record_bytes (Snapshot best next os) ≡ best_bytes best ++ (to_be_bytes w64 next ++ (to_be_bytes w32 (length os) ++ flat_map listed_bytes os))
unfolding record_bytes
snapshot_parts best next os = simp append_assoc

pub length-record : (r : RecordView) → length (record_bytes r) ≡ record_size r
unfolding record_bytes
length-record (Improve value ds) = omega (arith, length-decisions ds)
length-record (Finish ticket cs) = omega (arith, length-children cs)
length-record (Snapshot best next os) =
    let whole : length (record_bytes (Snapshot best next os)) ≡ length (best_bytes best) + length (to_be_bytes w64 next ++ (to_be_bytes w32 (length os) ++ flat_map listed_bytes os)) =
    ap length (snapshot_parts best next os) ∙ length-append (best_bytes best) (to_be_bytes w64 next ++ (to_be_bytes w32 (length os) ++ flat_map listed_bytes os)) in
    omega (arith, whole, length-best best, length-listed os)

-- where the body of a record was written
pub sized : {E : Type 0} (result : Result (Vec ℕ Global) E) (r : RecordView) → IfOk result (λ v. v.items ≡ record_bytes r) → IfOk result (λ v. length v.items ≡ record_size r)
sized (Ok v) r bytes = ap length bytes ∙ length-record r
sized (Err e) r bytes = tt

count-children : (cs : List ChildView) → length cs ≤ sum_by child_size cs
count-children [] = omega arith
count-children (c ∷ cs) = omega (arith, sum_by-cons child_size c cs, count-children cs)

-- what the size of a list of children bounds
pub count_fits : (cs : List Child) → 12 + sum_by child_size (map child_view cs) < 2 ^ 32 → length cs < 2 ^ 32
count_fits cs small = omega (arith, count-children (map child_view cs), length-map cs child_view)

pub counts_fit : (cs : List Child) → 12 + sum_by child_size (map child_view cs) < 2 ^ 32 → All (λ c. length c.decisions.items < 2 ^ 32) cs
counts_fit cs small k d lt =
    let one : get_or (map child_view cs) k (child_view d) ≡ child_view (get_or cs k d) = get_or-map child_view cs k d (child_view d) lt in
    let within : child_size (get_or (map child_view cs) k (child_view d)) ≤ sum_by child_size (map child_view cs) = get_or-le-sum_by child_size (map child_view cs) k (child_view d) (omega (arith, length-map cs child_view)) in
    let size : child_size (child_view (get_or cs k d)) ≤ sum_by child_size (map child_view cs) = subst (λ (c : ChildView). child_size c ≤ sum_by child_size (map child_view cs)) one within in
    omega (arith, size)

pub tickets_of : (cs : List Child) → All (λ c. IsTicket c.replaced) (map child_view cs) → All (λ c. IsTicket c.replaced) cs
tickets_of cs all k d lt =
    let one : get_or (map child_view cs) k (child_view d) ≡ child_view (get_or cs k d) = get_or-map child_view cs k d (child_view d) lt in
    subst (λ (c : ChildView). IsTicket c.replaced) one (all k (child_view d) (omega (arith, length-map cs child_view)))

-- that of a list of subproblems
count-listed : (os : List ListedView) → length os ≤ sum_by listed_size os
count-listed [] = omega arith
count-listed (o ∷ os) = omega (arith, sum_by-cons listed_size o os, count-listed os)

pub listed_fit : (os : List Listed) → sum_by listed_size (map listed_view os) < 2 ^ 32 → length os < 2 ^ 32
listed_fit os small = omega (arith, count-listed (map listed_view os), length-map os listed_view)

pub each_listed_fits : (os : List Listed) → sum_by listed_size (map listed_view os) < 2 ^ 32 → All (λ o. length o.decisions.items < 2 ^ 32) os
each_listed_fits os small k d lt =
    let one : get_or (map listed_view os) k (listed_view d) ≡ listed_view (get_or os k d) = get_or-map listed_view os k d (listed_view d) lt in
    let within : listed_size (get_or (map listed_view os) k (listed_view d)) ≤ sum_by listed_size (map listed_view os) = get_or-le-sum_by listed_size (map listed_view os) k (listed_view d) (omega (arith, length-map os listed_view)) in
    let size : listed_size (listed_view (get_or os k d)) ≤ sum_by listed_size (map listed_view os) = subst (λ (o : ListedView). listed_size o ≤ sum_by listed_size (map listed_view os)) one within in
    omega (arith, size)

pub best_fits : (best : Option Incumbent) → best_size (option_map incumbent_view best) < 2 ^ 32 → IfSome best (λ b. length b.decisions.items < 2 ^ 32)
best_fits None small = tt
best_fits (Some b) small = omega (arith, small)

-- the bytes of one more of a list
pub bytes_more : {X Y : Type 0} (view : X → Y) (bytes : Y → List ℕ) (xs : List X) (i : ℕ) (d : X) → i < length xs → flat_map bytes (map view (take (i + 1) xs)) ≡ flat_map bytes (map view (take i xs)) ++ bytes (view (get_or xs i d))
bytes_more {X} view bytes xs i d lt =
    let one : X = get_or xs i d in
    ap (λ (l : List X). flat_map bytes (map view l)) (take_more xs i d lt) ∙ ap (flat_map bytes) (map-append view (take i xs) (one ∷ []))
    ∙ flat_map-append bytes (map view (take i xs)) (view one ∷ []) ∙ ap (λ (l : List ℕ). flat_map bytes (map view (take i xs)) ++ l) (append-nil (bytes (view one)))

-- a number, a bound and decisions, one after the other
pub bounded_is : (old first second new : List ℕ) (number : ℕ) (bound : ℤ) (ds : List ℕ) → first ≡ old ++ to_be_bytes w64 number → second ≡ first ++ to_be_bytes w64 (cast_unsigned w64 bound) → new ≡ second ++ decision_bytes ds → new ≡ old ++ bounded_bytes number bound ds
unfolding bounded_bytes
bounded_is old first second new number bound ds a b d =
    d ∙ ap (λ (l : List ℕ). l ++ decision_bytes ds) (b ∙ ap (λ (l : List ℕ). l ++ to_be_bytes w64 (cast_unsigned w64 bound)) a) ∙ simp append_assoc

-- the best solution, after the byte that tells of it
pub best_is : (old first second new : List ℕ) (b : IncumbentView) → first ≡ old ++ 1 ∷ [] → second ≡ first ++ to_be_bytes w64 (cast_unsigned w64 b.value) → new ≡ second ++ decision_bytes b.decisions → new ≡ old ++ best_bytes (Some b)
unfolding best_bytes
best_is old first second new b a c d =
    d ∙ ap (λ (l : List ℕ). l ++ decision_bytes b.decisions) (c ∙ ap (λ (l : List ℕ). l ++ to_be_bytes w64 (cast_unsigned w64 b.value)) a) ∙ simp append_assoc

length-mark : (mark : Option Part) → IfSome mark PartFits → length (mark_bytes mark) ≡ mark_size mark
unfolding mark_bytes
length-mark None fits = refl
length-mark (Some p) fits = omega (arith, fits.digest)

-- the bytes of a head
pub length-head : (h : HeadView) → IfSome h.part PartFits → length (head_bytes h) ≡ 17 + mark_size h.part + length h.text
unfolding head_bytes
length-head h fits =
    omega (arith, length-mark h.part fits, length-append (mark_bytes h.part ++ to_be_bytes w32 (length h.text)) h.text, length-append (mark_bytes h.part) (to_be_bytes w32 (length h.text)))
