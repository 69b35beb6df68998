-- What is spelled is read again.
use Rattle.std.proofs.Common.{◌≡◌, ℕ, suc, ◌-◌, ◌^◌, ◌<◌, true, false, ltb, List, [], ◌∷◌, ◌++◌, length, Option, Some, None, Result, Ok, Err, Vec, Global, refl, sym, ap, ◌∙◌, append_assoc, length-append, arith}
use Rattle.std.specs.Prelude.{All, IfOk, OnOk, ℤ, IfSome, FitsSigned, nat_le, ◌==◌, if◌then◌else◌}
use Rattle.std.specs.List.{flat_map, AllByRecursion}
use Rattle.std.specs.Int.{w32, w64, to_be_bytes, cast_signed, cast_unsigned}
use Rattle.std.proofs.lemmas.Bool.{le-ltb}
use Rattle.std.proofs.lemmas.Bool.Decides.{nat_tests}
use Rattle.std.proofs.lemmas.List.{append-nil, take_at, drop_at}
use Rattle.std.proofs.lemmas.Nat.{from_be_bytes-to_be_bytes_4, from_be_bytes-to_be_bytes_8}
use Rattle.std.proofs.lemmas.Int.{to_z-of_z, ints}
use Rattle.problem_names.specs.declared.ModelName.{ModelName}
use Rattle.problem_names.specs.ModelNames.{byte_of, byte_again}
use Rattle.journal_bytes.specs.Bodies.{◌>>=◌, number_at, part_at, many, decisions_at, child_at, ticket_of, incumbent_at, best_at, listed_at, improve_of, finish_of, snapshot_of, record_of, ChildView, IncumbentView, ListedView, RecordView, Improve, Finish, Snapshot}
use Rattle.journal_bytes.proofs.Sizes.{snapshot_parts}
use Rattle.journal_bytes.specs.declared.head.Part.{Part}
use Rattle.journal_bytes.specs.Journal.{HeadView, model_at, text_of, is_distance, is_version, version_of_records, distance_at, within_at, mark_at, head_of}
use Rattle.journal_bytes.specs.Spelling.{PartFits, mark_bytes, head_bytes, numbers, decision_bytes, number_of_ticket, bounded_bytes, child_bytes, listed_bytes, best_bytes, record_bytes, record_kind, ChildFits, ListedFits, IncumbentFits, RecordFits, IsOfVersion}

pub word_again : (n : ℕ) (rest : List ℕ) → n < 2 ^ 32 → number_at w32 (to_be_bytes w32 n ++ rest) ≡ Some (n, rest)
word_again n rest lt =
    let long : ltb (length (to_be_bytes w32 n ++ rest)) 4 ≡ false = le-ltb _ _ (omega (arith, length-append (to_be_bytes w32 n) rest)) in
    rw (long, from_be_bytes-to_be_bytes_4 n lt) refl

pub long_again : (n : ℕ) (rest : List ℕ) → n < 2 ^ 64 → number_at w64 (to_be_bytes w64 n ++ rest) ≡ Some (n, rest)
long_again n rest lt =
    let long : ltb (length (to_be_bytes w64 n ++ rest)) 8 ≡ false = le-ltb _ _ (omega (arith, length-append (to_be_bytes w64 n) rest)) in
    rw (long, from_be_bytes-to_be_bytes_8 n lt) refl

by_recursion : {A : Type 0} (P : A → Type 0) (xs : List A) → All P xs → AllByRecursion P xs
by_recursion P [] all = tt
by_recursion P (x ∷ xs) all = (all 0 x (omega arith), by_recursion P xs (λ k d lt. all (suc k) d (omega arith)))

pub many_again : {A : Type 0} (item : List ℕ → Option (A × List ℕ)) (spell : A → List ℕ) (P : A → Type 0) → ((x : A) (rest : List ℕ) → P x → item (spell x ++ rest) ≡ Some (x, rest))
    → (xs : List A) (rest : List ℕ) → AllByRecursion P xs → many item (length xs) (flat_map spell xs ++ rest) ≡ Some (xs, rest)
unfolding many
many_again item spell P again [] rest fit = refl
many_again item spell P again (x ∷ xs) rest fit =
    ap (many item (suc (length xs))) (append_assoc (spell x) (flat_map spell xs) rest) ∙ rw (again x (flat_map spell xs ++ rest) fit.0, many_again item spell P again xs rest fit.1) refl

pub decisions_again : (ds : List ℕ) (rest : List ℕ) → length ds < 2 ^ 32 → AllByRecursion (λ d. d < 2 ^ 32) ds → decisions_at (decision_bytes ds ++ rest) ≡ Some (ds, rest)
unfolding decisions_at decision_bytes
decisions_again ds rest count each =
    rw (word_again (length ds) (numbers ds ++ rest) count) (many_again (number_at w32) (to_be_bytes w32) (λ d. d < 2 ^ 32) word_again ds rest each)

unsigned_fits : (z : ℤ) → FitsSigned w64 z → cast_unsigned w64 z < 2 ^ 64
unsigned_fits z fits = omega (arith, ints)

pub improve_again : (value : ℤ) (ds : List ℕ) → RecordFits (Improve value ds) → improve_of (record_bytes (Improve value ds)) ≡ Some (Improve value ds)
unfolding improve_of record_bytes
improve_again value ds fits =
    let first = long_again (cast_unsigned w64 value) (decision_bytes ds) (unsigned_fits value fits.0) in
    let second : decisions_at (decision_bytes ds) ≡ Some (ds, []) = ap decisions_at (sym (append-nil (decision_bytes ds))) ∙ decisions_again ds [] fits.1 fits.2 in
    let same : cast_signed w64 (cast_unsigned w64 value) ≡ value = to_z-of_z w64 value fits.0 in
    rw (first, second, same) refl

model_again : (m : ModelName) (rest : List ℕ) → model_at (byte_of m ∷ rest) ≡ Some (m, rest)
unfolding model_at
model_again m rest = rw (byte_again m, model_at) refl

text_again : (text : List ℕ) → length text < 2 ^ 32 → text_of (to_be_bytes w32 (length text) ++ text) ≡ Some text
unfolding text_of
text_again text fits =
    let whole : (length text == length text) ≡ true = grind (arith, nat_tests) in
    rw (word_again (length text) text fits, text_of, whole) refl

distance_again : (z : ℤ) (rest : List ℕ) → FitsSigned w64 z → is_distance z ≡ true → distance_at (to_be_bytes w64 (cast_unsigned w64 z) ++ rest) ≡ Some (z, rest)
unfolding distance_at
distance_again z rest fits is = rw (long_again (cast_unsigned w64 z) rest (unsigned_fits z fits), distance_at, to_z-of_z w64 z fits, is) refl

distance_fits : (z : ℤ) → is_distance z ≡ true → FitsSigned w64 z
distance_fits z is = grind (arith, ints)

part_again : (p : Part) (rest : List ℕ) → PartFits p → part_at (mark_bytes (Some p) ++ rest) ≡ Some (p, rest)
unfolding part_at mark_bytes
part_again p rest fits =
    let parts : mark_bytes (Some p) ++ rest ≡ to_be_bytes w32 p.index ++ (to_be_bytes w32 p.of ++ (p.digest ++ rest)) = simp append_assoc in
    let long : ltb (length (p.digest ++ rest)) 32 ≡ false = le-ltb _ _ (omega (arith, fits.digest, length-append p.digest rest)) in
    let less : nat_le p.of p.index ≡ false = let less = fits.less in grind (arith, nat_tests) in
    let front = take_at p.digest rest 32 fits.digest in
    let back = drop_at p.digest rest 32 fits.digest in
    ap part_at parts ∙ rw (word_again p.index (to_be_bytes w32 p.of ++ (p.digest ++ rest)) (omega (arith, fits.less, fits.of_fits)), word_again p.of (p.digest ++ rest) fits.of_fits, long, less, front, back) refl

-- what is spelled for the head of a whole search, and for that of a part
whole_again : (m : ModelName) (z : ℤ) (text : List ℕ) → length text < 2 ^ 32 → is_distance z ≡ true
    → head_of (record { kind = 1; body = head_bytes (record { version = 2; within = z; model = m; part = None; text = text }) }) ≡ Ok (record { version = 2; within = z; model = m; part = None; text = text })
unfolding head_of head_bytes within_at mark_at mark_bytes
whole_again m z text fits near =
    let body = to_be_bytes w32 (length text) ++ text in
    let far = to_be_bytes w64 (cast_unsigned w64 z) ++ body in
    let first = word_again 2 (byte_of m ∷ far) (omega arith) in
    rw (first, model_again m far, distance_again z body (distance_fits z near) near, text_again text fits) refl

-- the head of a frame, field by field
head_from : (body after_version after_model after_within after_mark : List ℕ) (version : ℕ) (m : ModelName) (z : ℤ) (part : Option Part) (text : List ℕ) → number_at w32 body ≡ Some (version, after_version) → is_version version ≡ true
    → model_at after_version ≡ Some (m, after_model) → within_at version after_model ≡ Some (z, after_within) → mark_at version after_within ≡ Some (part, after_mark) → text_of after_mark ≡ Some text
    → head_of (record { kind = 1; body = body }) ≡ Ok (record { version = version_of_records version; within = z; model = m; part = part; text = text })
unfolding head_of
head_from body after_version after_model after_within after_mark version m z part text first is second third fourth last = rw (first, is, second, third, fourth, last) refl

mark_again : (p : Part) (bytes rest : List ℕ) → part_at bytes ≡ Some (p, rest) → mark_at 1346458196 bytes ≡ Some (Some p, rest)
unfolding mark_at
mark_again p bytes rest read = rw read refl

marked_again : (p : Part) (m : ModelName) (z : ℤ) (text : List ℕ) → PartFits p → length text < 2 ^ 32 → is_distance z ≡ true
    → head_of (record { kind = 1; body = head_bytes (record { version = 2; within = z; model = m; part = Some p; text = text }) }) ≡ Ok (record { version = 2; within = z; model = m; part = Some p; text = text })
unfolding head_bytes within_at
marked_again p m z text mark fits near =
    let body = to_be_bytes w32 (length text) ++ text in
    let rest = mark_bytes (Some p) ++ body in
    let far = to_be_bytes w64 (cast_unsigned w64 z) ++ rest in
    let bytes = to_be_bytes w32 1346458196 ++ byte_of m ∷ far in
    let parts : head_bytes (record { version = 2; within = z; model = m; part = Some p; text = text }) ≡ bytes = simp append_assoc in
    let first = word_again 1346458196 (byte_of m ∷ far) (omega arith) in
    ap (λ (b : List ℕ). head_of (record { kind = 1; body = b })) parts
    ∙ head_from bytes (byte_of m ∷ far) far rest body 1346458196 m z (Some p) text first refl (model_again m far) (distance_again z rest (distance_fits z near) near) (mark_again p rest body (part_again p body mark)) (text_again text fits)

-- the head of a journal with records of the newest version
pub head_again : (h : HeadView) → h.version ≡ 2 → length h.text < 2 ^ 32 → is_distance h.within ≡ true → IfSome h.part PartFits → head_of (record { kind = 1; body = head_bytes h }) ≡ Ok h
unfolding head_bytes
head_again h newest fits near mark =
    both h.part mark ∙ (λ i. Ok (record { version = sym newest i; within = h.within; model = h.model; part = h.part; text = h.text }))
  where
    both : (part : Option Part) → IfSome part PartFits
        → head_of (record { kind = 1; body = head_bytes (record { version = 2; within = h.within; model = h.model; part = part; text = h.text }) }) ≡ Ok (record { version = 2; within = h.within; model = h.model; part = part; text = h.text })
    both None fine = whole_again h.model h.within h.text fits near
    both (Some p) fine = marked_again p h.model h.within h.text fine fits near

pub child_again : (c : ChildView) (rest : List ℕ) → ChildFits c → child_at (child_bytes c ++ rest) ≡ Some (c, rest)
unfolding child_at bounded_bytes
child_again c rest fits =
    let small : number_of_ticket c.replaced < 2 ^ 64 = ticket_fits c.replaced fits.replaced in
    let after = decision_bytes c.decisions ++ rest in
    let first = long_again (number_of_ticket c.replaced) (to_be_bytes w64 (cast_unsigned w64 c.bound) ++ after) small in
    let second = long_again (cast_unsigned w64 c.bound) after (unsigned_fits c.bound fits.bound) in
    let third = decisions_again c.decisions rest fits.count fits.each in
    rw (first, second, third, ticket_again c.replaced fits.replaced, to_z-of_z w64 c.bound fits.bound) refl
  where
    ticket_fits : (t : Option ℕ) → IfSome t (λ n. n < 2 ^ 64 - 1) → number_of_ticket t < 2 ^ 64
    ticket_fits None fits = omega arith
    ticket_fits (Some t) fits = omega arith

    ticket_again : (t : Option ℕ) → IfSome t (λ n. n < 2 ^ 64 - 1) → ticket_of (number_of_ticket t) ≡ t
    ticket_again None fits = refl
    ticket_again (Some t) fits = grind (arith, nat_tests)

pub finish_again : (ticket : ℕ) (cs : List ChildView) → RecordFits (Finish ticket cs) → finish_of (record_bytes (Finish ticket cs)) ≡ Some (Finish ticket cs)
unfolding finish_of record_bytes
finish_again ticket cs fits =
    let first = long_again ticket (to_be_bytes w32 (length cs) ++ flat_map child_bytes cs) fits.0 in
    let second = word_again (length cs) (flat_map child_bytes cs) fits.1 in
    let third : many child_at (length cs) (flat_map child_bytes cs) ≡ Some (cs, []) = ap (many child_at (length cs)) (sym (append-nil (flat_map child_bytes cs))) ∙ many_again child_at child_bytes ChildFits child_again cs [] (by_recursion ChildFits cs fits.2) in
    rw (first, second, third) refl

incumbent_again : (b : IncumbentView) (rest : List ℕ) → IncumbentFits b → incumbent_at (to_be_bytes w64 (cast_unsigned w64 b.value) ++ (decision_bytes b.decisions ++ rest)) ≡ Some (b, rest)
unfolding incumbent_at
incumbent_again b rest fits =
    let first = long_again (cast_unsigned w64 b.value) (decision_bytes b.decisions ++ rest) (unsigned_fits b.value fits.value) in
    rw (first, decisions_again b.decisions rest fits.count fits.each, to_z-of_z w64 b.value fits.value) refl

best_again : (best : Option IncumbentView) (rest : List ℕ) → IfSome best IncumbentFits → best_at (best_bytes best ++ rest) ≡ Some (best, rest)
unfolding best_at best_bytes
best_again None rest fits = refl
best_again (Some b) rest fits =
    let parts : (to_be_bytes w64 (cast_unsigned w64 b.value) ++ decision_bytes b.decisions) ++ rest ≡ to_be_bytes w64 (cast_unsigned w64 b.value) ++ (decision_bytes b.decisions ++ rest) =
    append_assoc (to_be_bytes w64 (cast_unsigned w64 b.value)) (decision_bytes b.decisions) rest in
    ap (λ (l : List ℕ). best_at (1 ∷ l)) parts ∙ rw (incumbent_again b rest fits, best_at) refl

pub listed_again : (o : ListedView) (rest : List ℕ) → ListedFits o → listed_at (listed_bytes o ++ rest) ≡ Some (o, rest)
unfolding listed_at bounded_bytes
listed_again o rest fits =
    let after = decision_bytes o.decisions ++ rest in
    let first = long_again o.ticket (to_be_bytes w64 (cast_unsigned w64 o.bound) ++ after) fits.ticket in
    let second = long_again (cast_unsigned w64 o.bound) after (unsigned_fits o.bound fits.bound) in
    let third = decisions_again o.decisions rest fits.count fits.each in
    rw (first, second, third, to_z-of_z w64 o.bound fits.bound) refl

pub snapshot_again : (best : Option IncumbentView) (next : ℕ) (os : List ListedView) → RecordFits (Snapshot best next os) → snapshot_of (record_bytes (Snapshot best next os)) ≡ Some (Snapshot best next os)
unfolding snapshot_of
snapshot_again best next os fits =
    let first = best_again best (to_be_bytes w64 next ++ (to_be_bytes w32 (length os) ++ flat_map listed_bytes os)) fits.0 in
    let second = long_again next (to_be_bytes w32 (length os) ++ flat_map listed_bytes os) fits.1 in
    let third = word_again (length os) (flat_map listed_bytes os) fits.2 in
    let last : many listed_at (length os) (flat_map listed_bytes os) ≡ Some (os, []) = ap (many listed_at (length os)) (sym (append-nil (flat_map listed_bytes os))) ∙ many_again listed_at listed_bytes ListedFits listed_again os [] (by_recursion ListedFits os fits.3) in
    let following : Option IncumbentView × List ℕ → Option RecordView = λ front. number_at w64 front.1 >>= λ n. number_at w32 n.1 >>= λ count. many listed_at count.0 count.1 >>= λ listed.
    if length listed.1 == 0 then Some (Snapshot front.0 n.0 listed.0) else None in
    let rest = to_be_bytes w64 next ++ (to_be_bytes w32 (length os) ++ flat_map listed_bytes os) in
    let others : following (best, rest) ≡ Some (Snapshot best next os) = rw (second, third, last) refl in
    ap snapshot_of (snapshot_parts best next os) ∙ ap (λ (r : Option (Option IncumbentView × List ℕ)). r >>= following) first ∙ others

-- what is spelled for a record is that record, in each version that may have it
pub record_again : (version : ℕ) (e : RecordView) → RecordFits e → IsOfVersion version e → record_of version (record { kind = record_kind e; body = record_bytes e }) ≡ Some e
unfolding record_of
record_again version (Improve value ds) fits has = improve_again value ds fits
record_again version (Finish ticket cs) fits has = finish_again ticket cs fits
record_again version (Snapshot best next os) fits has =
    ap (λ n. record_of n (record { kind = 4; body = record_bytes (Snapshot best next os) })) has ∙ snapshot_again best next os fits

-- where the body of a record was written
pub written : {E : Type 0} (result : Result (Vec ℕ Global) E) (r : RecordView) → IfOk result (λ v. v.items ≡ record_bytes r) → OnOk result (RecordFits r)
    → IfOk result (λ v. (version : ℕ) → IsOfVersion version r → record_of version (record { kind = record_kind r; body = v.items }) ≡ Some r)
written (Ok v) r bytes fits = λ version has. ap (λ (b : List ℕ). record_of version (record { kind = record_kind r; body = b })) bytes ∙ record_again version r fits has
written (Err e) r bytes fits = tt

pub head_written : (body : List ℕ) (h : HeadView) → body ≡ head_bytes h → h.version ≡ 2 → length h.text < 2 ^ 32 → is_distance h.within ≡ true → IfSome h.part PartFits → head_of (record { kind = 1; body = body }) ≡ Ok h
head_written body h bytes newest fits near mark = ap (λ (b : List ℕ). head_of (record { kind = 1; body = b })) bytes ∙ head_again h newest fits near mark
