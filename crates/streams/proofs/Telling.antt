-- What reads and writes in a row do to bytes that are told.
use Rattle.std.proofs.Common.{◌≡◌, ℕ, ◌+◌, ◌-◌, ◌≤◌, List, ◌++◌, length, take, drop, Option, None, Some, refl, ap, append_assoc, arith, length-append}
use Rattle.std.proofs.Math.Seq.{drop-append-add, take-add}
use Rattle.std.proofs.lemmas.List.{length-take-le}
use Rattle.std.specs.Io.KnownBytes.{append_known, prepend_known}
use Rattle.streams.specs.Told.{Skips}
use Rattle.streams.specs.ReadErrors.{IsReadCount}
use Rattle.streams.specs.declared.reading.ReadError.{ReadError}
use Rattle.streams.specs.declared.reading.ReadError.TheVariants.{Fault, TooLong, OutOfMemory}

pub append_known-append : (known : Option (List ℕ)) (xs ys : List ℕ) →
    append_known (append_known known xs) ys ≡ append_known known (xs ++ ys)
append_known-append None xs ys = refl
append_known-append (Some bytes) xs ys = ap Some (append_assoc bytes xs ys)

-- bytes that were read and then bytes that are gone
pub Skips-prepend_known : (bytes : List ℕ) (between now : Option (List ℕ)) (n : ℕ) →
    Skips between now n → Skips (prepend_known bytes between) now (length bytes + n)
Skips-prepend_known bytes None now n gone = gone
Skips-prepend_known bytes (Some rest) now n gone = (rw length-append (omega arith), rw drop-append-add gone.1)

-- nothing is gone
Skips-none : (known : Option (List ℕ)) → Skips known known 0
Skips-none None = refl
Skips-none (Some bytes) = (omega arith, refl)

-- the first bytes of a piece that were read are gone
pub Skips-read : (piece : List ℕ) (n : ℕ) (before now : Option (List ℕ)) → n ≤ length piece → before ≡ prepend_known (take n piece) now → Skips before now n
Skips-read piece n before now in_range is =
    let count : length (take n piece) + 0 ≡ n = omega (arith, length-take-le n piece in_range) in
    rw is (rw count at (Skips-prepend_known (take n piece) now now 0 (Skips-none now)))

-- and how many they are together, below a limit
pub IsReadCount-more : (e : ReadError) (limit already n : ℕ) →
    already ≤ limit → IsReadCount e (limit - already) n → IsReadCount e limit (already + n)
IsReadCount-more Fault limit already n in_range count = omega arith
IsReadCount-more TooLong limit already n in_range count = omega arith
IsReadCount-more OutOfMemory limit already n in_range count = omega arith

-- a reading that has read some bytes ends by an error
pub gone_more : (e : ReadError) (limit len : ℕ) (bytes : List ℕ) (before between now : Option (List ℕ)) →
    before ≡ prepend_known bytes between → len ≡ length bytes → len ≤ limit →
    (n : ℕ) × IsReadCount e (limit - len) n × Skips between now n →
    (n : ℕ) × IsReadCount e limit n × Skips before now n
gone_more e limit len bytes before between now is_read is_len in_range (n, count, gone) = (
  len + n,
  IsReadCount-more e limit len n in_range count,
  rw (is_read, is_len) (Skips-prepend_known bytes between now n gone),
)

-- two writes in a row
pub append_known-again : (before between now : Option (List ℕ)) (bytes : List ℕ) (m n : ℕ) →
    between ≡ append_known before (take m bytes) → now ≡ append_known between (take n (drop m bytes)) →
    now ≡ append_known before (take (m + n) bytes)
append_known-again before between now bytes m n first second =
    let joined = append_known-append before (take m bytes) (take n (drop m bytes)) in
    let parts = take-add m n bytes in
    cc
