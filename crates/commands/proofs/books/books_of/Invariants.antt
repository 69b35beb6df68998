use Rattle.std.proofs.Common.{◌≡◌, ◌+◌, ◌++◌, ◌≤◌, length, vec_len, vec_capacity}
use Rattle.std.specs.Vec.Iter.{into_iter_items, into_iter_len}
use Rattle.commands.specs.Desks.{books_in}
use Rattle.commands.proofs.books.books_of.Given as goal

abbrev pub invariant-loop-desk : goal.invariant-loop-desk
invariant-loop-desk l =
    (l.books.items ++ books_in (into_iter_items l.desk-iterator) ≡ books_in (into_iter_items l.initial.desk-iterator))
    × (vec_len l.books + into_iter_len l.desk-iterator ≤ vec_capacity l.books)
    × (into_iter_len l.desk-iterator ≡ length (into_iter_items l.desk-iterator))
