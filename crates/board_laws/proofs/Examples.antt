-- Five children with the five fates, by computing.
use Rattle.std.proofs.Common.{◌≡◌, pos, List, [], ◌∷◌, map, Some, None, refl}
use Rattle.dp_model.specs.Subproblem.{Subproblem}
use Rattle.dp_model.proofs.Examples.{three_items}
use Rattle.fringe.specs.Tickets.{Ticketed}
use Rattle.dominance_table.specs.Entries.{TableEntry}
use Rattle.board_laws.specs.Board.{BoardState}
use Rattle.board_laws.specs.Fates.{fates_on, fate_of}
use Rattle.board_laws.specs.Steps.{finished_by}
use Rattle.board_laws.specs.declared.fate.Fate.TheVariants.{Below, Kept, Dominated, Replaced, Entered}

abbrev children : List Subproblem
children =
    record { decisions = 0 ∷ []; row = pos 5 ∷ []; value = pos 6; bound = pos 0 }
    ∷ record { decisions = 0 ∷ []; row = pos 5 ∷ []; value = pos 6; bound = pos 9 }
    ∷ record { decisions = 0 ∷ []; row = pos 7 ∷ []; value = pos 3; bound = pos 9 }
    ∷ record { decisions = 0 ∷ []; row = pos 5 ∷ []; value = pos 8; bound = pos 9 }
    ∷ record { decisions = 0 ∷ []; row = pos 9 ∷ []; value = pos 1; bound = pos 9 }
    ∷ []

abbrev board : BoardState
board = record {
  incumbent = Some (record { decisions = []; value = pos 0 });
  open_ones = record { ticket = 3; subproblem = record { decisions = 0 ∷ []; row = pos 5 ∷ []; value = pos 7; bound = pos 9 } } ∷ [];
  slots = None ∷ [];
  entries = record { depth = 1; bucket = 0; row = pos 8 ∷ []; rank = pos 8; value = pos 4; ticket = 2 } ∷ [];
  settings = record { workers = 1; budget = 100; table_limit = 2; width = 3; within = pos 0 };
  taken = 1;
  finished = 0;
  next_ticket = 10;
  cause = None;
}

five-fates : fates_on three_items board children ≡ Below ∷ Kept 3 ∷ Dominated 2 ∷ Replaced 10 3 ∷ Entered 11 ∷ []
five-fates = refl

tickets-open : map (λ (o : Ticketed). o.ticket) (finished_by three_items board 0 children).open_ones ≡ 10 ∷ 11 ∷ []
tickets-open = refl

tickets-noted : map (λ (e : TableEntry). e.ticket) (finished_by three_items board 0 children).entries ≡ 2 ∷ 10 ∷ []
tickets-noted = refl

-- a subproblem that has entered is dominated by the entry that it left: so neither Take nor GiveBack may ask the table, and no child may be the slot's own prefix
own-entry-dominates : fate_of three_items None [] (record { depth = 1; bucket = 0; row = pos 10 ∷ []; rank = pos 10; value = pos 0; ticket = 1 } ∷ []) 2 (record { decisions = 0 ∷ []; row = pos 10 ∷ []; value = pos 0; bound = pos 9 }) ≡ Dominated 1
own-entry-dominates = refl
