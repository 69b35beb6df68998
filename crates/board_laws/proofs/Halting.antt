-- Halt keeps a board, and a good one.
use Rattle.std.proofs.Common.{◌≡◌, ◌≢◌, Option, Some, None}
use Rattle.dp_model.specs.Dp.{Dp}
use Rattle.board_laws.specs.Laws.{HaltKeeps}
use Rattle.board_laws.specs.Steps.{cause_after}
use Rattle.board_laws.specs.declared.cause.Cause.{Cause}
use Rattle.board_laws.specs.declared.cause.Cause.TheVariants.{Budget, Memory, Journal}

no-budget : (held : Option Cause) (cause : Cause) → held ≢ Some Budget → cause_after held cause ≢ Some Budget
no-budget held Budget h = h
no-budget held Journal h = λ e. absurd (cc)
no-budget None Memory h = λ e. absurd (cc)
no-budget (Some x) Memory h = h

still-none : (held : Option Cause) (cause : Cause) → cause_after held cause ≡ None → held ≡ None
still-none held Budget h = h
still-none held Journal h = absurd (cc)
still-none None Memory h = absurd (cc)
still-none (Some x) Memory h = absurd (cc)

pub halt-keeps : (dp : Dp) → HaltKeeps dp
halt-keeps dp b cause = record {
  board = λ g. record {
    settings = g.settings;
    incumbent = g.incumbent;
    own = g.own;
    far = g.far;
    tickets = g.tickets;
    above = g.above;
    ordered = g.ordered;
    different = g.different;
    entries = g.entries;
    limited = g.limited;
    slots = g.slots;
    out = g.out;
    budget = g.budget;
    room = g.room;
    cause = no-budget b.cause cause g.cause;
  };
  good = λ {starts} g h. record {
    covers = h.covers;
    held = h.held;
    floors = h.floors;
    apart = h.apart;
    ends = h.ends;
    balanced = λ none. h.balanced (still-none b.cause cause none);
    shares = h.shares;
  };
}
