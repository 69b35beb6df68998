use Rattle.std.proofs.Common.{arith}
use Rattle.std.proofs.lemmas.List.{length-map}
use Rattle.std.proofs.lemmas.List.Elements.{All-map}
use Rattle.journal_bytes.specs.Spelling.{ChildFits}
use Rattle.journal_bytes.specs.Views.{child_view}
use Rattle.journal_bytes.proofs.Sizes.{count_fits, counts_fit, tickets_of}
use Rattle.journal_bytes.proofs.writing.finish_body.Goals as goal

pub overflow_cast-children : goal.overflow_cast-children
overflow_cast-children c = let small = count_fits c.args.children.now c.requires.size in omega (arith, small)

pub push_children-requires-clause-counts : goal.push_children-requires-clause-counts
push_children-requires-clause-counts c = counts_fit c.args.children.now c.requires.size

pub push_children-requires-clause-tickets : goal.push_children-requires-clause-tickets
push_children-requires-clause-tickets c = tickets_of c.args.children.now c.requires.tickets

pub returns-clause-fits : goal.returns-clause-fits
returns-clause-fits c =
    let children = c.args.children.now in
    let small = count_fits children c.requires.size in (
      c.ranges.ticket.fits,
      omega (arith, small, length-map children child_view),
      All-map ChildFits child_view children c.in_ok-push_children.ensures.fits,
    )
