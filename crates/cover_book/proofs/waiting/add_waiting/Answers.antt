use Rattle.std.proofs.Common.{◌<◌, ◌+◌, length, Vec, Global, Some, sym, ◌∙◌, ap, subst, arith}
use Rattle.relaxed_dd.specs.Shown.{layer_in}
use Rattle.cover_book.specs.declared.waiting.WaitingRow.{WaitingRow}
use Rattle.cover_book.proofs.Waits.{IsWaitingTo, waits-more, waits-not}
use Rattle.cover_book.proofs.waiting.add_waiting.Goals as goal
use Rattle.cover_book.proofs.waiting.add_waiting.Goals.{then-leads_at+in_ok-sub+in_ok-place+in_ok-push, else-leads_at}

pub nodes-preserved : goal.nodes-preserved
nodes-preserved g c =
    let dp = (g.M.DpModel.meaning (g.M.DpModel.numbers c.args.model.now)) in
    let d = (g.D.ShownDiagram.layers c.args.diagram.now) in
    let i = c.nodes.node in
    let old = c.args.waiting.now.items in
    let now = c.nodes.waiting.items in
    let less : i < length (layer_in d c.args.depth) = (let t = c.nodes-test.true in let e = c.nodes-nodes.ensures in omega arith) in
    let Done : Vec WaitingRow Global → Type 0 = λ v. IsWaitingTo dp c.args.claim d c.args.depth c.args.start (i + 1) old v.items in
    elim c.if-leads_at.branch [
      | then-leads_at+in_ok-sub+in_ok-place+in_ok-push w ↦ subst Done (sym w.waiting-is)
          (waits-more dp c.args.claim d c.args.depth c.args.start i old now w.push.new.waiting.items _ c.requires.nodes less c.nodes.invariant (c.leads_at.ensures ∙ ap Some w.if-leads_at.true) w.in_ok-sub.ensures w.in_ok-place.ensures w.in_ok-push.ensures)
      | else-leads_at w ↦ subst Done (sym w.waiting-is) (waits-not dp c.args.claim d c.args.depth c.args.start i old now less c.nodes.invariant (c.leads_at.ensures ∙ ap Some w.if-leads_at.false))
    ]
