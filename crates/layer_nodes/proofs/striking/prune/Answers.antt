use Rattle.std.proofs.Common.{◌≡◌, ◌+◌, pos, false, None, get_or, set, IfSome, Vec, Global, vec_capacity, refl, sym, ◌∙◌, ap, ap₂, subst, arith}
use Rattle.dp_model.specs.Lists.{Each}
use Rattle.layer_candidates.specs.HeldRows.{held_row}
use Rattle.row_region.specs.Region.{IsLive}
use Rattle.layer_nodes.specs.declared.node.Node.{Node}
use Rattle.layer_nodes.specs.declared.redirecting.LeaderAt.{LeaderAt}
use Rattle.layer_nodes.specs.Leading.{IsNodeBy, IsNodeIn, IsLeaderIn, leaders_of, led_at, bare}
use Rattle.layer_nodes.specs.Redirecting.{IsShort}
use Rattle.layer_nodes.specs.Striking.{taken_out}
use Rattle.layer_nodes.proofs.Given.{rows-found, nodes-known, given-none, leaders-in, leaders-are, next-in, next-is, next-live, given-out, given-stays, given-all, given-by}
use Rattle.layer_nodes.proofs.Pruned.{drop-next, pruned-none, pruned-out, pruned-stays, pruned-by}
use Rattle.layer_nodes.proofs.Stored.{each-get, among-each, read-is}
use Rattle.layer_nodes.proofs.striking.prune.Goals as goal
use Rattle.layer_nodes.proofs.striking.prune.Goals.{in-Some, in-None}

abbrev none : Node
none = record { value = pos 0; rank = pos 0; hash = 0; suffix = None; parent = None; row = 0; decision = 0; first_arc = 0; arcs = 0; exact = false }

pub nodes-init : goal.nodes-init
nodes-init g c =
    let dp = g.M.DpModel.meaning (g.M.DpModel.numbers c.args.model.now) in
    let a = c.args in
    let base = a.region.now in
    let nodes = a.nodes.now in
    record {
      pruned = pruned-by dp a.k a.strikes (held_row base) nodes _ _ _ _ _ _ _ _ 0 (pruned-none dp a.k a.strikes (held_row base) nodes) c.clear.ensures.items refl c.clear-2.ensures.items refl;
      given = given-by base nodes _ _ _ _ _ _ _ _ 0 (given-none base nodes c.requires.live (rows-found dp a.k base nodes c.requires.nodes)) refl c.clear.ensures.items refl refl;
      leaders_capacity = c.clear.ensures.capacity;
      redirects_capacity = c.clear-2.ensures.capacity;
    }

pub taken_out-out-requires-clause-leaders : goal.taken_out-out-requires-clause-leaders
taken_out-out-requires-clause-leaders g c κs within =
    let dp = g.M.DpModel.meaning (g.M.DpModel.numbers c.args.model.now) in
    let a = c.args in
    let l = c.nodes in
    subst (Each (IsLeaderIn dp a.k l.region)) (sym c.as_slice.ensures.value)
    (leaders-in a.region.now a.nodes.now l.nodes l.leaders.items l.region l.stay l.i l.invariant.given dp a.k l.invariant.pruned.leading)

pub taken_out-out-requires-clause-node : goal.taken_out-out-requires-clause-node
taken_out-out-requires-clause-node g c κs within =
    let dp = g.M.DpModel.meaning (g.M.DpModel.numbers c.args.model.now) in
    let a = c.args in
    let l = c.nodes in
    let h = l.invariant.pruned in
    let size = h.size in
    let more = c.nodes-test.true in
    let IsBy : Node → Type 0 = IsNodeBy dp a.k (held_row a.region.now) in
    let known = each-get IsBy l.nodes l.i none (among-each IsBy a.nodes.now l.nodes h.among (nodes-known dp a.k a.region.now a.nodes.now c.requires.nodes)) (omega arith) in
    subst (IsNodeIn dp a.k l.region) (sym (read-is l.nodes l.i c.index-nodes-i.result none (omega arith) c.index-nodes-i.is))
    (next-in a.region.now a.nodes.now l.nodes l.leaders.items l.region l.stay l.i l.invariant.given (get_or l.nodes l.i none) (drop-next a.nodes.now l.nodes l.i none h.left h.size more).0 dp a.k known)

pub give-requires : goal.give-requires
give-requires g c =
    let a = c.args in
    let l = c.nodes in
    let h = l.invariant.pruned in
    let size = h.size in
    let more = c.nodes-test.true in
    subst (λ (n : Node). IsLive l.region n.row) (sym (read-is l.nodes l.i c.index-nodes-i.result none (omega arith) c.index-nodes-i.is))
    (next-live a.region.now a.nodes.now l.nodes l.leaders.items l.region l.stay l.i l.invariant.given (get_or l.nodes l.i none) (drop-next a.nodes.now l.nodes l.i none h.left h.size more).0)

pub nodes-preserved : goal.nodes-preserved
nodes-preserved g c =
    let dp = g.M.DpModel.meaning (g.M.DpModel.numbers c.args.model.now) in
    let a = c.args in
    let l = c.nodes in
    let h = l.invariant.pruned in
    let given = l.invariant.given in
    let low = h.few in
    let size = h.size in
    let more = c.nodes-test.true in
    let base = a.region.now in
    let row = held_row base in
    let node = get_or l.nodes l.i none in
    let read : c.index-nodes-i.result ≡ node = read-is l.nodes l.i c.index-nodes-i.result none (omega arith) c.index-nodes-i.is in
    let left = (drop-next a.nodes.now l.nodes l.i none h.left h.size more).0 in
    let out : c.taken_out-out.result ≡ taken_out dp a.k a.strikes (leaders_of row l.leaders.items) (bare row node) =
    c.taken_out-out.ensures.out
    ∙ ap (λ n. taken_out dp a.k a.strikes (leaders_of (held_row l.region) c.as_slice.result.now) (bare (held_row l.region) n)) read
    ∙ (ap (λ ls. taken_out dp a.k a.strikes (leaders_of (held_row l.region) ls) (bare (held_row l.region) node)) c.as_slice.ensures.value
    ∙ ap₂ (taken_out dp a.k a.strikes) (leaders-are base a.nodes.now l.nodes l.leaders.items l.region l.stay l.i given) (next-is base a.nodes.now l.nodes l.leaders.items l.region l.stay l.i given node left)) in
    elim c.match-out.branch [
      | in-Some w ↦ record {
        pruned = pruned-by dp a.k a.strikes row a.nodes.now _ _ _ _ _ _ _ _ (l.i + 1)
            (pruned-out dp a.k a.strikes row a.nodes.now l.leaders.items l.nodes l.redirects.items l.stay l.i none h more w.in-Some.redirect (sym out ∙ w.in-Some.is)
            (subst (λ o. IfSome o (λ r. IsShort r)) w.in-Some.is c.taken_out-out.ensures.short))
            (ap (λ (v : Vec LeaderAt Global). v.items) w.leaders-is) w.nodes-is (ap (λ (v : Vec _ Global). v.items) w.redirects-is ∙ w.push_reserved.ensures.items) w.stay-is;
        given = given-by base a.nodes.now _ _ _ _ _ _ _ _ (l.i + 1)
            (given-out base a.nodes.now l.nodes l.leaders.items l.region l.stay l.i given node left w.give.new.self (subst (λ (n : Node). w.give.new.self ≡ record l.region { rows = set l.region.rows n.row None; spare = l.region.spare + 1 }) read w.give.ensures))
            w.nodes-is (ap (λ (v : Vec LeaderAt Global). v.items) w.leaders-is) w.region-is w.stay-is;
        leaders_capacity = ap vec_capacity w.leaders-is ∙ l.invariant.leaders_capacity;
        redirects_capacity = ap vec_capacity w.redirects-is ∙ (w.push_reserved.ensures.capacity ∙ l.invariant.redirects_capacity);
      }
      | in-None w ↦ record {
        pruned = pruned-by dp a.k a.strikes row a.nodes.now _ _ _ _ _ _ _ _ (l.i + 1)
            (pruned-stays dp a.k a.strikes row a.nodes.now l.leaders.items l.nodes l.redirects.items l.stay l.i none h more (sym out ∙ w.in-None.is) (nodes-known dp a.k base a.nodes.now c.requires.nodes))
            (ap (λ (v : Vec LeaderAt Global). v.items) w.leaders-is ∙ w.keep_at.ensures.leaders ∙ ap (led_at l.leaders.items l.stay) read) (w.nodes-is ∙ w.keep_at.ensures.nodes ∙ ap (set l.nodes l.stay) read) (ap (λ (v : Vec _ Global). v.items) w.redirects-is ∙ w.keep_at.ensures.redirects) w.stay-is;
        given = given-by base a.nodes.now _ _ _ _ _ _ _ _ (l.i + 1)
            (given-stays base a.nodes.now l.nodes l.leaders.items l.region l.stay l.i given node left (omega arith))
            (w.nodes-is ∙ w.keep_at.ensures.nodes ∙ ap (set l.nodes l.stay) read) (ap (λ (v : Vec LeaderAt Global). v.items) w.leaders-is ∙ w.keep_at.ensures.leaders ∙ ap (led_at l.leaders.items l.stay) read) w.region-is w.stay-is;
        leaders_capacity = ap vec_capacity w.leaders-is ∙ (w.keep_at.ensures.leaders_capacity ∙ l.invariant.leaders_capacity);
        redirects_capacity = ap vec_capacity w.redirects-is ∙ (w.keep_at.ensures.redirects_capacity ∙ l.invariant.redirects_capacity);
      }
    ]

pub returns-clause-given : goal.returns-clause-given
returns-clause-given g c =
    let a = c.args in
    let l = c.nodes in
    let size = l.invariant.pruned.size in
    let end = c.nodes-test.false in
    given-all a.region.now a.nodes.now l.nodes l.leaders.items l.region l.stay l.i l.invariant.given (omega arith)
