use Rattle.std.proofs.Common.{◌⊎◌, inl, inr, sym, subst}
use Rattle.std.specs.Prelude.{IsTrue}
use Rattle.journal_bytes.specs.Journal.{new_head}
use Rattle.journal_file.specs.Beginning.{BeganAt, MayBegin}
use Rattle.journal_file.proofs.Begun as begun
use Rattle.journal_file.proofs.beginning.begin.Goals as goal

pub returns-in_err-has_gate-clause-since : goal.returns-in_err-has_gate-clause-since
returns-in_err-has_gate-clause-since g c tells fresh =
    let h = new_head c.args.head.now in
    let disk = c.probe.new.disk in
    let file = g.D.Disk.seen c.args.disk.now in
    begun.at_first file (g.D.Disk.start disk) (g.D.Disk.seen disk) (λ s. BeganAt g.D.Disk.moment g.D.Disk.left_since s disk file) (begun.Begun g.D.Disk.moment g.D.Disk.left_since h file disk) (c.probe.ensures.start tells fresh) (begun.at_probe g.D.Disk.moment g.D.Disk.left_since h file disk)

pub returns-in_err-add_head-clause-since : goal.returns-in_err-add_head-clause-since
returns-in_err-add_head-clause-since g c tells fresh =
    let h = new_head c.args.head.now in
    let mid = c.probe.new.disk in
    let new = c.add_head.new.disk in
    let file = g.D.Disk.seen c.args.disk.now in
    let run = c.add_head.ensures.any_moment (subst IsTrue (sym c.probe.ensures.keeps.still_tells) tells) in
    begun.since_start file (g.D.Disk.start mid) (g.D.Disk.start new) (g.D.Disk.seen mid) (g.D.Disk.seen new) (λ s. BeganAt g.D.Disk.moment g.D.Disk.left_since s mid file) (begun.Begun g.D.Disk.moment g.D.Disk.left_since h file new) (c.in_ok-has_gate.ensures.began fresh) c.add_head.ensures.start (c.probe.ensures.start tells fresh) (λ s b. begun.after g.D.Disk.moment g.D.Disk.left_since h file mid new s run b)

pub returns-clause-since : goal.returns-clause-since
returns-clause-since g c tells fresh =
    let h = new_head c.args.head.now in
    let mid = c.probe.new.disk in
    let new = c.add_head.new.disk in
    let file = g.D.Disk.seen c.args.disk.now in
    let run = c.add_head.ensures.any_moment (subst IsTrue (sym c.probe.ensures.keeps.still_tells) tells) in
    begun.since_start file (g.D.Disk.start mid) (g.D.Disk.start new) (g.D.Disk.seen mid) (g.D.Disk.seen new) (λ s. BeganAt g.D.Disk.moment g.D.Disk.left_since s mid file) (begun.Begun g.D.Disk.moment g.D.Disk.left_since h file new) (c.in_ok-has_gate.ensures.began fresh) c.add_head.ensures.start (c.probe.ensures.start tells fresh) (λ s b. begun.after g.D.Disk.moment g.D.Disk.left_since h file mid new s run b)

pub returns-in_err-has_gate-clause-spared : goal.returns-in_err-has_gate-clause-spared
returns-in_err-has_gate-clause-spared g c tells fresh =
    let disk = c.probe.new.disk in
    let file = g.D.Disk.seen c.args.disk.now in
    begun.at_first file (g.D.Disk.start disk) (g.D.Disk.seen disk) (λ s. BeganAt g.D.Disk.moment g.D.Disk.left_since s disk file) (λ s. MayBegin s.content ⊎ BeganAt g.D.Disk.moment g.D.Disk.left_since s disk s.content) (c.probe.ensures.start tells fresh) (λ s b. inr (subst (BeganAt g.D.Disk.moment g.D.Disk.left_since s disk) (sym b.content) b))

pub returns-in_err-add_head-clause-spared : goal.returns-in_err-add_head-clause-spared
returns-in_err-add_head-clause-spared g c tells fresh =
    let mid = c.probe.new.disk in
    let new = c.add_head.new.disk in
    let file = g.D.Disk.seen c.args.disk.now in
    begun.since_start file (g.D.Disk.start mid) (g.D.Disk.start new) (g.D.Disk.seen mid) (g.D.Disk.seen new) (λ s. BeganAt g.D.Disk.moment g.D.Disk.left_since s mid file) (λ s. MayBegin s.content ⊎ BeganAt g.D.Disk.moment g.D.Disk.left_since s new s.content) (c.in_ok-has_gate.ensures.began fresh) c.add_head.ensures.start (c.probe.ensures.start tells fresh) (λ s b. inl (subst MayBegin (sym b.content) (begun.may_begin c.in_ok-has_gate.has_gate file (c.in_ok-has_gate.ensures.file tells))))

pub returns-clause-spared : goal.returns-clause-spared
returns-clause-spared g c tells fresh =
    let mid = c.probe.new.disk in
    let new = c.add_head.new.disk in
    let file = g.D.Disk.seen c.args.disk.now in
    begun.since_start file (g.D.Disk.start mid) (g.D.Disk.start new) (g.D.Disk.seen mid) (g.D.Disk.seen new) (λ s. BeganAt g.D.Disk.moment g.D.Disk.left_since s mid file) (λ s. MayBegin s.content ⊎ BeganAt g.D.Disk.moment g.D.Disk.left_since s new s.content) (c.in_ok-has_gate.ensures.began fresh) c.add_head.ensures.start (c.probe.ensures.start tells fresh) (λ s b. inl (subst MayBegin (sym b.content) (begun.may_begin c.in_ok-has_gate.has_gate file (c.in_ok-has_gate.ensures.file tells))))

pub returns-in_err-add_head-clause-counted : goal.returns-in_err-add_head-clause-counted
returns-in_err-add_head-clause-counted g c fresh =
    let mid = c.probe.new.disk in
    let new = c.add_head.new.disk in
    let more = c.add_head.ensures.faults in
    begun.counted (g.D.Disk.start mid) (g.D.Disk.start new) (g.D.Disk.faults mid) (g.D.Disk.faults new) (c.in_ok-has_gate.ensures.began fresh) c.add_head.ensures.start more (c.probe.ensures.counted fresh)

pub returns-clause-counted : goal.returns-clause-counted
returns-clause-counted g c fresh =
    let mid = c.probe.new.disk in
    let new = c.add_head.new.disk in
    let more = c.add_head.ensures.faults in
    begun.counted (g.D.Disk.start mid) (g.D.Disk.start new) (g.D.Disk.faults mid) (g.D.Disk.faults new) (c.in_ok-has_gate.ensures.began fresh) c.add_head.ensures.start more (c.probe.ensures.counted fresh)
