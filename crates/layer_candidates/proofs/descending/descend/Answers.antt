use Rattle.std.proofs.Common.{rules, ◌≡◌, ℕ, ◌+◌, ◌++◌, ◌∷◌, [], List, length, map, take, get_or, sym, ap, append_assoc, ◌∙◌, arith}
use Rattle.std.proofs.lemmas.List.{take_more, length-take-le, map-append, length_push}
use Rattle.layer_candidates.specs.declared.key.Key.{Key}
use Rattle.layer_candidates.specs.declared.member.Member.{Member}
use Rattle.layer_candidates.specs.declared.step.Step.{Step}
use Rattle.layer_candidates.specs.declared.way.Way.{Way}
use Rattle.layer_candidates.specs.Steps.{step_of, entered}
use Rattle.layer_candidates.specs.Ways.{way_at}
use Rattle.layer_candidates.proofs.Descended.{entered-push}
use Rattle.layer_candidates.proofs.Pruned.{none}
use Rattle.layer_candidates.proofs.descending.descend.Goals as goal

abbrev member_with : List Way → Key → ℕ → Member
member_with ways key step = record { value = key.value; rank = key.rank; hash = (way_at ways key.place).hash; row = key.row; step = step }

pub kept-preserved : goal.kept-preserved
kept-preserved c =
    let a = c.args in
    let l = c.kept in
    let n = length a.steps.now.items in
    let done = take l.i a.kept.now in
    let key = get_or a.kept.now l.i none in
    let test = c.kept-test.true in
    let more : take (l.i + 1) a.kept.now ≡ done ++ key ∷ [] = take_more a.kept.now l.i none test in
    let short : length done ≡ l.i = length-take-le l.i a.kept.now (omega arith) in
    let entered_step : c.push_reserved.new.self.items ≡ l.steps.items ++ step_of a.ways.now key ∷ [] = c.push_reserved.ensures.items ∙ ap (λ (s : Step). l.steps.items ++ s ∷ []) c.step_by.ensures in
    let many : length c.push_reserved.new.self.items ≡ n + (l.i + 1) = (let e = ap length entered_step ∙ length_push l.steps.items (step_of a.ways.now key) in let m = l.invariant.steps_count in omega arith) in
    let number : c.len.result ≡ n + length done + 1 = (let e : c.len.result ≡ length c.push_reserved.new.self.items = search rules in omega arith) in
    let member : c.member_by.result ≡ member_with a.ways.now key (n + length done + 1) = c.member_by.ensures ∙ ap (member_with a.ways.now key) number in
    let entered_member : c.push_reserved-in-kept.new.self.items ≡ l.members.items ++ member_with a.ways.now key (n + length done + 1) ∷ [] = c.push_reserved-in-kept.ensures.items ∙ ap (λ (m : Member). l.members.items ++ m ∷ []) member in
    record {
      members = entered_member ∙ (ap (λ (ms : List Member). ms ++ member_with a.ways.now key (n + length done + 1) ∷ []) l.invariant.members ∙ sym (ap (entered a.ways.now n) more ∙ entered-push a.ways.now n done key));
      steps = entered_step ∙ (ap (λ (ss : List Step). ss ++ step_of a.ways.now key ∷ []) l.invariant.steps
          ∙ (append_assoc a.steps.now.items (map (step_of a.ways.now) done) (step_of a.ways.now key ∷ [])
          ∙ ap (λ (ss : List Step). a.steps.now.items ++ ss) (sym (ap (map (step_of a.ways.now)) more ∙ map-append (step_of a.ways.now) done (key ∷ [])))));
      count = (let e = ap length entered_member ∙ length_push l.members.items (member_with a.ways.now key (n + length done + 1)) in let m = l.invariant.count in omega arith);
      steps_count = many;
      members_capacity = c.push_reserved-in-kept.ensures.capacity ∙ l.invariant.members_capacity;
      steps_capacity = c.push_reserved.ensures.capacity ∙ l.invariant.steps_capacity;
    }
