use Rattle.std.proofs.Common.{◌<◌, Some, pos, length, refl, sym, ◌∙◌, arith}
use Rattle.std.proofs.lemmas.List.{length-set}
use Rattle.layer_candidates.specs.declared.key.Key.{Key}
use Rattle.layer_nodes.specs.declared.routing.Route.{Route}
use Rattle.layer_nodes.specs.Expanding.{key_in}
use Rattle.layer_nodes.specs.Routing.{IsPlain}
use Rattle.layer_nodes.proofs.Numbered.{number-other, numbered-more}
use Rattle.layer_nodes.proofs.Stored.{each-get, each-set}
use Rattle.layer_nodes.proofs.numbering.number.Goals as goal

pub keys-preserved : goal.keys-preserved
keys-preserved c =
    let a = c.args in
    let i = c.keys.i in
    let was = c.keys.invariant in
    let way = (key_in a.keys.now i).place in
    let route : Route = record { target = Some i; longer = pos 0 } in
    let less = each-get (λ (key : Key). key.place < length a.routes.now) a.keys.now i _ c.requires.within c.keys-test.true in
    let same = c.keys.auto.routes in
    record {
      numbered = numbered-more a.keys.now c.keys.routes i route refl (let inside : way < length a.routes.now = less in omega arith) was.numbered;
      others = λ p apart. number-other c.keys.routes way p route (λ e. apart i (omega arith) (sym e)) ∙ was.others p (λ j low. apart j (omega arith));
      plain = each-set IsPlain c.keys.routes way route refl was.plain;
      same = length-set c.keys.routes way route ∙ was.same;
    }
