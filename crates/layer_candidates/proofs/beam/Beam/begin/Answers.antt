use Rattle.std.proofs.Common.{rules, ◌≡◌, ◌++◌, ◌∷◌, [], List, length, sym, ap, subst, ◌∙◌}
use Rattle.dp_model.specs.Gaps.{IsStateOf}
use Rattle.dp_model.specs.Laws.{IsLawful}
use Rattle.layer_candidates.specs.Beaming.{HasBeamRows}
use Rattle.layer_candidates.specs.HeldRows.{HasExchanged}
use Rattle.layer_candidates.specs.Members.{member_rows}
use Rattle.layer_candidates.specs.declared.beam.Beam.{Beam}
use Rattle.layer_candidates.specs.declared.member.Member.{Member}
use Rattle.row_region.proofs.Callers.{put_row}
use Rattle.layer_candidates.proofs.HeldRows.{exchange-put}
use Rattle.layer_candidates.proofs.Started.{prefix-state, prefix-cells, layers-same, built-start}
use Rattle.layer_candidates.proofs.beam.Beam.begin.Given as given
use Rattle.layer_candidates.proofs.beam.Beam.begin.Goals as goal

laws_of : (g : given.Over) (m : g.row.M.Denot) → IsLawful (g.M.DpModel.meaning (g.M.DpModel.numbers m))
laws_of g m = (g.met.M.DpModel g.world.𝓛 g.world.𝓜 g.world.𝓡 ((λ s x. x), (λ x. x), (λ x. x), λ x. x)).lawful m

pub rank-rank-requires : goal.rank-rank-requires
rank-rank-requires g c =
    let dp = g.M.DpModel.meaning (g.M.DpModel.numbers c.args.model.now) in
    subst (IsStateOf dp (length c.args.prefix.now)) (sym c.requires.row) (prefix-state dp (laws_of g c.args.model.now) c.args.prefix.now c.requires.prefix)

pub hash-hash-requires : goal.hash-hash-requires
hash-hash-requires g c =
    let dp = g.M.DpModel.meaning (g.M.DpModel.numbers c.args.model.now) in
    subst (IsStateOf dp (length c.args.prefix.now)) (sym c.requires.row) (prefix-state dp (laws_of g c.args.model.now) c.args.prefix.now c.requires.prefix)

pub put_row-place-requires-clause-cells : goal.put_row-place-requires-clause-cells
put_row-place-requires-clause-cells g c =
    let dp = g.M.DpModel.meaning (g.M.DpModel.numbers c.args.model.now) in
    let a = c.args in
    prefix-cells dp (laws_of g a.model.now) a.prefix.now a.row.now a.region.now.words c.requires.prefix c.requires.row c.requires.region_words

pub returns-clause-built : goal.returns-clause-built
returns-clause-built g c = λ w t h enough.
    let dp = g.M.DpModel.meaning (g.M.DpModel.numbers c.args.model.now) in
    let laws = laws_of g c.args.model.now in
    let a = c.args in
    let put = c.put_row-place.ensures in
    let region = c.put_row-place.new.region in
    let place = c.put_row-place.result in
    let long = prefix-cells dp laws a.prefix.now a.row.now a.region.now.words c.requires.prefix c.requires.row c.requires.region_words in
    let member : c.first_member.result ≡ record { value = a.value; rank = c.rank-rank.result; hash = c.hash-hash.result; row = place; step = 0 } = search rules in
    let members : c.push_reserved.new.self.items ≡ c.first_member.result ∷ [] = c.push_reserved.ensures.items ∙ ap (λ (l : List Member). l ++ c.first_member.result ∷ []) c.clear-2.ensures.items in
    let new : Beam = record a.self.now { members = c.push_reserved.new.self; steps = c.clear.new.self } in
    built-start dp laws a.prefix.now w t new region place a.row.now a.value c.rank-rank.result c.hash-hash.result c.requires.prefix c.requires.shorter
    (layers-same dp w a.self.now new h (λ n m k. k) (search rules) (search rules))
    (subst (HasBeamRows dp w) put.spare enough)
    (record {
      region_words = put.words ∙ c.requires.region_words;
      found = (put_row a.region.now region place a.row.now put long).found;
      row_is = c.requires.row;
      value_is = c.requires.value;
      rank_is = c.rank-rank.ensures;
      hash_is = c.hash-hash.ensures;
      members = members ∙ ap (λ (m : Member). m ∷ []) member;
      steps = c.clear.ensures.items;
    })

pub returns-clause-exchanged : goal.returns-clause-exchanged
returns-clause-exchanged g c =
    let dp = g.M.DpModel.meaning (g.M.DpModel.numbers c.args.model.now) in
    let a = c.args in
    let region = c.put_row-place.new.region in
    let place = c.put_row-place.result in
    let long = prefix-cells dp (laws_of g a.model.now) a.prefix.now a.row.now a.region.now.words c.requires.prefix c.requires.row c.requires.region_words in
    let member : c.first_member.result ≡ record { value = a.value; rank = c.rank-rank.result; hash = c.hash-hash.result; row = place; step = 0 } = search rules in
    let members : c.push_reserved.new.self.items ≡ c.first_member.result ∷ [] = c.push_reserved.ensures.items ∙ ap (λ (l : List Member). l ++ c.first_member.result ∷ []) c.clear-2.ensures.items in
    subst (HasExchanged a.region.now [] region) (sym (ap member_rows members ∙ ap (λ (m : Member). m.row ∷ []) member))
    (exchange-put a.region.now region place a.row.now c.put_row-place.ensures long [] (record { live = tt; apart = tt }))
