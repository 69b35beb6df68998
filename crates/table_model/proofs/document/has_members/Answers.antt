use Rattle.std.proofs.Common.{rules, ◌≡◌, nat_eq, length, Some, false, sym, ap, ◌∙◌}
use Rattle.std.specs.Prelude.{option_map, unwrap_or}
use Rattle.serde_json.specs.Events.{members_len}
use Rattle.serde_json.specs.Find.{as_object}
use Rattle.serde_json.specs.View.{view, members_view}
use Rattle.serde_json.proofs.Views.{members_len-members_view}
use Rattle.table_model.proofs.document.has_members.Goals as goal

pub returns-in-Some : goal.returns-in-Some
returns-in-Some c =
    let ms = c.in-Some.members.now.entries in
    let e : Some (members_view ms) ≡ as_object (view c.args.value.now) = search rules in
    let many : c.len.result ≡ length ms = c.len.ensures.len in
    ap (λ n. nat_eq n c.args.many) (many ∙ sym (members_len-members_view ms))
    ∙ ap (λ o. unwrap_or (option_map (λ l. nat_eq (members_len l) c.args.many) o) false) e
