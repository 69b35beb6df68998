use Rattle.std.proofs.Common.{◌∙◌, ◌++◌, ◌∷◌, [], length, ap}
use Rattle.disk.specs.Content.{ContentView}
use Rattle.disk.specs.declared.content.Write.{Write}
use Rattle.disk.specs.Synced.{synced_or}
use Rattle.disk.proofs.Moments.{follows_same, follows_push, synced_stays}
use Rattle.disk.proofs.content.Content.write.Goals as goal

pub returns-in_err-keep_synced-clause-leaves : goal.returns-in_err-keep_synced-clause-leaves
returns-in_err-keep_synced-clause-leaves c =
    let kept : ContentView = record { bytes = c.self.inside.bytes.items; synced = synced_or c.keep_synced.new.synced c.self.inside.bytes.items; pending = c.self.inside.pending.items } in
    follows_same c.args.self.now kept c.args.at (length c.args.piece.now) (c.keep_synced.ensures.synced ∙ ap (λ (d : ContentView). d.synced) c.self.view_is) (ap (λ (d : ContentView). d.pending) c.self.view_is)

pub returns-in_err-push-2-clause-leaves : goal.returns-in_err-push-2-clause-leaves
returns-in_err-push-2-clause-leaves c =
    let kept : ContentView = record { bytes = c.self.inside.bytes.items; synced = synced_or c.keep_synced.new.synced c.self.inside.bytes.items; pending = c.push-2.new.self.items } in
    follows_same c.args.self.now kept c.args.at (length c.args.piece.now) (c.keep_synced.ensures.synced ∙ ap (λ (d : ContentView). d.synced) c.self.view_is) (c.in_err-push-2.ensures.items ∙ ap (λ (d : ContentView). d.pending) c.self.view_is)

pub returns-then-fails-clause-leaves : goal.returns-then-fails-clause-leaves
returns-then-fails-clause-leaves c =
    let write : Write = record { at = c.args.at; count = length c.args.piece.now } in
    let kept : ContentView = record { bytes = c.self.inside.bytes.items; synced = synced_or c.keep_synced.new.synced c.self.inside.bytes.items; pending = c.push-2.new.self.items } in
    follows_push c.args.self.now kept write (c.keep_synced.ensures.synced ∙ ap (λ (d : ContentView). d.synced) c.self.view_is) (c.in_ok-push-2.ensures.items ∙ ap (λ (d : ContentView). d.pending ++ write ∷ []) c.self.view_is)

pub returns-clause-leaves : goal.returns-clause-leaves
returns-clause-leaves c =
    let write : Write = record { at = c.args.at; count = length c.args.piece.now } in
    let kept : ContentView = record { bytes = c.overwrite.new.bytes.items; synced = synced_or c.keep_synced.new.synced c.overwrite.new.bytes.items; pending = c.push-2.new.self.items } in
    let same = synced_stays c.keep_synced.new.synced c.overwrite.new.bytes.items c.self.inside.bytes.items c.in_ok-keep_synced.ensures.kept in
    follows_push c.args.self.now kept write (same ∙ c.keep_synced.ensures.synced ∙ ap (λ (d : ContentView). d.synced) c.self.view_is) (c.in_ok-push-2.ensures.items ∙ ap (λ (d : ContentView). d.pending ++ write ∷ []) c.self.view_is)
