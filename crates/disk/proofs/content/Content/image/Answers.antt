use Rattle.std.proofs.Common.{get_or, subst, sym, arith}
use Rattle.std.proofs.lemmas.List.{drop_more}
use Rattle.disk.specs.Content.{ContentView, Leaves, Reaches}
use Rattle.disk.specs.declared.content.Write.{Write}
use Rattle.disk.specs.Synced.{synced_or}
use Rattle.disk.proofs.Moments.{reaches_none, reaches_step}
use Rattle.disk.proofs.content.Content.image.Goals as goal

pub returns-in_default-clause-image : goal.returns-in_default-clause-image
returns-in_default-clause-image c =
    let bytes = c.self.inside.bytes.items in
    let pending = c.self.inside.pending.items in
    subst (λ (d : ContentView). Leaves d bytes) c.self.view_is (subst (λ s. Reaches (synced_or s bytes) pending bytes) (sym c.in_default.is) (reaches_none bytes pending))

pub returns-then-is_empty-clause-image : goal.returns-then-is_empty-clause-image
returns-then-is_empty-clause-image c =
    let image = c.in-Some.image.items in
    let pending = c.self.inside.pending.items in
    subst (λ (d : ContentView). Leaves d image) c.self.view_is (subst (λ s. Reaches (synced_or s c.self.inside.bytes.items) pending image) (sym c.in-Some.is) (reaches_none image pending))

pub loop-write-preserved : goal.loop-write-preserved
loop-write-preserved c =
    let writes = c.deref-write-items.result.now in
    let none : Write = record { at = 0; count = 0 } in
    reaches_step c.in-Some.image.items c.loop-write.image.items c.tear.new.image.items writes c.loop-write.write-index (get_or writes c.loop-write.write-index none) (drop_more writes c.loop-write.write-index none (omega arith)) c.in_ok-tear.ensures c.loop-write.invariant
