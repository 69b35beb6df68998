use Rattle.std.proofs.Common.{◌≡◌, ℕ, ◌+◌, ◌-◌, ℤ, List, ◌++◌, length, append_assoc, arith, sym, ap, ap₂, ◌∙◌, replicate, Option, None, subst}
use Rattle.row_region.specs.Layout.{slots, places, HasFreeChain}
use Rattle.std.proofs.lemmas.List.{replicate-append-replicate}
use Rattle.row_region.proofs.region.Region.grow.Goals as goal

pub invariant_of-self-2 : goal.invariant_of-self-2
invariant_of-self-2 c =
    let i = c.self.inside in
    let h = c.self.invariant.0 in
    let enough = h.enough in
    let same = c.in_ok-reserve.ensures.items in (
      record {
        chained = subst (λ (l : List ℤ). HasFreeChain l i.words i.free.fresh i.free.first i.free.given) (sym same) h.chained;
        within = h.within;
        enough = omega arith;
        few = omega arith;
        size = ap length same ∙ h.size;
      },
      let ok = c.in_ok-reserve.ensures.ok in let len = c.in_ok-reserve.ensures.len in let size = c.in-Some.ensures.1 in omega arith,
    )

pub returns-clause-ok : goal.returns-clause-ok
returns-clause-ok c =
    let i = c.self.inside in
    let h = c.self.invariant.0 in
    let within = h.within in
    let enough = h.enough in
    let n : i.count + c.args.rows - i.free.fresh ≡ i.count - i.free.fresh + c.args.rows = omega arith in
    let spare : i.free.given + (i.count + c.args.rows - i.free.fresh) ≡ i.free.given + (i.count - i.free.fresh) + c.args.rows = omega arith in
    let front = slots i.cells.items i.words i.free.fresh i.free.first i.free.given in
    let all : places c.reserve.new.self.items i.words (i.count + c.args.rows) i.free.fresh i.free.first i.free.given ≡ places i.cells.items i.words i.count i.free.fresh i.free.first i.free.given ++ replicate c.args.rows None =
    ap₂ (λ (l : List ℤ) (m : ℕ). slots l i.words i.free.fresh i.free.first i.free.given ++ replicate m None) c.in_ok-reserve.ensures.items n
    ∙ (ap (λ (l : List (Option (List ℤ))). front ++ l) (sym (replicate-append-replicate (i.count - i.free.fresh) c.args.rows None))
    ∙ sym (append_assoc front (replicate (i.count - i.free.fresh) None) (replicate c.args.rows None))) in
    rw (← c.self.view_is) (ap₂ (λ (l : List (Option (List ℤ))) (m : ℕ). record { words = i.words; rows = l; spare = m }) all spare)
