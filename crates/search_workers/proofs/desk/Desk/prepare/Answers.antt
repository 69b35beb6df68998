use Rattle.std.proofs.Common.{length, pos, ◌∙◌, ap, arith}
use Rattle.std.proofs.lemmas.List.{length-replicate}
use Rattle.search_workers.proofs.desk.Desk.prepare.Goals as goal

pub returns-in-Ok-blank-clause-desk : goal.returns-in-Ok-blank-clause-desk
returns-in-Ok-blank-clause-desk g c =
    let vars = c.vars.ensures in
    let room = c.in-Ok-blank.ensures.room in
    record {
      room = record {
        taken = record {
          decisions = omega arith;
          cells = ap (λ row. length row) c.in-Ok-blank.ensures.row ∙ (length-replicate c.words.result (pos 0) ∙ c.words.ensures);
        };
        space = c.in_ok-space.ensures.0;
        width = c.in_ok-space.ensures.1;
        cutset = c.in_ok-cutset.ensures;
        cut = c.in-Ok.ensures;
      };
      no_fates = c.new.ensures.items;
      book = c.requires.book;
    }
