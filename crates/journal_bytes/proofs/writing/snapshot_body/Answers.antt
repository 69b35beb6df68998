use Rattle.std.proofs.Common.{◌+◌, ◌^◌, ◌<◌, map, option_map, arith}
use Rattle.std.specs.Prelude.{sum_by}
use Rattle.std.proofs.lemmas.List.{length-map}
use Rattle.std.proofs.lemmas.List.Elements.{All-map}
use Rattle.journal_bytes.specs.Spelling.{ListedFits, best_size, listed_size}
use Rattle.journal_bytes.specs.Views.{incumbent_view, listed_view}
use Rattle.journal_bytes.proofs.Sizes.{best_fits, listed_fit, each_listed_fits}
use Rattle.journal_bytes.proofs.writing.snapshot_body.Goals as goal

pub overflow_cast-listed : goal.overflow_cast-listed
overflow_cast-listed c =
    let all : best_size (option_map incumbent_view c.args.best.now) + (12 + sum_by listed_size (map listed_view c.args.listed.now)) < 2 ^ 32 = c.requires.size in
    let small = listed_fit c.args.listed.now (omega (arith, all)) in omega (arith, small)

pub push_best-requires : goal.push_best-requires
push_best-requires c =
    let all : best_size (option_map incumbent_view c.args.best.now) + (12 + sum_by listed_size (map listed_view c.args.listed.now)) < 2 ^ 32 = c.requires.size in
    best_fits c.args.best.now (omega (arith, all))

pub push_all_listed-requires : goal.push_all_listed-requires
push_all_listed-requires c =
    let all : best_size (option_map incumbent_view c.args.best.now) + (12 + sum_by listed_size (map listed_view c.args.listed.now)) < 2 ^ 32 = c.requires.size in
    each_listed_fits c.args.listed.now (omega (arith, all))

pub returns-clause-fits : goal.returns-clause-fits
returns-clause-fits c =
    let listed = c.args.listed.now in
    let all : best_size (option_map incumbent_view c.args.best.now) + (12 + sum_by listed_size (map listed_view listed)) < 2 ^ 32 = c.requires.size in
    let small = listed_fit listed (omega (arith, all)) in (
      c.in_ok-push_best.ensures.fits,
      c.ranges.next.fits,
      omega (arith, small, length-map listed listed_view),
      All-map ListedFits listed_view listed c.in_ok-push_all_listed.ensures.fits,
    )
