use Rattle.std.proofs.Common.{◌≡◌, ℕ, ◌+◌, ◌<◌, ◌≤◌, ◌++◌, ℤ, pos, List, [], length, drop, get_or, FitsSigned, to_z, of_z, w64, rules, arith, ap, sym, ◌∙◌, append_assoc}
use Rattle.std.specs.Prelude.{if◌then◌else◌}
use Rattle.std.proofs.lemmas.List.{drop_more, drop_all, append-nil}
use Rattle.std.proofs.lemmas.Int.{to_z-of_z}
use Rattle.max_cut.specs.EdgeLines.{edge_line, is_none, row_lines}
use Rattle.max_cut.proofs.lines.push_row.Goals as goal

-- the line of one pair more
lined : (i j at : ℕ) (row : List ℤ) (before after whole : List ℕ) → at < length row
    → FitsSigned w64 (get_or row at (pos 0)) → after ≡ before ++ (if is_none (to_z w64 (of_z w64 (get_or row at (pos 0)))) then [] else edge_line i (j + at) (to_z w64 (of_z w64 (get_or row at (pos 0)))))
    → before ++ row_lines i (j + at) (drop at row) ≡ whole → after ++ row_lines i (j + (at + 1)) (drop (at + 1) row) ≡ whole
lined i j at row before after whole h fits e so_far =
    let w : ℤ = get_or row at (pos 0) in
    let line : List ℕ = if is_none w then [] else edge_line i (j + at) w in
    let next : j + (at + 1) ≡ (j + at) + 1 = omega arith in
    let rest : List ℕ = row_lines i ((j + at) + 1) (drop (at + 1) row) in
    let cut : row_lines i (j + at) (drop at row) ≡ line ++ rest = ap (row_lines i (j + at)) (drop_more row at (pos 0) h) in
    let pushed : after ≡ before ++ line = rw (to_z-of_z w64 w fits) at e in
    rw (next, pushed) (append_assoc before line rest ∙ rw cut at so_far)

all-lined : (i j at : ℕ) (row : List ℤ) (out whole : List ℕ) → length row ≤ at → out ++ row_lines i (j + at) (drop at row) ≡ whole → out ≡ whole
all-lined i j at row out whole h so_far = sym (append-nil out) ∙ rw (drop_all at row h) at so_far

pub loop-at-preserved : goal.loop-at-preserved
loop-at-preserved c = lined c.args.i (c.args.i + 1) c.loop-at.at c.args.row.now c.loop-at.out.items _ _ c.loop-at-test.true (search rules) c.in_ok-push_pair.ensures c.loop-at.invariant

pub returns : goal.returns
returns c = all-lined c.args.i (c.args.i + 1) c.loop-at.at c.args.row.now c.loop-at.out.items _ c.loop-at-test.false c.loop-at.invariant
