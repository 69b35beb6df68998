use Rattle.std.proofs.Common.{◌≡◌, ◌++◌, ◌-ℤ◌, take, drop, map}
use Rattle.pair_rows.proofs.row.write_root.Given as goal

-- what is written so far, and the benefits of the rest, make the whole
abbrev pub invariant-loop-i : goal.invariant-loop-i
invariant-loop-i l = take l.i l.out ++ map (λ v. v.if_yes -ℤ v.if_no) (drop l.i l.units) ≡ map (λ v. v.if_yes -ℤ v.if_no) l.units
