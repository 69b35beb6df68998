use Rattle.std.proofs.Common.{◌≡◌, ◌<◌, ℕ, get_or, length, ◌∙◌, rules}
use Rattle.tokens.proofs.Zeros.{four_zeros}
use Rattle.tokens.proofs.scan.after_four_zeros.Goals as goal

pub returns-then-from_le_bytes : goal.returns-then-from_le_bytes
returns-then-from_le_bytes c =
    let parts = c.in_ok-four.ensures.cases in
    let fits : (i : ℕ) → get_or c.args.bytes.now i 0 < 256 = (λ i. (c.type_inv.bytes i).fits) in
    let long : length c.in_ok-four.four.now ≡ 8 = search rules in
    four_zeros c.args.bytes.now c.in_ok-four.four.now c.in_ok-four.following.now c.from_le_bytes.result long fits c.from_le_bytes.ensures (c.if-from_le_bytes.true ∙ c.from_le_bytes-2.ensures) parts.0 parts.1
