use Rattle.std.proofs.Common.{◌≡◌, length, false}
use Rattle.tokens.specs.Text.{skip, IsCountable}
use Rattle.tokens.proofs.scan.skip_to_token.Given as goal

abbrev pub invariant-loop-rest : goal.invariant-loop-rest
invariant-loop-rest l = record {
  found : skip l.comment l.inside l.fresh l.place l.rest ≡ skip l.comment false l.fn.from_fresh l.fn.from.place l.fn.from.rest.now;
  countable : IsCountable l.place l.rest;
}

abbrev pub decreases-loop-rest : goal.decreases-loop-rest
decreases-loop-rest l = length l.rest
