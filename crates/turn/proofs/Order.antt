-- The order of seen values, of which none is the least.
use Rattle.std.proofs.Common.{ℤ, Option, None, Some, arith}
use Rattle.std.proofs.lemmas.Int.{ints}
use Rattle.turn.specs.Order.{NoLess, greater}

pub no_less-same : (x : Option ℤ) → NoLess x x
no_less-same None = tt
no_less-same (Some x) = grind (arith, ints)

pub no_less-trans : (x y z : Option ℤ) → NoLess x y → NoLess y z → NoLess x z
no_less-trans None y z a b = tt
no_less-trans (Some x) None z a b = absurd a
no_less-trans (Some x) (Some y) None a b = absurd b
no_less-trans (Some x) (Some y) (Some z) a b = grind (arith, ints)

-- what neither is above
pub no_less-greater : (x y z : Option ℤ) → NoLess x z → NoLess y z → NoLess (greater x y) z
no_less-greater None y z a b = b
no_less-greater (Some x) None z a b = a
no_less-greater (Some x) (Some y) None a b = absurd a
no_less-greater (Some x) (Some y) (Some z) a b = grind (arith, ints)

pub no_less-left : (x y : Option ℤ) → NoLess x (greater x y)
no_less-left None y = tt
no_less-left (Some x) None = no_less-same (Some x)
no_less-left (Some x) (Some y) = grind (arith, ints)

pub no_less-right : (x y : Option ℤ) → NoLess y (greater x y)
no_less-right None y = no_less-same y
no_less-right (Some x) None = tt
no_less-right (Some x) (Some y) = grind (arith, ints)
