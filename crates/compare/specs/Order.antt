-- The code of two values that are not the same, by the order of their ranks (codes as in laws/specs/Codes.antt).
use Rattle.std.specs.Prelude.{ℕ}
use Rattle.std.specs.declared.cmp.Ordering.{Ordering}
use Rattle.std.specs.declared.cmp.Ordering.TheVariants.{Less, Equal, Greater}

-- The lower rank is better, and equal ranks are unranked.
abbrev pub order_code : Ordering → ℕ
order_code Less = 1
order_code Greater = 2
order_code Equal = 3
