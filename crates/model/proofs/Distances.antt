-- How distances add up.
use Rattle.std.proofs.Common.{ℕ, ◌+◌, ◌*◌, ◌<◌, ◌≤◌, mul-le-mul_right, mul-le-mul_left, mul-pos, arith}
use native.Mathlib.Nat.{le_of_mul-le-mul_left}
use Rattle.model.specs.Fraction.{Frac, ratio, plus, times, over, Within}
use Rattle.model.specs.Rounding.{rounded}
use Rattle.model.proofs.Rounding.{rounded-near}

-- the distances of two terms are added
pub within-plus : (k h j a b : ℕ) (f e : Frac) → Within (ratio h k) a f → Within (ratio j k) b e → Within (ratio (h + j) k) (a + b) (plus f e)
within-plus k h j a b f e p q = record {
  real = mul-pos p.real q.real;
  below = omega (arith, mul-le-mul_right e.den p.below, mul-le-mul_right f.den q.below);
  above = omega (arith, mul-le-mul_right e.den p.above, mul-le-mul_right f.den q.above);
}

-- a weight multiplies a distance
pub within-times : (k h w a : ℕ) (f : Frac) → Within (ratio h k) a f → Within (ratio (w * h) k) (w * a) (times (ratio w 1) f)
within-times k h w a f p = record {
  real = omega (arith, p.real);
  below = omega (arith, mul-le-mul_left w p.below);
  above = omega (arith, mul-le-mul_left w p.above);
}

-- a greater distance
pub within_more : (k h l j a : ℕ) (f : Frac) → 0 < k → h * l ≤ j * k → Within (ratio h k) a f → Within (ratio j l) a f
within_more k h l j a f pos le p =
    let scaled = mul-le-mul_right f.den le in
    record {
      real = p.real;
      below = le_of_mul-le-mul_left {k = k} (omega (arith, mul-le-mul_left l p.below)) pos;
      above = le_of_mul-le-mul_left {k = k} (omega (arith, mul-le-mul_left l p.above)) pos;
    }

-- a quotient, rounded: the distance is divided too, and the rounding adds a half
pub within-rounded : (h a m : ℕ) (f : Frac) → 0 < m → Within (ratio h 2) a f → Within (ratio (h + m) (2 * m)) (rounded (ratio a m)) (over f (ratio m 1))
within-rounded h a m f pos p =
    let r = rounded-near (ratio a m) pos in
    record {
      real = mul-pos p.real pos;
      below = omega (arith, mul-le-mul_right (f.den * m) r.below, mul-le-mul_right m p.below);
      above = omega (arith, mul-le-mul_right (f.den * m) r.above, mul-le-mul_right m p.above);
    }
