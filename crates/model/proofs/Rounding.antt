-- What every other proof knows of `rounded`. Only `rounded-is` and `rounded-floor` look into its definition.
use Rattle.std.proofs.Common.{◌≡◌, ℕ, ◌+◌, ◌*◌, ◌<◌, ◌≤◌, sym, mul-le-mul_right, le_antisymm, lt_of_mul-lt-mul_right, arith}
use native.Mathlib.Nat.{div-eq_of_lt-le, mul-div-le, lt-mul-div-succ}
use Rattle.model.specs.Fraction.{Frac, ratio, AtMost, Within}
use Rattle.model.specs.Rounding.{RoundsTo, RoundedIsFloor, RoundingLaws, rounded}

pub rounded-is : (f : Frac) (n : ℕ) → RoundsTo f n → rounded f ≡ n
unfolding rounded
rounded-is f n r = div-eq_of_lt-le (2 * f.den) (omega (arith, r.low)) (omega (arith, r.high))

pub rounded-floor : (f : Frac) → 0 < f.den → RoundsTo f (rounded f)
unfolding rounded
rounded-floor f pos =
    let p : 0 < 2 * f.den = omega arith in
    let low = mul-div-le (2 * f.num + f.den) (2 * f.den) in
    let high = lt-mul-div-succ (2 * f.num + f.den) p in
    record { low = omega arith; high = omega arith }

pub rounded-is-floor : RoundedIsFloor
rounded-is-floor f pos = (rounded-floor f pos, λ n r. sym (rounded-is f n r))

pub rounded-near : (f : Frac) → 0 < f.den → Within (ratio 1 2) (rounded f) f
rounded-near f pos =
    let r = rounded-floor f pos in
    record { real = pos; below = omega (arith, r.low); above = omega (arith, r.high) }

pub rounded-whole : (n : ℕ) → rounded (ratio n 1) ≡ n
rounded-whole n = let near = rounded-near (ratio n 1) (omega arith) in omega (arith, near.below, near.above)

pub rounded-cap : (f : Frac) (c : ℕ) → 0 < f.den → f.num ≤ c * f.den → rounded f ≤ c
rounded-cap f c pos h =
    let near = rounded-near f pos in
    let less : rounded f < c + 1 = lt_of_mul-lt-mul_right f.den (omega (arith, near.below)) in
    omega arith

pub rounded-mono : (f e : Frac) → 0 < f.den → 0 < e.den → AtMost f e → rounded f ≤ rounded e
rounded-mono f e p q h =
    let r = rounded-floor f p in
    let s = rounded-floor e q in
    let low = mul-le-mul_right e.den r.low in
    let high = mul-le-mul_right f.den s.high in
    let less : rounded f < rounded e + 1 = lt_of_mul-lt-mul_right (f.den * e.den) (omega (arith, low, high, h, p, q)) in
    omega arith

pub rounding-laws : RoundingLaws
rounding-laws =
    record {
      near = rounded-near;
      whole = rounded-whole;
      cap = rounded-cap;
      alike = λ f e p q s. le_antisymm (rounded-mono f e p q (omega (arith, s))) (rounded-mono e f q p (omega (arith, s)));
      monotone = rounded-mono;
    }
