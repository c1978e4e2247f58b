-- Rounding: to round a fraction is to take the floor of the fraction plus 1/2.
use Rattle.std.specs.Prelude.{◌≡◌, ℕ, ◌+◌, ◌*◌, ◌/◌, ◌<◌, ◌≤◌}
use Rattle.model.specs.Fraction.{Frac, ratio, Same, AtMost, Within}

-- n is the floor of f + 1/2: n ≤ f + 1/2 and f + 1/2 < n + 1, multiplied across.
pub record RoundsTo (f : Frac) (n : ℕ) : Type 0 where
  pub low : 2 * (n * f.den) ≤ 2 * f.num + f.den
  pub high : 2 * f.num + f.den < 2 * ((n + 1) * f.den)

-- The rounded fraction. The definition is closed: every proof but those of the laws below knows it by the laws alone.
unfoldable pub rounded : Frac → ℕ
rounded f = (2 * f.num + f.den) / (2 * f.den)

-- It is the floor of the fraction plus 1/2, and no other number is.
abbrev pub RoundedIsFloor : Type 0
RoundedIsFloor = (f : Frac) → 0 < f.den → RoundsTo f (rounded f) × ((n : ℕ) → RoundsTo f n → n ≡ rounded f)

-- What holds of rounding whatever becomes of halves.
pub record RoundingLaws : Type 0 where
  -- it lies within 1/2 of the fraction
  pub near : (f : Frac) → 0 < f.den → Within (ratio 1 2) (rounded f) f
  -- a whole number stays
  pub whole : (n : ℕ) → rounded (ratio n 1) ≡ n
  -- it stays below any whole bound of the fraction
  pub cap : (f : Frac) (c : ℕ) → 0 < f.den → f.num ≤ c * f.den → rounded f ≤ c
  -- fractions of one value round alike
  pub alike : (f e : Frac) → 0 < f.den → 0 < e.den → Same f e → rounded f ≡ rounded e
  -- a greater fraction never rounds to less
  pub monotone : (f e : Frac) → 0 < f.den → 0 < e.den → AtMost f e → rounded f ≤ rounded e
