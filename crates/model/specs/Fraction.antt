-- Fractions of natural numbers. They are compared, and distances are taken, by multiplying across.
use Rattle.std.specs.Prelude.{◌≡◌, ℕ, ◌+◌, ◌*◌, ◌<◌, ◌≤◌}

pub record Frac : Type 0 where
  pub num : ℕ
  pub den : ℕ

abbrev pub ratio : ℕ → ℕ → Frac
ratio n d = record { num = n; den = d }

abbrev pub plus : Frac → Frac → Frac
plus a b = ratio (a.num * b.den + b.num * a.den) (a.den * b.den)

abbrev pub times : Frac → Frac → Frac
times a b = ratio (a.num * b.num) (a.den * b.den)

abbrev pub over : Frac → Frac → Frac
over a b = ratio (a.num * b.den) (a.den * b.num)

-- The fractions have one value.
abbrev pub Same : Frac → Frac → Type 0
Same f e = f.num * e.den ≡ e.num * f.den

-- The fraction f is at most e.
abbrev pub AtMost : Frac → Frac → Type 0
AtMost f e = f.num * e.den ≤ e.num * f.den

-- The fraction f has a value, and the number a lies at most t away from it: a ≤ f + t and f ≤ a + t, multiplied across.
pub record Within (t : Frac) (a : ℕ) (f : Frac) : Type 0 where
  pub real : 0 < f.den
  pub below : t.den * (a * f.den) ≤ t.den * f.num + t.num * f.den
  pub above : t.den * f.num ≤ t.den * (a * f.den) + t.num * f.den
