-- What a fold over a register's units may rely on.
use Rattle.std.specs.Prelude.{◌≡◌, ℕ, ◌*◌, ◌<◌, ◌≤◌, length, min, Some, None, Ok, Err, Option, Result}
use Rattle.model.specs.Course.{Course, proper, faulty}
use Rattle.model.specs.declared.faults.RegisterFault.{RegisterFault}
use Rattle.model.specs.declared.units.PowerUnit.{PowerUnit}

abbrev pub AtMost : ℕ → Option ℕ → Type 0
AtMost n None = Unit {0}
AtMost n (Some m) = m ≤ n

-- what holds of each unit that a register tells
pub record Cap (u : PowerUnit) : Type 0 where
  pub some : 1 ≤ u.generation
  pub most : u.generation ≤ 100000000
  pub grams : u.grams ≤ 10000000 * u.generation
  pub defaults : AtMost (10000000 * u.generation) u.default_grams

-- fewer than 4,000 units were taken, and there is room for one more
pub record Room {S : Type 0} (fits : S → ℕ → Type 0) (s : S) : Type 0 where
  pub taken : ℕ
  pub few : taken < 4000
  pub still : fits s taken

-- what is told of a course that was walked to its end: how many units it has, as far as 32 bits go, or its fault
abbrev pub Counted : Course PowerUnit → Result ℕ RegisterFault → Type 0
Counted c (Ok n) = (c.ending ≡ proper) × (n ≡ min (length c.units) 4294967295)
Counted c (Err f) = c.ending ≡ faulty f.fault
