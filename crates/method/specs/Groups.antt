-- Grams and generation of two groups of units: the low-cost ones and the others.
use Rattle.std.specs.Prelude.{ℕ, ◌+◌, ◌*◌, ◌≤◌, Bool, cond, not, List, Some, None, filter, Option, ◌==◌}
use Rattle.model.specs.Classes.{is_low_cost}
use Rattle.model.specs.Fraction.{ratio}
use Rattle.model.specs.Methods.{generation, grams, low_cost, other_than_low_cost}
use Rattle.model.specs.Rounding.{rounded}
use Rattle.model.specs.Units.{Listed}
use Rattle.model.specs.declared.units.PowerUnit.{PowerUnit}
use Rattle.method.specs.declared.groups.GroupSums.{GroupSums}

abbrev pub sums_of : List Listed → ℕ × ℕ
sums_of us = (grams us, generation us)

abbrev pub group_sums : List Listed → (ℕ × ℕ) × (ℕ × ℕ)
group_sums us = (sums_of (filter low_cost us), sums_of (filter other_than_low_cost us))

-- The mean of a group by its sums: none where nothing is generated.
abbrev pub mean_of : ℕ × ℕ → Option ℕ
mean_of s = cond (s.1 == 0) None (Some (rounded (ratio s.0 s.1)))

-- ---- the walk's fold

abbrev pub nothing : GroupSums
nothing = record { low_cost = (0, 0); other = (0, 0) }

abbrev pub added : Bool → PowerUnit → ℕ × ℕ → ℕ × ℕ
added b u s = (s.0 + cond b u.grams 0, s.1 + cond b u.generation 0)

abbrev pub stepped : GroupSums → PowerUnit → GroupSums
stepped s u = record { low_cost = added (is_low_cost u.class) u s.low_cost; other = added (not (is_low_cost u.class)) u s.other }

-- after n units
pub record Small (s : GroupSums) (n : ℕ) : Type 0 where
  pub generation : s.low_cost.1 + s.other.1 ≤ n * 100000000
  pub low_grams : s.low_cost.0 ≤ 10000000 * s.low_cost.1
  pub other_grams : s.other.0 ≤ 10000000 * s.other.1
