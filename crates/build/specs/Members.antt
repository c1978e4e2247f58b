-- The members of a cohort and their sums, as a walk adds them up.
use Rattle.std.specs.Prelude.{ℕ, ◌+◌, ◌*◌, ◌≤◌, cond, not, ◌&&◌, List, [], ◌∷◌, Some, None, Ok, sum_by, Option, Result}
use Rattle.std.specs.Option.{option_or}
use Rattle.model.specs.Classes.{is_home, is_registered}
use Rattle.model.specs.Cohort.{Kind, young, joins, back, outside, counted, grams_or, is_third, less, members_of, more}
use Rattle.model.specs.Course.{Course}
use Rattle.model.specs.Fraction.{Frac}
use Rattle.model.specs.Methods.{generation}
use Rattle.model.specs.Units.{Listed}
use Rattle.model.specs.declared.answers.Cohort.{Cohort}
use Rattle.model.specs.declared.answers.CohortSet.{CohortSet}
use Rattle.model.specs.declared.faults.BuildFault.{BuildFault}
use Rattle.model.specs.declared.units.PowerUnit.{PowerUnit}
use Rattle.build.specs.Kinds.{long_ago}
use Rattle.build.specs.Walks.{unless_fault}
use Rattle.build.specs.declared.members.Members.{Members}
use Rattle.build.specs.declared.members.Sums.{Sums}

-- ---- unit by unit

abbrev pub told_kind : ℕ → PowerUnit → Kind
told_kind reference u =
    cond (is_registered u.class) joins (cond (is_home u.class && not (is_registered u.class)) (cond (long_ago reference u) back young) outside)

abbrev pub one_less : ℕ × ℕ × ℕ → ℕ → PowerUnit → Option (ℕ × ℕ × ℕ)
one_less left reference u = cond (more (told_kind reference u) left) (Some (less (told_kind reference u) left)) None

abbrev pub grams_of : CohortSet → ℕ → PowerUnit → Option ℕ
grams_of set reference u = cond (is_third set && long_ago reference u) u.default_grams (Some u.grams)

abbrev pub no_sums : Sums
no_sums = record { grams = 0; generation = 0; lacking = None }

abbrev pub with_member : Sums → PowerUnit → Option ℕ → Sums
with_member s u (Some n) = record { grams = s.grams + n; generation = s.generation + u.generation; lacking = s.lacking }
with_member s u None = record { grams = s.grams; generation = s.generation + u.generation; lacking = option_or s.lacking (Some u.code) }

abbrev pub taken : Members → PowerUnit → Option (ℕ × ℕ × ℕ) → Members
taken m u None = m
taken m u (Some left) = record { reference = m.reference; cohort = m.cohort; left = left; sums = with_member m.sums u (grams_of m.cohort.set m.reference u) }

abbrev pub member_step : Members → PowerUnit → Members
member_step m u = taken m u (one_less m.left m.reference u)

-- after n units in range
pub record Roomy (s : Sums) (n : ℕ) : Type 0 where
  pub generation : s.generation ≤ n * 100000000
  pub grams : s.grams ≤ 10000000 * s.generation

-- ---- as a whole

abbrev pub or_code : ℕ → Option Frac → Option ℕ → Option ℕ
or_code code None later = Some code
or_code code (Some f) later = later

-- the code of the first of the units that has no emission to count
abbrev pub first_without : CohortSet → ℕ → List Listed → Option ℕ
first_without set reference [] = None
first_without set reference (u ∷ us) = or_code u.code (counted set reference u) (first_without set reference us)

abbrev pub sums_of : ℕ → Cohort → List Listed → Sums
sums_of reference c us =
    record {
      grams = sum_by (λ u. grams_or (counted c.set reference u)) (members_of reference us c);
      generation = generation (members_of reference us c);
      lacking = first_without c.set reference (members_of reference us c);
    }

abbrev pub walked_sums : ℕ → Cohort → Course Listed → Result Sums BuildFault
walked_sums reference cohort c = unless_fault c (Ok (sums_of reference cohort c.units))
