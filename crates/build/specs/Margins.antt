-- The mean of a cohort's sums, or its fault.
use Rattle.std.specs.Prelude.{ℕ, cond, Some, None, Ok, Err, Option, Result, ◌==◌}
use Rattle.model.specs.Faults.{new_fault}
use Rattle.model.specs.Fraction.{ratio}
use Rattle.model.specs.Rounding.{rounded}
use Rattle.model.specs.declared.faults.BuildFault.{BuildFault}
use Rattle.model.specs.declared.faults.Layer.TheVariants.{Build}
use Rattle.model.specs.declared.faults.Rule.TheVariants.{NoBuildUnit, NoDefault}
use Rattle.build.specs.declared.members.Sums.{Sums}

-- the mean of the sums, unless a member lacks its emission
abbrev pub mean_unless : Option ℕ → ℕ → ℕ → Result ℕ BuildFault
mean_unless (Some code) grams g = Err (record { fault = new_fault NoDefault Build code })
mean_unless None grams g = cond (g == 0) (Err (record { fault = new_fault NoBuildUnit Build 0 })) (Ok (rounded (ratio grams g)))

abbrev pub mean_of : Sums → Result ℕ BuildFault
mean_of s = mean_unless s.lacking s.grams s.generation
