-- The cohort, or its fault.
use Rattle.std.specs.Prelude.{ℕ, cond, List, length, Ok, Err, Result, ◌==◌}
use Rattle.model.specs.Cohort.{cohort_of, unregistered}
use Rattle.model.specs.Course.{Course}
use Rattle.model.specs.Faults.{new_fault}
use Rattle.model.specs.Units.{Listed}
use Rattle.model.specs.declared.answers.Cohort.{Cohort}
use Rattle.model.specs.declared.faults.BuildFault.{BuildFault}
use Rattle.model.specs.declared.faults.Layer.TheVariants.{Build}
use Rattle.model.specs.declared.faults.Rule.TheVariants.{NoBuildUnit}
use Rattle.build.specs.Walks.{unless_fault}

-- The cohort of a list, unless it has no unregistered home unit.
abbrev pub cohort_or : ℕ → List Listed → Result Cohort BuildFault
cohort_or reference us = cond (length (unregistered us) == 0) (Err (record { fault = new_fault NoBuildUnit Build 0 })) (Ok (cohort_of reference us))

abbrev pub walked_cohort : ℕ → Course Listed → Result Cohort BuildFault
walked_cohort reference c = unless_fault c (cohort_or reference c.units)
