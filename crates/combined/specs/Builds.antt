-- The build margin as a part of the combined margin.
use Rattle.std.specs.Prelude.{ℕ, cond, Ok, Err, Result, ◌==◌}
use Rattle.model.specs.Cohort.{built}
use Rattle.model.specs.Course.{Course}
use Rattle.model.specs.Promise.{no_cohort}
use Rattle.model.specs.Units.{Listed}
use Rattle.model.specs.declared.answers.BuildMargin.{BuildMargin}
use Rattle.model.specs.declared.faults.BuildFault.{BuildFault}
use Rattle.model.specs.declared.faults.CombinedFault.{CombinedFault}

-- the fault of the build margin, whole
abbrev pub lifted : Result BuildMargin BuildFault → Result BuildMargin CombinedFault
lifted (Ok m) = Ok m
lifted (Err f) = Err (record { fault = f.fault })

-- zeros where it has no weight
abbrev pub built_for : ℕ → ℕ → Course Listed → Result BuildMargin CombinedFault
built_for wbm reference c = cond (wbm == 0) (Ok (record { margin = 0; cohort = no_cohort })) (lifted (built reference c))
