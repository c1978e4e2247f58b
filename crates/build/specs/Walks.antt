-- What a walk for the build margin answers.
use Rattle.std.specs.Prelude.{Err, Result}
use Rattle.model.specs.Course.{Course, if_walked}
use Rattle.model.specs.Units.{Listed}
use Rattle.model.specs.declared.faults.BuildFault.{BuildFault}
use Rattle.model.specs.declared.faults.Layer.TheVariants.{Build}

-- the fault that the walk meets, or else the answer given
abbrev pub unless_fault : {X : Type 0} → Course Listed → Result X BuildFault → Result X BuildFault
unless_fault c r = if_walked Build c r (λ f. Err (record { fault = f }))
