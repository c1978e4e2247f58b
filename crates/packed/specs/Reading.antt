-- What the reading of one record, and of one unit, answers.
use Rattle.std.specs.Prelude.{List, [], ◌∷◌, Some, None, Ok, Err, Option, Result}
use Rattle.model.specs.declared.faults.Fault.{Fault}
use Rattle.model.specs.declared.faults.RegisterFault.{RegisterFault}
use Rattle.model.specs.declared.units.PowerUnit.{PowerUnit}

-- What is read, unless there is a fault.
abbrev pub read_as : {A : Type 0} → Option Fault → A → Result A RegisterFault
read_as None u = Ok u
read_as (Some f) u = Err (record { fault = f })

-- The first unit, if there is one.
abbrev pub first_unit : List PowerUnit → Option PowerUnit
first_unit [] = None
first_unit (u ∷ us) = Some u
