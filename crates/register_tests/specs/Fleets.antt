-- The list of a fleet.
use Rattle.std.specs.Prelude.{ℕ, replicate, Some, None, Option}
use Rattle.model.specs.Course.{Course, Ending, faulty, proper}
use Rattle.model.specs.Fraction.{ratio}
use Rattle.model.specs.Units.{Listed}
use Rattle.model.specs.declared.classes.Class.TheVariants.{Ordinary}
use Rattle.model.specs.declared.faults.Fault.{Fault}

-- Each unit: 100 MWh and 50,000 g, no default.
abbrev pub fleet_unit : ℕ → ℕ → Listed
fleet_unit code day = record { code = code; day = day; class = Ordinary; generation = 100; emission = ratio 50000 1; default = None }

abbrev pub ending_of : Option Fault → Ending
ending_of None = proper
ending_of (Some f) = faulty f

abbrev pub fleet_of : ℕ → ℕ → ℕ → Option Fault → Course Listed
fleet_of code day units fault = record { units = replicate units (fleet_unit code day); ending = ending_of fault }
