-- The worked example: what the book holds, and the two answers.
use Rattle.std.specs.Prelude.{[], ◌∷◌}
use Rattle.model.specs.Plain.{Contents}
use Rattle.model.specs.declared.answers.CohortSet.TheVariants.{Sample, WithRegistered}
use Rattle.model.specs.declared.answers.CombinedMargin.{CombinedMargin}
use Rattle.model.specs.declared.units.UnitEntry.{UnitEntry}
use Rattle.worked.specs.Struck.{coal}

abbrev pub plant : UnitEntry
plant = record { code = 1; class = 0; day = 20200101; generation = 1000; efficiency = 0; default_efficiency = 0 }

abbrev pub must_run : UnitEntry
must_run = record { code = 2; class = 1; day = 20150601; generation = 3000; efficiency = 0; default_efficiency = 0 }

-- The newer unit first, 400 tonnes burned in it.
abbrev pub example_contents : Contents
example_contents =
    record {
      fuels = coal ∷ [];
      units = record { entry = plant; burns = record { fuel = coal; quantity = 400 } ∷ [] } ∷ record { entry = must_run; burns = [] } ∷ [];
    }

-- Both units are the cohort.
abbrev pub at_first : CombinedMargin
at_first = record { combined = 244068; operating = 244068; build = 244068; cohort = record { set = Sample; counts = (2, 0, 0) } }

-- The must-run unit is old and goes; the plant's 1,000 MWh reach a fifth of 4,000 MWh.
abbrev pub later : CombinedMargin
later = record { combined = 610170; operating = 244068; build = 976272; cohort = record { set = WithRegistered; counts = (1, 0, 0) } }
