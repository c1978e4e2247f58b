-- The answers over two books joined, with an import above them.
--
-- The list: unit 7 (20220101, 500 MWh, 24,406,800 g), unit 1 (20200101, 1,000 MWh, 976,272,000 g), then of 20150601 unit 2 of the first
-- book (3,000 MWh, 0 g) and unit 9 of the second (registered, 3,000 MWh, 0 g), and the import (2,000 MWh, 600,000,000 g).
-- The operating margin is 1,600,678,800 g / 9,500 MWh.
use Rattle.model.specs.declared.answers.CohortSet.TheVariants.{Sample, WithRegistered}
use Rattle.model.specs.declared.answers.CombinedMargin.{CombinedMargin}

-- The cohort is units 7, 1 and 2: 1,000,678,800 g / 4,500 MWh.
abbrev pub joined_first : CombinedMargin
joined_first = record { combined = 195433; operating = 168493; build = 222373; cohort = record { set = Sample; counts = (3, 0, 0) } }

-- Unit 2 is old and goes: 1,000,678,800 g / 1,500 MWh.
abbrev pub joined_later : CombinedMargin
joined_later = record { combined = 417806; operating = 168493; build = 667119; cohort = record { set = WithRegistered; counts = (2, 0, 0) } }
