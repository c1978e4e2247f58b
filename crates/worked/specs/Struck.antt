-- What a book holds after a unit was struck and entered again.
use Rattle.std.specs.Prelude.{List, [], ◌∷◌, Some}
use Rattle.model.specs.Fraction.{ratio}
use Rattle.model.specs.Units.{Listed, Standing}
use Rattle.model.specs.declared.classes.Class.TheVariants.{Ordinary, Registered}
use Rattle.model.specs.declared.units.Burn.{Burn}
use Rattle.model.specs.declared.units.Fuel.{Fuel}
use Rattle.model.specs.declared.units.UnitEntry.{UnitEntry}

abbrev pub coal : Fuel
coal = record { code = 1; heat_content = 25800; carbon_factor = 94600 }

abbrev pub latter : UnitEntry
latter = record { code = 7; class = 0; day = 20220101; generation = 500; efficiency = 0; default_efficiency = 380 }

abbrev pub other : UnitEntry
other = record { code = 9; class = 2; day = 20150601; generation = 3000; efficiency = 0; default_efficiency = 0 }

abbrev pub burn : Burn
burn = record { fuel = coal; quantity = 10 }

-- The newer unit first: unit 7 with its second life's burn alone.
abbrev pub standing_units : List Standing
standing_units = record { entry = latter; burns = burn ∷ [] } ∷ record { entry = other; burns = [] } ∷ []

-- 10 × 25,800 × 94,600 / 1,000 g; by default 500 × 94,600 × 3,600 / 380 g.
abbrev pub entered_again : Listed
entered_again = record { code = 7; day = 20220101; class = Ordinary; generation = 500; emission = ratio 24406800000 1000; default = Some (ratio 170280000000 380) }

-- No burns: 0 g, by default too.
abbrev pub beside_it : Listed
beside_it = record { code = 9; day = 20150601; class = Registered; generation = 3000; emission = ratio 0 1000; default = Some (ratio 0 1) }
