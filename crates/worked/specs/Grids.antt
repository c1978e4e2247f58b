-- The units of the two grids that are joined.
use Rattle.std.specs.Prelude.{Some, None}
use Rattle.model.specs.declared.classes.Class.TheVariants.{LowCost, Ordinary}
use Rattle.model.specs.declared.units.PowerUnit.{PowerUnit}

abbrev pub north_unit : PowerUnit
north_unit = record { code = 7; day = 20010203; class = Ordinary; generation = 1000; grams = 250000; default_grams = Some 300000 }

abbrev pub south_unit : PowerUnit
south_unit = record { code = 9; day = 20150601; class = LowCost; generation = 3000; grams = 0; default_grams = None }
