-- Power units: what stands in a year book, exact emissions, a unit as a register means it and as it tells it.
use Rattle.std.specs.Prelude.{◌≡◌, ℕ, ◌*◌, ◌<◌, ◌≤◌, min, Bool, true, false, cond, List, [], ◌∷◌, Some, None, sum_by, Option, ◌==◌}
use Rattle.std.specs.List.{AllByRecursion}
use Rattle.std.specs.Option.{unwrap_or}
use Rattle.model.specs.declared.classes.Class.{Class}
use Rattle.model.specs.declared.classes.Class.TheVariants.{Import}
use Rattle.model.specs.declared.units.Burn.{Burn}
use Rattle.model.specs.declared.units.PowerUnit.{PowerUnit}
use Rattle.model.specs.declared.units.UnitEntry.{UnitEntry}
use Rattle.model.specs.Calendar.{is_day}
use Rattle.model.specs.Classes.{is_home, numbered_class}
use Rattle.model.specs.Fraction.{Frac, ratio}
use Rattle.model.specs.Rounding.{rounded}

-- ---- exact emissions

-- A unit that stands in a year book, and what it has burned, in order of entry.
pub record Standing : Type 0 where
  pub entry : UnitEntry
  pub burns : List Burn

-- The thousandths of a gram from a burn: quantity × heat content × carbon factor.
abbrev pub burned : Burn → ℕ
burned b = b.quantity * b.fuel.heat_content * b.fuel.carbon_factor

-- The lowest carbon factor among the burns b ∷ bs.
abbrev pub lowest : Burn → List Burn → ℕ
lowest b [] = b.fuel.carbon_factor
lowest b (d ∷ bs) = min b.fuel.carbon_factor (lowest d bs)

-- Grams by the fuel burned.
abbrev pub by_fuel : List Burn → Frac
by_fuel bs = ratio (sum_by burned bs) 1000

-- Grams by an efficiency in per mille: generation × lowest carbon factor × 3,600 / efficiency, and 0 without burns.
-- (3,600 is 3.6 GJ in a MWh, times the thousand of the per mille.)
abbrev pub by_efficiency : ℕ → ℕ → List Burn → Frac
by_efficiency generation efficiency [] = ratio 0 1
by_efficiency generation efficiency (b ∷ bs) = ratio (generation * lowest b bs * 3600) efficiency

-- The exact emission of a unit, in grams.
abbrev pub emission : Standing → Frac
emission u = cond (u.entry.efficiency == 0) (by_fuel u.burns) (by_efficiency u.entry.generation u.entry.efficiency u.burns)

abbrev pub default_by : ℕ → ℕ → List Burn → Option Frac
default_by generation efficiency [] = Some (ratio 0 1)
default_by generation efficiency (b ∷ bs) = cond (efficiency == 0) None (Some (by_efficiency generation efficiency (b ∷ bs)))

-- The default emission: by the default efficiency. There is none where the unit has burns and default efficiency 0.
abbrev pub default_emission : Standing → Option Frac
default_emission u = default_by u.entry.generation u.entry.default_efficiency u.burns

-- ---- a unit in a register's list

-- A unit as the register means it.
pub record Listed : Type 0 where
  pub code : ℕ
  pub day : ℕ
  pub class : Class
  pub generation : ℕ
  pub emission : Frac
  pub default : Option Frac

abbrev pub rounded_option : Option Frac → Option ℕ
rounded_option None = None
rounded_option (Some f) = Some (rounded f)

-- A unit as the register tells it: emission and default emission rounded to whole grams.
abbrev pub told : Listed → PowerUnit
told u = record { code = u.code; day = u.day; class = u.class; generation = u.generation; grams = rounded u.emission; default_grams = rounded_option u.default }

-- What stands in a year book, as a unit of a list.
abbrev pub listed_unit : Standing → Listed
listed_unit u = record { code = u.entry.code; day = u.entry.day; class = unwrap_or (numbered_class u.entry.class) Import; generation = u.entry.generation; emission = emission u; default = default_emission u }

-- ---- ranges

-- An emission of a unit has a value, and is at most 10,000,000 g for each MWh.
pub record Emits (generation : ℕ) (f : Frac) : Type 0 where
  pub real : 0 < f.den
  pub cap : f.num ≤ 10000000 * generation * f.den

abbrev pub EmitsOption : ℕ → Option Frac → Type 0
EmitsOption generation None = Unit {0}
EmitsOption generation (Some f) = Emits generation f

-- A home unit has a calendar day; an import has day 0 and no default.
abbrev pub DayOf : Bool → ℕ → Option Frac → Type 0
DayOf true day default = is_day day ≡ true
DayOf false day default = (day ≡ 0) × (default ≡ None)

pub record InRange (u : Listed) : Type 0 where
  pub coded : 1 ≤ u.code
  pub short : u.code ≤ 65535
  pub dated : DayOf (is_home u.class) u.day u.default
  pub some : 1 ≤ u.generation
  pub most : u.generation ≤ 100000000
  pub emits : Emits u.generation u.emission
  pub defaults : EmitsOption u.generation u.default

abbrev pub Ranged : List Listed → Type 0
Ranged us = AllByRecursion InRange us

-- Start days never rise along the list: no later unit is newer.
abbrev pub Falling : List Listed → Type 0
Falling [] = Unit {0}
Falling (u ∷ us) = AllByRecursion (λ v. v.day ≤ u.day) us × Falling us
