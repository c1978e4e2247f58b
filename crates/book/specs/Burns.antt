-- A unit's burns.
use Rattle.std.specs.Prelude.{ℕ, ◌≤◌, List, [], ◌∷◌, Some, None, Option}
use Rattle.model.specs.declared.units.Burn.{Burn}
use Rattle.model.specs.Units.{lowest}

-- The lowest carbon factor among the burns, if there are any.
abbrev pub lowest_of : List Burn → Option ℕ
lowest_of [] = None
lowest_of (b ∷ bs) = Some (lowest b bs)

-- a burn's numbers are at most the highest of their ranges
pub record Fits (b : Burn) : Type 0 where
  pub quantity : b.quantity ≤ 10000000
  pub heat : b.fuel.heat_content ≤ 100000
  pub carbon : b.fuel.carbon_factor ≤ 320000
