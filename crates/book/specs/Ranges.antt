-- Every unit of the table is in range, by what holds of it alone.
use Rattle.std.specs.Prelude.{◌≤◌, List, [], ◌∷◌, map, take}
use Rattle.std.proofs.lemmas.List.Elements.{All-take, All-weaker, recursion_from_All}
use Rattle.model.specs.Units.{InRange, Ranged, listed_unit}
use Rattle.model.proofs.Emissions.{in-range}
use Rattle.book.specs.declared.standing.StandingUnit.{StandingUnit}
use Rattle.book.specs.Burns.{Fits}
use Rattle.book.specs.Standing.{standing}

unit-in-range : (u : StandingUnit) → InRange (listed_unit (standing u))
unit-in-range u =
    in-range (standing u)
    (record {
      coded = u.coded;
      short = u.short;
      dated = u.dated;
      ranged = u.ranged;
      factors = recursion_from_All (λ b. b.fuel.carbon_factor ≤ 320000) (take u.count u.burns) (All-weaker Fits (λ b. b.fuel.carbon_factor ≤ 320000) (λ b f. f.carbon) (take u.count u.burns) (All-take Fits u.count u.burns u.fitting));
      capped = u.capped;
    })

pub ranged-units : (us : List StandingUnit) → Ranged (map listed_unit (map standing us))
ranged-units [] = tt
ranged-units (u ∷ us) = (unit-in-range u, ranged-units us)
