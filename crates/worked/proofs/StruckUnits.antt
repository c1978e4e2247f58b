-- The journal of a unit that was struck and entered again, and what it leaves.
use Rattle.std.proofs.Common.{◌≡◌, List, [], ◌∷◌, refl, arith}
use Rattle.std.proofs.lemmas.List.Sorted.{IsPermutation-to_front}
use Rattle.model.specs.Plain.{Contents, Shows}
use Rattle.model.specs.declared.events.Event.{Event}
use Rattle.model.specs.declared.events.Event.TheVariants.{EnterBurn, EnterFuel, EnterUnit, Strike}
use Rattle.model.specs.declared.units.UnitEntry.{UnitEntry}
use Rattle.model.proofs.Lives.{one-contents}
use Rattle.worked.specs.Struck.{burn, coal, latter, other, standing_units}

abbrev former : UnitEntry
former = record { code = 7; class = 0; day = 20010203; generation = 1000; efficiency = 0; default_efficiency = 0 }

abbrev pub journal : List Event
journal =
    EnterFuel coal
    ∷ EnterUnit former
    ∷ EnterUnit other
    ∷ EnterBurn (record { unit = 7; fuel = 1; quantity = 400 })
    ∷ Strike 7
    ∷ EnterUnit latter
    ∷ EnterBurn (record { unit = 7; fuel = 1; quantity = 10 })
    ∷ []

abbrev pub left : Contents
left = record { fuels = coal ∷ []; units = standing_units }

shows : Shows journal left
shows =
    record {
      fuels = refl;
      units = IsPermutation-to_front (record { entry = other; burns = [] } ∷ []) (record { entry = latter; burns = burn ∷ [] });
      ordered = (((omega arith, λ e. absurd (omega (arith, e))), tt), (tt, tt));
    }

pub leaves : (p : Contents) → Shows journal p → p ≡ left
leaves p h = one-contents journal p left h shows
