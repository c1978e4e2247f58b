-- A question of the examples: by the average method, with equal weights.
use Rattle.std.specs.Prelude.{◌≡◌, ℕ, true, Result}
use Rattle.model.specs.Course.{Course}
use Rattle.model.specs.History.{Composition}
use Rattle.model.specs.Methods.{average_answer, average_meaning}
use Rattle.model.specs.Promise.{Promise}
use Rattle.model.specs.declared.answers.CombinedMargin.{CombinedMargin}
use Rattle.model.specs.declared.faults.CombinedFault.{CombinedFault}
use Rattle.model.specs.declared.units.PowerUnit.{PowerUnit}

-- The answer of a register that is made of `entry`: it keeps the whole promise of the combined margin.
abbrev pub Asked : ℕ → Composition → Result CombinedMargin CombinedFault → Type 0
Asked reference entry r =
    (exit : Composition) × (coming : Course PowerUnit) × Promise average_meaning (λ us a. a ≡ average_answer us) 2 true 50 50 reference entry exit coming r
