-- The build figure lies within 1 g/MWh of the exact build margin.
use Rattle.std.proofs.Common.{ℕ, ◌+◌, ◌*◌, ◌<◌, true, false, cond, ◌&&◌, List, [], ◌∷◌, length, Some, None, sum_by, Option, one-add, arith}
use Rattle.std.proofs.lemmas.List.Sums.{sum_by-cons}
use Rattle.model.specs.Cohort.{BuildNear, cohort_of, counted, emissions, frac_or, grams_or, is_old, is_third, members_of}
use Rattle.model.specs.Fraction.{Frac, Within, over, ratio}
use Rattle.model.specs.Methods.{generation}
use Rattle.model.specs.Rounding.{rounded}
use Rattle.model.specs.Units.{EmitsOption, InRange, Listed, Ranged}
use Rattle.model.specs.declared.answers.CohortSet.{CohortSet}
use Rattle.model.proofs.Distances.{within_more, within-plus, within-rounded}
use Rattle.model.proofs.Members.{length-generation, members-generate, members-ranged}
use Rattle.model.proofs.Rounding.{rounded-near}

-- a unit's rounded grams; where there is nothing to count, both are 0
option-near : (f : Option Frac) (n : ℕ) → EmitsOption n f → Within (ratio 1 2) (grams_or f) (frac_or f)
option-near None n h = record { real = omega arith; below = omega arith; above = omega arith }
option-near (Some f) n h = rounded-near f h.real

module _ (set : CohortSet) (reference : ℕ) where
  counted-emits : (u : Listed) → InRange u → EmitsOption u.generation (counted set reference u)
  counted-emits u h =
      elim (is_third set && is_old reference u) as (λ b. EmitsOption u.generation (cond b u.default (Some u.emission))) [
        | true ↦ h.defaults
        | false ↦ h.emits
      ]

  abbrev weight : Listed → ℕ
  weight u = grams_or (counted set reference u)

  emissions-near : (us : List Listed) → Ranged us → Within (ratio (length us) 2) (sum_by weight us) (emissions set reference us)
  emissions-near [] h = record { real = omega arith; below = omega arith; above = omega arith }
  emissions-near (u ∷ us) h =
      let one = option-near (counted set reference u) u.generation (counted-emits u h.0) in
      rw (sum_by-cons weight u us)
      (rw one-add at (within-plus 2 1 (length us) _ _ (frac_or (counted set reference u)) (emissions set reference us) one (emissions-near us h.1)))

  mean-near : (us : List Listed) → Ranged us → 0 < generation us
      → Within (ratio 2 2) (rounded (ratio (sum_by weight us) (generation us))) (over (emissions set reference us) (ratio (generation us) 1))
  mean-near us h pos =
      let few = length-generation us h in
      within_more (2 * generation us) (length us + generation us) 2 2 _ _ (omega arith) (omega arith)
      (within-rounded (length us) (sum_by weight us) (generation us) (emissions set reference us) pos (emissions-near us h))

pub build-near : BuildNear
build-near reference us ranged falling few some =
    mean-near (cohort_of reference us).set reference (members_of reference us (cohort_of reference us)) (members-ranged reference us ranged some) (members-generate reference us ranged some)
