-- The three margin methods: simple, average and simple adjusted.
use Rattle.std.specs.Prelude.{ℕ, zero, suc, ◌+◌, ◌-◌, ◌*◌, Bool, cond, not, List, [], ◌∷◌, map, Some, None, sum_by, filter, Option, ◌==◌, nat_le, nat_lt}
use Rattle.model.specs.declared.faults.Fault.{Fault}
use Rattle.model.specs.declared.faults.Layer.TheVariants.{Method}
use Rattle.model.specs.declared.faults.Rule.{Rule}
use Rattle.model.specs.declared.faults.Rule.TheVariants.{Missing, MethodClosed, LowCostAboveLoad, NoShare}
use Rattle.model.specs.declared.records.YearlyPair.{YearlyPair}
use Rattle.model.specs.Classes.{is_low_cost}
use Rattle.model.specs.Faults.{new_fault}
use Rattle.model.specs.Fraction.{Frac, ratio, times}
use Rattle.model.specs.LoadYears.{Hour, first_fault, loads_from, low_cost_hours}
use Rattle.model.specs.Rounding.{rounded}
use Rattle.model.specs.Shares.{Verdict, refused, shares}
use Rattle.model.specs.Units.{Listed}

abbrev pub method_fault : Rule → ℕ → Fault
method_fault r place = new_fault r Method place

-- ---- sums and means over a group of units

abbrev pub generation : List Listed → ℕ
generation us = sum_by (λ u. u.generation) us

-- whole grams, as the units are told
abbrev pub grams : List Listed → ℕ
grams us = sum_by (λ u. rounded u.emission) us

-- grams / generation, rounded
abbrev pub mean : List Listed → ℕ
mean us = rounded (ratio (grams us) (generation us))

abbrev pub low_cost : Listed → Bool
low_cost u = is_low_cost u.class

abbrev pub other_than_low_cost : Listed → Bool
other_than_low_cost u = not (is_low_cost u.class)

-- A unit's share is its generation.
abbrev pub generated : Listed → Frac
generated u = ratio u.generation 1

abbrev pub zero_share : Frac
zero_share = ratio 0 1

-- ---- average: every unit shares by its generation

abbrev pub average_meaning : List Listed → Verdict
average_meaning us = cond (generation us == 0) (refused (method_fault NoShare 0)) (shares (map generated us))

abbrev pub average_answer : List Listed → ℕ
average_answer us = mean us

-- ---- simple: the units that are not low-cost share by their generation, while low-cost generation is below half of all

-- A year's low-cost and whole generation, if they were entered: the years are told apart by their numbers.
abbrev pub pair_of : ℕ → List YearlyPair → Option YearlyPair
pair_of y [] = None
pair_of y (p ∷ ps) = cond (p.year == y) (Some p) (pair_of y ps)

abbrev pub or_missing : ℕ → Option YearlyPair → Option Fault → Option Fault
or_missing y None later = Some (method_fault Missing y)
or_missing y (Some p) later = later

-- the first of the n years from y on that is missing
abbrev pub missing_year : List YearlyPair → ℕ → ℕ → Option Fault
missing_year ps y zero = None
missing_year ps y (suc n) = or_missing y (pair_of y ps) (missing_year ps (y + 1) n)

-- Closed when twice the low-cost sum is at least the sum of all.
abbrev pub closed : List YearlyPair → Bool
closed ps = nat_le (sum_by (λ p. p.all) ps) (2 * sum_by (λ p. p.low_cost) ps)

abbrev pub unless_fault : Option Fault → Verdict → Verdict
unless_fault None v = v
unless_fault (Some f) v = refused f

abbrev pub simple_share : Listed → Frac
simple_share u = cond (low_cost u) zero_share (generated u)

abbrev pub simple_meaning : List YearlyPair → List Listed → Verdict
simple_meaning ps us =
    unless_fault (missing_year ps 0 5)
    (cond (closed ps) (refused (method_fault MethodClosed 0))
    (cond (generation (filter other_than_low_cost us) == 0) (refused (method_fault NoShare 0))
    (shares (map simple_share us))))

abbrev pub simple_answer : List Listed → ℕ
simple_answer us = mean (filter other_than_low_cost us)

-- ---- simple adjusted: in the low-cost hours the low-cost units are at the margin, in the others the rest

module _ (hours : ℕ) where
  -- of a unit that is not low-cost (hours − H)/hours × g/M, of a low-cost one H/hours × g/K
  abbrev pub adjusted_share : ℕ → ℕ → ℕ → Listed → Frac
  adjusted_share h k m u = cond (low_cost u) (times (ratio h hours) (ratio u.generation k)) (times (ratio (hours - h) hours) (ratio u.generation m))

  -- without low-cost units their mean counts as 0
  abbrev pub low_cost_mean : List Listed → ℕ
  low_cost_mean us = cond (generation us == 0) 0 (mean us)

  module _ (loads : List ℕ) (us : List Listed) where
    abbrev pub low_cost_generation : ℕ
    low_cost_generation = generation (filter low_cost us)

    abbrev pub other_generation : ℕ
    other_generation = generation (filter other_than_low_cost us)

    abbrev pub hours_below : ℕ
    hours_below = low_cost_hours loads low_cost_generation

    abbrev pub adjusted_verdict : Verdict
    adjusted_verdict =
        cond (nat_lt (sum_by (λ l. l) loads) low_cost_generation) (refused (method_fault LowCostAboveLoad 0))
        (cond (other_generation == 0) (refused (method_fault NoShare 0))
        (shares (map (adjusted_share hours_below low_cost_generation other_generation) us)))

    -- ((hours − H) × A + H × B) / hours, with the rounded means of the two groups
    abbrev pub adjusted_answer : ℕ
    adjusted_answer = rounded (ratio ((hours - hours_below) * mean (filter other_than_low_cost us) + hours_below * low_cost_mean (filter low_cost us)) hours)

  -- The hours are read in order, and the first fault among them refuses the question.
  abbrev pub adjusted_meaning : (ℕ → Hour) → List Listed → Verdict
  adjusted_meaning year us = unless_fault (first_fault year 0 hours) (adjusted_verdict (loads_from year 0 hours) us)
