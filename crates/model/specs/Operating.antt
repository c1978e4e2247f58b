-- The simple and the simple adjusted method as a question asks them: what refuses them, what a unit's share is, what they answer.
use Rattle.std.specs.Prelude.{◌≡◌, ℕ, ◌+◌, ◌-◌, ◌*◌, Bool, cond, not, ◌&&◌, List, [], ◌∷◌, ◌++◌, map, sum_by, filter, Option, Result, ◌==◌, nat_le, nat_lt}
use Rattle.model.specs.declared.faults.Fault.{Fault}
use Rattle.model.specs.declared.faults.MethodFault.{MethodFault}
use Rattle.model.specs.declared.faults.Rule.TheVariants.{AlreadyStands, LowCostAboveLoad, MethodClosed, Missing, NoShare, OutOfRange}
use Rattle.model.specs.declared.records.YearlyPair.{YearlyPair}
use Rattle.model.specs.Faults.{first_of, stands_after, unless_refused}
use Rattle.model.specs.Fraction.{Frac, ratio}
use Rattle.model.specs.LoadYears.{Hour, first_fault, loads_from, low_cost_hours}
use Rattle.model.specs.Methods.{adjusted_answer as defined_adjusted_answer, adjusted_meaning as defined_adjusted_meaning, simple_meaning as defined_simple_meaning}
use Rattle.model.specs.Methods.{adjusted_share, closed, generated, generation, low_cost, mean, method_fault, other_than_low_cost, unless_fault, zero_share}
use Rattle.model.specs.Plain.{any}
use Rattle.model.specs.Rounding.{rounded}
use Rattle.model.specs.Shares.{Verdict, refused, shares}
use Rattle.model.specs.Units.{Listed}

-- K: the generation of the low-cost units
abbrev pub low_cost_generation : List Listed → ℕ
low_cost_generation us = generation (filter low_cost us)

-- M: the generation of the others
abbrev pub other_generation : List Listed → ℕ
other_generation us = generation (filter other_than_low_cost us)

-- ---- simple: the units that are not low-cost share by their generation, while low-cost generation is below half of all

-- The years are told by their numbers 0 to 4. Both figures are in GWh, at most 4,000,000, and low-cost generation is not above all.
abbrev pub pair_in_range : YearlyPair → Bool
pair_in_range p = nat_le p.year 4 && (nat_le p.all 4000000 && nat_le p.low_cost p.all)

abbrev pub is_year : ℕ → YearlyPair → Bool
is_year y p = p.year == y

-- What refuses a pair, by the pairs that stand.
abbrev pub pair_fault : List YearlyPair → YearlyPair → Option Fault
pair_fault ps p =
    first_of
    ((not (pair_in_range p), method_fault OutOfRange p.year)
    ∷ (any (is_year p.year) ps, method_fault AlreadyStands p.year)
    ∷ [])

abbrev pub pair_answer : List YearlyPair → YearlyPair → Result (Unit {0}) MethodFault
pair_answer ps p = unless_refused (λ f. record { fault = f }) (pair_fault ps p) tt

-- the pairs in order of entry; one that is refused puts nothing in
abbrev pub pairs_after : List YearlyPair → YearlyPair → List YearlyPair
pairs_after ps p = stands_after (pair_fault ps p) (ps ++ p ∷ []) ps

-- a year of which no pair stands
abbrev pub missing : List YearlyPair → ℕ → Bool × Fault
missing ps y = (not (any (is_year y) ps), method_fault Missing y)

-- What refuses the method by its pairs: the first year of the five that is missing, then that it is closed.
abbrev pub years_fault : List YearlyPair → Option Fault
years_fault ps =
    first_of
    (missing ps 0 ∷ missing ps 1 ∷ missing ps 2 ∷ missing ps 3 ∷ missing ps 4
    ∷ (closed ps, method_fault MethodClosed 0)
    ∷ [])

abbrev pub simple_share : Listed → Frac
simple_share u = cond (other_than_low_cost u) (generated u) zero_share

abbrev pub simple_meaning : List YearlyPair → List Listed → Verdict
simple_meaning ps us =
    unless_fault (years_fault ps)
    (cond (other_generation us == 0) (refused (method_fault NoShare 0))
    (shares (map simple_share us)))

-- ---- simple adjusted: in the low-cost hours the low-cost units are at the margin, in the others the rest

-- H: the number of low-cost hours
abbrev pub hours_below : List ℕ → List Listed → ℕ
hours_below loads us = low_cost_hours loads (low_cost_generation us)

-- B: the rounded mean of the low-cost units, 0 where there is none
abbrev pub low_cost_mean : List Listed → ℕ
low_cost_mean us = cond (low_cost_generation us == 0) 0 (mean (filter low_cost us))

module _ (hours : ℕ) where
  module _ (loads : List ℕ) (us : List Listed) where
    -- refused where K is above the total load, or M is 0
    abbrev pub adjusted_verdict : Verdict
    adjusted_verdict =
        cond (nat_lt (sum_by (λ l. l) loads) (low_cost_generation us)) (refused (method_fault LowCostAboveLoad 0))
        (cond (other_generation us == 0) (refused (method_fault NoShare 0))
        (shares (map (adjusted_share hours (hours_below loads us) (low_cost_generation us) (other_generation us)) us)))

    -- ((hours − H) × A + H × B) / hours, rounded; A is the rounded mean of the units that are not low-cost
    abbrev pub adjusted_margin : ℕ
    adjusted_margin = rounded (ratio ((hours - hours_below loads us) * mean (filter other_than_low_cost us) + hours_below loads us * low_cost_mean us) hours)

  -- The hours are read in order, and the first fault among them refuses the question. This and the answer are closed, since a
  -- year's hours are too many to go through where they are cited.
  unfoldable pub adjusted_meaning : (ℕ → Hour) → List Listed → Verdict
  adjusted_meaning year us = unless_fault (first_fault year 0 hours) (adjusted_verdict (loads_from year 0 hours) us)

  unfoldable pub adjusted_answer : (ℕ → Hour) → List Listed → ℕ
  adjusted_answer year us = adjusted_margin (loads_from year 0 hours) us

-- The methods as a question asks them are those that Methods defines.
pub record MethodsAgree : Type 0 where
  pub simple : (ps : List YearlyPair) (us : List Listed) → simple_meaning ps us ≡ defined_simple_meaning ps us
  pub adjusted : (hours : ℕ) (year : ℕ → Hour) (us : List Listed) → adjusted_meaning hours year us ≡ defined_adjusted_meaning hours year us
  pub figure : (hours : ℕ) (year : ℕ → Hour) (us : List Listed) → adjusted_answer hours year us ≡ defined_adjusted_answer hours (loads_from year 0 hours) us
