-- The whole promise of the combined margin.
use Rattle.std.specs.Prelude.{◌≡◌, ℕ, ◌+◌, ◌*◌, ◌<◌, Bool, cond, not, ◌&&◌, List, [], length, Some, None, Ok, Err, Option, Result, ◌==◌}
use Rattle.model.specs.declared.answers.Cohort.{Cohort}
use Rattle.model.specs.declared.answers.CohortSet.TheVariants.{Absent}
use Rattle.model.specs.declared.answers.CombinedMargin.{CombinedMargin}
use Rattle.model.specs.declared.faults.CombinedFault.{CombinedFault}
use Rattle.model.specs.declared.faults.Fault.{Fault}
use Rattle.model.specs.declared.faults.Layer.TheVariants.{Combined}
use Rattle.model.specs.declared.faults.Rule.TheVariants.{NoSuchDay, WeightsNotHundred, CannotStandAlone}
use Rattle.model.specs.declared.units.PowerUnit.{PowerUnit}
use Rattle.model.specs.Calendar.{is_day}
use Rattle.model.specs.Cohort.{IsCohort, build_figure, cohort_fault, cohort_of, exact_build, kept_units, sample_count}
use Rattle.model.specs.Course.{Course, told_course, walk_fault}
use Rattle.model.specs.Faults.{new_fault}
use Rattle.model.specs.Fraction.{Frac, ratio, plus, times, over, Within}
use Rattle.model.specs.History.{Composition, History, Lived, SomeHistory, Told, listed}
use Rattle.model.specs.Rounding.{rounded}
use Rattle.model.specs.Shares.{Verdict, refused, shares, exact}
use Rattle.model.specs.Units.{Listed}

-- ---- the first fault

abbrev pub or_else : Option Fault → Option Fault → Option Fault
or_else (Some f) later = Some f
or_else None later = later

abbrev pub when : Bool → Fault → Option Fault
when b f = cond b (Some f) None

abbrev pub verdict_fault : Verdict → Option Fault
verdict_fault (refused f) = Some f
verdict_fault (shares ss) = None

-- The fault that a call answers with, if it is refused.
abbrev pub fault_of : Result CombinedMargin CombinedFault → Option Fault
fault_of (Ok m) = None
fault_of (Err f) = Some f.fault

-- P of the answer, where there is one.
abbrev pub Answered : Result CombinedMargin CombinedFault → (CombinedMargin → Type 0) → Type 0
Answered (Ok m) P = P m
Answered (Err f) P = Unit {0}

abbrev pub shares_of : Verdict → List Frac
shares_of (refused f) = []
shares_of (shares ss) = ss

-- wOM hundredths of f and wBM hundredths of e
abbrev pub mixed : ℕ → Frac → ℕ → Frac → Frac
mixed w f v e = over (plus (times (ratio w 1) f) (times (ratio v 1) e)) (ratio 100 1)

-- With no build margin, all its numbers are 0.
abbrev pub no_cohort : Cohort
no_cohort = record { set = Absent; counts = (0, 0, 0) }

-- What is checked before the register is looked at: reference day, weights, and whether the method may stand alone.
abbrev pub asked : Bool → ℕ → ℕ → ℕ → Option Fault → Option Fault
asked alone wom wbm reference later =
    or_else (when (not (is_day reference)) (new_fault NoSuchDay Combined 0))
    (or_else (when (not (wom + wbm == 100)) (new_fault WeightsNotHundred Combined 0))
    (or_else (when (wbm == 0 && not alone) (new_fault CannotStandAlone Combined 0)) later))

-- A question: the weights in per cent, the reference day as a number, and the method by what it means.
module _ (meaning : List Listed → Verdict) (may : List Listed → ℕ → Type 0) (distance : ℕ) (alone : Bool) (wom wbm reference : ℕ) where
  -- The first fault: of the question, of the walk, of the method, of the cohort, in this order.
  abbrev pub refusal : Course Listed → Option Fault
  refusal c =
      asked alone wom wbm reference
      (or_else (walk_fault Combined c)
      (or_else (verdict_fault (meaning c.units))
      (cond (wbm == 0) None (cohort_fault reference c.units))))

  -- the exact value of a list: without a build margin only the operating margin counts
  abbrev pub exact_combined : List Listed → Frac
  exact_combined us =
      mixed wom (exact (shares_of (meaning us)) us) wbm (cond (wbm == 0) (ratio 0 1) (exact_build reference us (cohort_of reference us)))

  -- `entry` and `exit` say what the register is made of before and after the call, `coming` what is still to come after it, and r is the answer.
  pub record Promise (entry exit : Composition) (coming : Course PowerUnit) (r : Result CombinedMargin CombinedFault) : Type 0 where
    -- There is a history of the register, and whatever the journals of its year books are, its list is exactly that of the plain books.
    pub some : SomeHistory entry
    pub list : (h : History) → Lived h entry → Told h (listed entry)
    -- Refused exactly when a fault is named, and with the first.
    pub refused : fault_of r ≡ refusal (listed entry)
    -- The operating margin is one that the method may answer; the build margin is the cohort's; the two are weighted and rounded once.
    pub operating : Answered r (λ m. may (listed entry).units m.operating)
    pub build : Answered r (λ m. m.build ≡ cond (wbm == 0) 0 (build_figure reference (listed entry).units (cohort_of reference (listed entry).units)))
    pub figure : Answered r (λ m. m.combined ≡ rounded (ratio (wom * m.operating + wbm * m.build) 100))
    -- It lies within (wOM × d + 2 × wBM)/200 + 1/2 of the exact value.
    pub near : Answered r (λ m. Within (ratio (wom * distance + wbm * 2 + 100) 200) m.combined (exact_combined (listed entry).units))
    -- Set and counts are the cohort's, and its words hold: the least sufficient run, each later unit joined below a fifth of T.
    pub cohort : Answered r (λ m. m.cohort ≡ cond (wbm == 0) no_cohort (cohort_of reference (listed entry).units))
    pub words : Answered r (λ m. 0 < wbm → IsCohort reference (listed entry).units (sample_count (listed entry).units) m.cohort)
    -- The first count is the number of the sample run's units that are not old.
    pub counted : Answered r (λ m. 0 < wbm → m.cohort.counts.0 ≡ length (kept_units reference (listed entry).units))
    -- Nothing of the register changed, and it is restarted.
    pub kept : exit ≡ entry
    pub restarted : coming ≡ told_course (listed entry)
