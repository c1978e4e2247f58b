-- The build cohort. Newest first means in the register's order; a run is the first units of a list, none left out.
use Rattle.std.specs.Prelude.{◌≡◌, ℕ, ◌+◌, ◌-◌, ◌*◌, ◌<◌, ◌≤◌, min, Bool, true, false, cond, not, ◌&&◌, List, [], ◌∷◌, ◌++◌, length, take, Some, None, Ok, Err, sum_by, filter, Option, Result, ◌==◌, nat_le, nat_lt}
use Rattle.model.specs.declared.answers.BuildMargin.{BuildMargin}
use Rattle.model.specs.declared.answers.Cohort.{Cohort}
use Rattle.model.specs.declared.answers.CohortSet.{CohortSet}
use Rattle.model.specs.declared.answers.CohortSet.TheVariants.{Absent, Sample, WithRegistered, WithOld}
use Rattle.std.specs.List.Sorted.{IsPermutation}
use Rattle.model.specs.declared.faults.BuildFault.{BuildFault}
use Rattle.model.specs.declared.faults.Fault.{Fault}
use Rattle.model.specs.declared.faults.Layer.TheVariants.{Build}
use Rattle.model.specs.declared.faults.Rule.TheVariants.{NoBuildUnit, NoDefault}
use Rattle.model.specs.Classes.{is_home, is_registered}
use Rattle.model.specs.Course.{Course, limit, if_walked}
use Rattle.model.specs.Faults.{new_fault}
use Rattle.model.specs.Fraction.{Frac, Within, ratio, plus, over}
use Rattle.model.specs.Methods.{generation}
use Rattle.model.specs.Rounding.{rounded}
use Rattle.model.specs.Units.{Falling, Listed, Ranged}

-- ---- kinds of units

-- home units that are not registered
abbrev pub is_unregistered : Listed → Bool
is_unregistered u = is_home u.class && not (is_registered u.class)

abbrev pub unregistered : List Listed → List Listed
unregistered us = filter is_unregistered us

-- registered home units
abbrev pub registered : List Listed → List Listed
registered us = filter (λ u. is_registered u.class) us

-- Old: the start day plus 100,000, which is ten years, is below the reference day.
abbrev pub is_old : ℕ → Listed → Bool
is_old reference u = nat_lt (u.day + 100000) reference

abbrev pub olds : ℕ → List Listed → List Listed
olds reference us = filter (is_old reference) us

abbrev pub youngs : ℕ → List Listed → List Listed
youngs reference us = filter (λ u. not (is_old reference u)) us

-- T: the generation of the unregistered home units
abbrev pub target : List Listed → ℕ
target us = generation (unregistered us)

-- ---- the cohort in words

-- A run of k unregistered home units suffices: at least five units, or all if there are fewer, and five times its generation is at least T.
pub record Sufficient (us : List Listed) (k : ℕ) : Type 0 where
  pub within : k ≤ length (unregistered us)
  pub five : min 5 (length (unregistered us)) ≤ k
  pub fifth : target us ≤ 5 * generation (take k (unregistered us))

-- The sample run is the shortest sufficient run.
pub record SampleRun (us : List Listed) (k : ℕ) : Type 0 where
  pub enough : Sufficient us k
  pub shortest : (j : ℕ) → Sufficient us j → k ≤ j

-- The first n of the others join units that generate g: each joined while five times the generation was below T,
-- and joining stopped as soon as it no longer was, or no others were left.
pub record Joined (t g : ℕ) (others : List Listed) (n : ℕ) : Type 0 where
  pub within : n ≤ length others
  pub while : (j : ℕ) → j < n → 5 * (g + generation (take j others)) < t
  pub stopped : n < length others → t ≤ 5 * (g + generation (take n others))

module _ (reference : ℕ) (us : List Listed) (k : ℕ) where
  -- the sample run's units, and the generation of those that are not old
  abbrev sample : List Listed
  sample = take k (unregistered us)

  abbrev kept : ℕ
  kept = generation (youngs reference sample)

  -- No unit of the sample run is old: it is the cohort.
  pub record First (c : Cohort) : Type 0 where
    pub none : length (olds reference sample) ≡ 0
    pub is : c ≡ record { set = Sample; counts = (length (youngs reference sample), 0, 0) }

  -- Otherwise its old units go, and registered units join; this suffices.
  pub record Second (c : Cohort) : Type 0 where
    pub some : 0 < length (olds reference sample)
    pub joined : Joined (target us) kept (registered us) c.counts.1
    pub reached : target us ≤ 5 * (kept + generation (take c.counts.1 (registered us)))
    pub is : c ≡ record { set = WithRegistered; counts = (length (youngs reference sample), c.counts.1, 0) }

  -- It does not suffice, and old unregistered units join too.
  pub record Third (c : Cohort) : Type 0 where
    pub some : 0 < length (olds reference sample)
    pub joined : Joined (target us) kept (registered us) c.counts.1
    pub below : 5 * (kept + generation (take c.counts.1 (registered us))) < target us
    pub back : Joined (target us) (kept + generation (take c.counts.1 (registered us))) (olds reference (unregistered us)) c.counts.2
    pub is : c ≡ record { set = WithOld; counts = (length (youngs reference sample), c.counts.1, c.counts.2) }

  -- One of the three, by the set.
  abbrev pub InSet : CohortSet → Cohort → Type 0
  InSet Absent c = ⊥
  InSet Sample c = First c
  InSet WithRegistered c = Second c
  InSet WithOld c = Third c

-- c is the cohort, and its sample run has k units.
pub record IsCohort (reference : ℕ) (us : List Listed) (k : ℕ) (c : Cohort) : Type 0 where
  pub sample : SampleRun us k
  pub set : InSet reference us k c.set c

-- Each list with an unregistered home unit has a cohort, and only one.
abbrev pub OneCohort : Type 0
OneCohort =
    (reference : ℕ) (us : List Listed) → 0 < length (unregistered us)
    → (k : ℕ) × (c : Cohort) × IsCohort reference us k c × ((j : ℕ) (d : Cohort) → IsCohort reference us j d → (j ≡ k) × (d ≡ c))

-- ---- the cohort computed

-- How many of the units join, one after another, until it is enough: `enough` looks at their number and generation so far.
abbrev pub joining : (ℕ → ℕ → Bool) → ℕ → ℕ → List Listed → ℕ
joining enough n g [] = 0
joining enough n g (u ∷ us) = cond (enough n g) 0 (1 + joining enough (n + 1) (g + u.generation) us)

-- five times the generation reaches T
abbrev pub reaches : ℕ → ℕ → Bool
reaches t g = nat_le t (5 * g)

abbrev pub sample_count : List Listed → ℕ
sample_count us = joining (λ n g. nat_le 5 n && reaches (target us) g) 0 0 (unregistered us)

abbrev pub join_count : ℕ → ℕ → List Listed → ℕ
join_count t g others = joining (λ n h. reaches t (g + h)) 0 0 others

module _ (reference : ℕ) (us : List Listed) where
  abbrev pub sample_run : List Listed
  sample_run = take (sample_count us) (unregistered us)

  abbrev pub kept_units : List Listed
  kept_units = youngs reference sample_run

  abbrev pub registered_count : ℕ
  registered_count = join_count (target us) (generation kept_units) (registered us)

  -- generation of what is kept and of the registered units that joined
  abbrev pub with_registered : ℕ
  with_registered = generation kept_units + generation (take registered_count (registered us))

  abbrev pub back_count : ℕ
  back_count = join_count (target us) with_registered (olds reference (unregistered us))

  abbrev pub cohort_of : Cohort
  cohort_of =
      cond (length (olds reference sample_run) == 0) (record { set = Sample; counts = (length kept_units, 0, 0) })
      (cond (reaches (target us) with_registered) (record { set = WithRegistered; counts = (length kept_units, registered_count, 0) })
      (record { set = WithOld; counts = (length kept_units, registered_count, back_count) }))

-- ---- its members

-- The kinds of units that a cohort takes from.
pub data Kind : Type 0 where
  young : Kind
  joins : Kind
  back : Kind
  outside : Kind

abbrev pub kind_of : ℕ → Listed → Kind
kind_of reference u = cond (is_registered u.class) joins (cond (is_unregistered u) (cond (is_old reference u) back young) outside)

-- How many units of each kind are still to be taken.
abbrev pub more : Kind → ℕ × ℕ × ℕ → Bool
more young left = nat_lt 0 left.0
more joins left = nat_lt 0 left.1
more back left = nat_lt 0 left.2
more outside left = false

abbrev pub less : Kind → ℕ × ℕ × ℕ → ℕ × ℕ × ℕ
less young left = (left.0 - 1, left.1, left.2)
less joins left = (left.0, left.1 - 1, left.2)
less back left = (left.0, left.1, left.2 - 1)
less outside left = left

-- The first young unregistered units, the first registered ones and the first old unregistered ones, so many as the counts say, all in the register's order.
abbrev pub members : ℕ → ℕ × ℕ × ℕ → List Listed → List Listed
members reference left [] = []
members reference left (u ∷ us) =
    cond (more (kind_of reference u) left) (u ∷ members reference (less (kind_of reference u) left) us) (members reference left us)

abbrev pub members_of : ℕ → List Listed → Cohort → List Listed
members_of reference us c = members reference c.counts us

-- ---- the build margin

abbrev pub is_third : CohortSet → Bool
is_third Absent = false
is_third Sample = false
is_third WithRegistered = false
is_third WithOld = true

-- What a member counts: in the third set an old unit its default emission, every other its emission.
abbrev pub counted : CohortSet → ℕ → Listed → Option Frac
counted set reference u = cond (is_third set && is_old reference u) u.default (Some u.emission)

abbrev pub frac_or : Option Frac → Frac
frac_or None = ratio 0 1
frac_or (Some f) = f

abbrev pub grams_or : Option Frac → ℕ
grams_or None = 0
grams_or (Some f) = rounded f

abbrev pub emissions : CohortSet → ℕ → List Listed → Frac
emissions set reference [] = ratio 0 1
emissions set reference (u ∷ us) = plus (frac_or (counted set reference u)) (emissions set reference us)

-- Exact: emissions / generation, unrounded.
abbrev pub exact_build : ℕ → List Listed → Cohort → Frac
exact_build reference us c = over (emissions c.set reference (members_of reference us c)) (ratio (generation (members_of reference us c)) 1)

-- The figure: whole grams / generation, rounded.
abbrev pub build_figure : ℕ → List Listed → Cohort → ℕ
build_figure reference us c =
    rounded (ratio (sum_by (λ u. grams_or (counted c.set reference u)) (members_of reference us c)) (generation (members_of reference us c)))

abbrev pub or_lack : ℕ → Option Frac → Option Fault → Option Fault
or_lack code None later = Some (new_fault NoDefault Build code)
or_lack code (Some f) later = later

-- the first of the units that has no emission to count
abbrev pub first_lack : CohortSet → ℕ → List Listed → Option Fault
first_lack set reference [] = None
first_lack set reference (u ∷ us) = or_lack u.code (counted set reference u) (first_lack set reference us)

-- Refused where there is no unregistered home unit, or an old member of the third set has no default emission; the first is told.
abbrev pub cohort_fault : ℕ → List Listed → Option Fault
cohort_fault reference us = cond (length (unregistered us) == 0) (Some (new_fault NoBuildUnit Build 0)) (first_lack (cohort_of reference us).set reference (members_of reference us (cohort_of reference us)))

abbrev pub built_unless : Option Fault → BuildMargin → Result BuildMargin BuildFault
built_unless None m = Ok m
built_unless (Some f) m = Err (record { fault = f })

-- What the build margin of a course is: the walk's fault, the cohort's, or the figure with its cohort.
abbrev pub built : ℕ → Course Listed → Result BuildMargin BuildFault
built reference c =
    if_walked Build c
    (built_unless (cohort_fault reference c.units) (record { margin = build_figure reference c.units (cohort_of reference c.units); cohort = cohort_of reference c.units }))
    (λ f. Err (record { fault = f }))

-- The figure lies within 1 g/MWh of the exact build margin.
abbrev pub BuildNear : Type 0
BuildNear =
    (reference : ℕ) (us : List Listed) → Ranged us → Falling us → length us ≤ limit → 0 < length (unregistered us)
    → Within (ratio 2 2) (build_figure reference us (cohort_of reference us)) (exact_build reference us (cohort_of reference us))

-- What is computed is the cohort in words.
abbrev pub ComputedIsCohort : Type 0
ComputedIsCohort =
    (reference : ℕ) (us : List Listed) → 0 < length (unregistered us) → IsCohort reference us (sample_count us) (cohort_of reference us)

-- The members are what is kept of the sample run, the registered units that joined and the old units brought back, rearranged.
abbrev pub MembersAre : Type 0
MembersAre =
    (reference : ℕ) (us : List Listed) → Falling us → 0 < length (unregistered us)
    → IsPermutation
    (kept_units reference us
    ++ (take (cohort_of reference us).counts.1 (registered us) ++ take (cohort_of reference us).counts.2 (olds reference (unregistered us))))
    (members_of reference us (cohort_of reference us))
