-- Load years: for each hour of a year a load in MW, or a fault. Low-cost hours.
use Rattle.std.specs.Prelude.{◌≡◌, ℕ, zero, suc, ◌+◌, ◌*◌, ◌/◌, ◌%◌, ◌<◌, ◌≤◌, min, Bool, true, false, cond, not, ◌&&◌, List, [], ◌∷◌, ◌++◌, length, Some, None, Ok, Err, fold, sum_by, count_by, Option, Result, ◌==◌, nat_eq, nat_le, nat_lt, slice_index}
use Rattle.model.specs.declared.faults.Fault.{Fault}
use Rattle.model.specs.declared.faults.Layer.TheVariants.{LoadYear}
use Rattle.model.specs.declared.faults.LoadFault.{LoadFault}
use Rattle.model.specs.declared.faults.Rule.TheVariants.{AlreadyStands, OutOfRange, Missing, LoadTooHigh}
use Rattle.model.specs.declared.records.LoadGroup.{LoadGroup}
use Rattle.model.specs.Faults.{first_of, new_fault, stands_after, unless_refused}
use Rattle.model.specs.Plain.{any}

-- The hours of a year.
abbrev pub year_hours : ℕ
year_hours = 8760

-- The most that a load may be, in MW.
abbrev pub most_load : ℕ
most_load = 2000000

-- A number is a load: 0 to 2,000,000 MW. The definition is closed, and the laws below are what proofs know of it.
unfoldable pub is_load : ℕ → Bool
is_load n = nat_le n most_load

pub record LoadLaws : Type 0 where
  -- a load is at most 2,000,000 MW
  pub cap : (n : ℕ) → is_load n ≡ true → n ≤ most_load
  -- two loads that do not exceed it together are one
  pub sum : (m n : ℕ) → is_load m ≡ true → is_load n ≡ true → m + n ≤ most_load → is_load (m + n) ≡ true

-- What a load year says of an hour.
pub data Hour : Type 0 where
  load : ℕ → Hour
  fails : Fault → Hour

-- what reading the hour answers
abbrev pub hour_answer : Hour → Result ℕ LoadFault
hour_answer (load n) = Ok n
hour_answer (fails f) = Err (record { fault = f })

abbrev pub missing_hour : ℕ → Hour
missing_hour h = fails (new_fault Missing LoadYear h)

-- What a number says of its hour: above the limit it is out of range.
abbrev pub load_at : ℕ → ℕ → Hour
load_at h n = cond (nat_le n most_load) (load n) (fails (new_fault OutOfRange LoadYear h))

-- ---- the three kinds of load years, each a function from the hour

-- A list of numbers: an hour past its end is missing, and numbers after the year's last hour are not read.
abbrev pub list_year : ℕ → List ℕ → ℕ → Hour
list_year hours ns h = cond (nat_lt h hours && nat_lt h (length ns)) (load_at h (slice_index ns h)) (missing_hour h)

-- A year with one group of six hours more: the group n has the hours 6n to 6n + 5.
abbrev pub with_group : ℕ → (ℕ → Hour) → LoadGroup → ℕ → Hour
with_group hours year g h = cond (nat_lt h hours && g.group == h / 6) (load (slice_index g.loads (h % 6))) (year h)

-- Groups of six hours, in order of entry: an hour's load is in the group of its sixth.
abbrev pub group_year : ℕ → List LoadGroup → ℕ → Hour
group_year hours [] h = missing_hour h
group_year hours (g ∷ gs) h = cond (nat_lt h hours && g.group == h / 6) (load (slice_index g.loads (h % 6))) (group_year hours gs h)

-- every number is a load
abbrev pub all_loads : List ℕ → Bool
all_loads [] = true
all_loads (n ∷ ns) = is_load n && all_loads ns

-- What refuses a group: its number or a load out of range, then that its number stands already.
abbrev pub refused_group : ℕ → LoadGroup → Bool → Option Fault
refused_group hours g stands =
    first_of
    ((not (nat_lt g.group (hours / 6) && all_loads g.loads), new_fault OutOfRange LoadYear g.group)
    ∷ (stands, new_fault AlreadyStands LoadYear g.group)
    ∷ [])

-- the same by the groups that stand
abbrev pub group_fault : ℕ → List LoadGroup → LoadGroup → Option Fault
group_fault hours gs g = refused_group hours g (any (λ (s : LoadGroup). nat_eq s.group g.group) gs)

abbrev pub group_answer : ℕ → List LoadGroup → LoadGroup → Result (Unit {0}) LoadFault
group_answer hours gs g = unless_refused (λ f. record { fault = f }) (group_fault hours gs g) tt

-- A group that is refused puts nothing in.
abbrev pub groups_after : ℕ → List LoadGroup → LoadGroup → List LoadGroup
groups_after hours gs g = stands_after (group_fault hours gs g) (gs ++ g ∷ []) gs

-- The groups that stand once some were offered, in order.
abbrev pub groups_taken : ℕ → List LoadGroup → List LoadGroup
groups_taken hours offered = fold (groups_after hours) [] offered

-- Some groups, offered in order, make the year what it is.
abbrev pub ReachedYear : ℕ → (ℕ → Hour) → Type 0
ReachedYear hours year = ∥ ((offered : List LoadGroup) × (year ≡ group_year hours (groups_taken hours offered))) ∥₁

-- Taking in by what the year says, whatever groups it was made of: a group stands where its first hour has a load.
abbrev pub has_load : Hour → Bool
has_load (load n) = true
has_load (fails f) = false

abbrev pub year_group_fault : ℕ → (ℕ → Hour) → LoadGroup → Option Fault
year_group_fault hours year g = refused_group hours g (has_load (year (6 * g.group)))

abbrev pub year_group_answer : ℕ → (ℕ → Hour) → LoadGroup → Result (Unit {0}) LoadFault
year_group_answer hours year g = unless_refused (λ f. record { fault = f }) (year_group_fault hours year g) tt

abbrev pub year_after : ℕ → (ℕ → Hour) → LoadGroup → ℕ → Hour
year_after hours year g = stands_after (year_group_fault hours year g) (with_group hours year g) year

-- The sum of two: the first side's fault counts, and a sum above the limit is too high.
abbrev pub summed : ℕ → Hour → Hour → Hour
summed h (fails f) b = fails f
summed h (load m) (fails f) = fails f
summed h (load m) (load n) = cond (nat_le (m + n) most_load) (load (m + n)) (fails (new_fault LoadTooHigh LoadYear h))

abbrev pub sum_year : (ℕ → Hour) → (ℕ → Hour) → ℕ → Hour
sum_year a b h = summed h (a h) (b h)

-- ---- reading a year hour by hour

abbrev pub hour_fault : Hour → Option Fault → Option Fault
hour_fault (load n) later = later
hour_fault (fails f) later = Some f

-- The fault of the first of n hours, from the hour h on, that has one.
abbrev pub first_fault : (ℕ → Hour) → ℕ → ℕ → Option Fault
first_fault year h zero = None
first_fault year h (suc n) = hour_fault (year h) (first_fault year (h + 1) n)

abbrev pub load_of : Hour → ℕ
load_of (load n) = n
load_of (fails f) = 0

-- The loads of n hours, from the hour h on.
abbrev pub loads_from : (ℕ → Hour) → ℕ → ℕ → List ℕ
loads_from year h zero = []
loads_from year h (suc n) = load_of (year h) ∷ loads_from year (h + 1) n

-- All hours of the year in order: the fault of the first that has one, or else the loads.
-- The definition is closed, since at a whole year's number of hours it would unfold hour by hour.
unfoldable pub read_year : (ℕ → Hour) → ℕ → Result (List ℕ) LoadFault
read_year year hours = unless_refused (λ f. record { fault = f }) (first_fault year 0 hours) (loads_from year 0 hours)

-- ---- low-cost hours

-- An hour counts when the sum, over all hours, of the smaller of that hour's load and its own load is below K.
abbrev pub counts : List ℕ → ℕ → ℕ → Bool
counts loads k own = nat_lt (sum_by (λ l. min l own) loads) k

abbrev pub low_cost_hours : List ℕ → ℕ → ℕ
low_cost_hours loads k = count_by (counts loads k) loads

-- An hour with a higher load never counts where one with a lower load does not.
abbrev pub LowerCountFirst : Type 0
LowerCountFirst = (loads : List ℕ) (k l m : ℕ) → l ≤ m → counts loads k m ≡ true → counts loads k l ≡ true

-- There are never fewer low-cost hours with more low-cost generation, and none without any.
pub record LowCostHoursGrow : Type 0 where
  pub more : (loads : List ℕ) (j k : ℕ) → j ≤ k → low_cost_hours loads j ≤ low_cost_hours loads k
  pub none : (loads : List ℕ) → low_cost_hours loads 0 ≡ 0

-- The hour of the highest load never counts where low-cost generation is at most the total load.
abbrev pub NotEveryHourCounts : Type 0
NotEveryHourCounts = (loads : List ℕ) (k : ℕ) → 0 < length loads → k ≤ sum_by (λ l. l) loads → low_cost_hours loads k < length loads
