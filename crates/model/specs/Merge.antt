-- The two layers over registers: the join of two, and the import.
use Rattle.std.specs.Prelude.{◌≡◌, ℕ, ◌*◌, cond, ◌||◌, List, [], ◌∷◌, ◌++◌, Some, None, filter, Option, ◌==◌, nat_eq, nat_le, nat_lt}
use Rattle.std.specs.List.Sorted.{IsPermutation}
use Rattle.model.specs.declared.classes.Class.TheVariants.{Import}
use Rattle.model.specs.declared.faults.Fault.{Fault}
use Rattle.model.specs.declared.faults.Layer.TheVariants.{Import as ImportLayer}
use Rattle.model.specs.declared.faults.Rule.TheVariants.{OutOfRange, ZeroCode}
use Rattle.model.specs.Course.{Ending, proper, faulty, Course}
use Rattle.model.specs.declared.faults.Side.{Side}
use Rattle.model.specs.declared.faults.Side.TheVariants.{First, Second}
use Rattle.model.specs.Faults.{new_fault, through}
use Rattle.model.specs.Fraction.{ratio}
use Rattle.model.specs.Units.{Falling, Listed}

-- ---- the join: newest first, the first side ahead on equal days

abbrev pub ends_through : Side → Ending → Ending
ends_through s proper = proper
ends_through s (faulty f) = faulty (through s f)

abbrev pub before : {A : Type 0} → A → Course A → Course A
before x c = record { units = x ∷ c.units; ending = c.ending }

-- Nothing more comes once a side has only its fault left; where both have, the first side's counts.
abbrev pub only_second : {A : Type 0} → Ending → List A → Ending → Course A
only_second proper ys f = record { units = ys; ending = ends_through Second f }
only_second (faulty e) ys f = record { units = []; ending = ends_through First (faulty e) }

abbrev pub only_first : {A : Type 0} → List A → Ending → Ending → Course A
only_first xs e proper = record { units = xs; ending = ends_through First e }
only_first xs e (faulty f) = record { units = []; ending = ends_through Second (faulty f) }

-- One definition over any element with a day.
module _ {A : Type 0} (day : A → ℕ) where
  -- x, and the first side's later units, which `more` merges, among the second side's
  abbrev pub onto : A → List A → Ending → (List A → Course A) → List A → Ending → Course A
  onto x xs e more [] f = only_first (x ∷ xs) e f
  onto x xs e more (y ∷ ys) f = cond (nat_le (day y) (day x)) (before x (more (y ∷ ys))) (before y (onto x xs e more ys f))

  abbrev pub merged : List A → Ending → List A → Ending → Course A
  merged [] e ys f = only_second e ys f
  merged (x ∷ xs) e ys f = onto x xs e (λ zs. merged xs e zs f) ys f

abbrev pub merged_course : {A : Type 0} → (A → ℕ) → Course A → Course A → Course A
merged_course day c d = merged day c.units c.ending d.units d.ending

-- ---- the import: one last unit, unless the register ends in a fault

pub record ImportOf : Type 0 where
  pub code : ℕ
  pub generation : ℕ
  pub factor : ℕ

-- Class 4, day 0, no default, and generation × factor grams.
abbrev pub imported : ImportOf → Listed
imported i = record { code = i.code; day = 0; class = Import; generation = i.generation; emission = ratio (i.generation * i.factor) 1; default = None }

-- Refused at its making: code 0, then a generation of other than 1 to 100,000,000 MWh or a factor above 10,000,000 g/MWh.
abbrev pub import_fault : ImportOf → Option Fault
import_fault i =
    cond (i.code == 0) (Some (new_fault ZeroCode ImportLayer i.code))
    (cond (nat_lt i.generation 1 || (nat_lt 100000000 i.generation || nat_lt 10000000 i.factor)) (Some (new_fault OutOfRange ImportLayer i.code))
    None)

abbrev pub lastly : {A : Type 0} → A → List A → Ending → Course A
lastly u us proper = record { units = us ++ (u ∷ []); ending = proper }
lastly u us (faulty f) = record { units = us; ending = faulty f }

abbrev pub with_last : {A : Type 0} → A → Course A → Course A
with_last u c = lastly u c.units c.ending

-- The merge of two properly ended lists is a rearrangement of both.
abbrev pub MergeRearranges : Type 0
MergeRearranges = (xs ys : List Listed) → IsPermutation (xs ++ ys) (merged (λ (u : Listed). u.day) xs proper ys proper).units

-- The units of a day, in their order.
abbrev pub of_day : ℕ → List Listed → List Listed
of_day d us = filter (λ u. nat_eq u.day d) us

-- The merge in words: newest first, and of each day first the first side's units and then the second side's, each in their own order.
-- (No two falling lists have the same units of every day in the same order.)
pub record MergeInWords (xs ys zs : List Listed) : Type 0 where
  pub falls : Falling zs
  pub days : (d : ℕ) → of_day d zs ≡ of_day d xs ++ of_day d ys

abbrev pub MergeIsInWords : Type 0
MergeIsInWords = (xs ys : List Listed) → Falling xs → Falling ys → MergeInWords xs ys (merged (λ (u : Listed). u.day) xs proper ys proper).units

-- The words say which list it is.
abbrev pub OneMerge : Type 0
OneMerge = (xs ys zs ws : List Listed) → MergeInWords xs ys zs → MergeInWords xs ys ws → zs ≡ ws
