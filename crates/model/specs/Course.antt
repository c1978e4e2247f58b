-- Courses: a list of units and how it ends, properly or with a fault. What a walk over one answers.
use Rattle.std.specs.Prelude.{ℕ, Bool, cond, List, [], ◌∷◌, map, length, Some, None, Ok, Err, Option, Result, nat_le}
use Rattle.model.specs.declared.faults.Fault.{Fault}
use Rattle.model.specs.declared.faults.Layer.{Layer}
use Rattle.model.specs.declared.faults.RegisterFault.{RegisterFault}
use Rattle.model.specs.declared.faults.Rule.TheVariants.{TooManyUnits}
use Rattle.model.specs.declared.units.PowerUnit.{PowerUnit}
use Rattle.model.specs.Faults.{new_fault}
use Rattle.model.specs.Units.{Listed, told}

pub data Ending : Type 0 where
  proper : Ending
  faulty : Fault → Ending

pub record Course (A : Type 0) : Type 0 where
  pub units : List A
  pub ending : Ending

-- The course as it is told, unit by unit.
abbrev pub told_course : Course Listed → Course PowerUnit
told_course c = record { units = map told c.units; ending = c.ending }

-- ---- what `next` answers: the first unit still to come, or how the course ends

abbrev pub end_answer : Ending → Result (Option PowerUnit) RegisterFault
end_answer proper = Ok None
end_answer (faulty f) = Err (record { fault = f })

abbrev pub answered : List PowerUnit → Ending → Result (Option PowerUnit) RegisterFault
answered [] e = end_answer e
answered (u ∷ us) e = Ok (Some u)

-- all but the first
abbrev pub tail : {A : Type 0} → List A → List A
tail [] = []
tail (x ∷ xs) = xs

-- ---- what a walk to the end meets

-- The most units that a walk takes.
abbrev pub limit : ℕ
limit = 4000

-- The course's own fault comes first, then a 4,001st unit, told by the layer that asked; otherwise the answer is `fits`.
abbrev pub if_fit : {B : Type 0} → Layer → Ending → Bool → B → (Fault → B) → B
if_fit layer proper few fits refuses = cond few fits (refuses (new_fault TooManyUnits layer 0))
if_fit layer (faulty f) few fits refuses = refuses f

abbrev pub if_walked : {A B : Type 0} → Layer → Course A → B → (Fault → B) → B
if_walked layer c fits refuses = if_fit layer c.ending (nat_le (length c.units) limit) fits refuses

-- The fault of a walk, if there is one.
abbrev pub walk_fault : {A : Type 0} → Layer → Course A → Option Fault
walk_fault layer c = if_walked layer c None Some
