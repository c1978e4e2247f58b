-- The numbers of the classes and of the cohort's sets.
use Rattle.std.specs.Prelude.{ℕ, Bool, true, false, cond, Some, None, Option, ◌==◌}
use Rattle.model.specs.declared.answers.CohortSet.{CohortSet}
use Rattle.model.specs.declared.answers.CohortSet.TheVariants.{Absent, Sample, WithRegistered, WithOld}
use Rattle.model.specs.declared.classes.Class.{Class}
use Rattle.model.specs.declared.classes.Class.TheVariants.{Ordinary, LowCost, Registered, RegisteredLowCost, Import}

-- Of a home unit the number is a sum: 1 for low-cost or must-run, and 2 for registered as a CDM project. An import is 4.
abbrev pub class_number : Class → ℕ
class_number Ordinary = 0
class_number LowCost = 1
class_number Registered = 2
class_number RegisteredLowCost = 3
class_number Import = 4

-- The class of a number, if it has one.
abbrev pub numbered_class : ℕ → Option Class
numbered_class n =
    cond (n == 0) (Some Ordinary)
    (cond (n == 1) (Some LowCost)
    (cond (n == 2) (Some Registered)
    (cond (n == 3) (Some RegisteredLowCost)
    (cond (n == 4) (Some Import) None))))

abbrev pub is_low_cost : Class → Bool
is_low_cost Ordinary = false
is_low_cost LowCost = true
is_low_cost Registered = false
is_low_cost RegisteredLowCost = true
is_low_cost Import = false

abbrev pub is_registered : Class → Bool
is_registered Ordinary = false
is_registered LowCost = false
is_registered Registered = true
is_registered RegisteredLowCost = true
is_registered Import = false

-- All but imports are home units.
abbrev pub is_home : Class → Bool
is_home Ordinary = true
is_home LowCost = true
is_home Registered = true
is_home RegisteredLowCost = true
is_home Import = false

-- 0 where there is no cohort.
abbrev pub set_number : CohortSet → ℕ
set_number Absent = 0
set_number Sample = 1
set_number WithRegistered = 2
set_number WithOld = 3
