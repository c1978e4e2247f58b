-- The numbers of the refusals and of the layers, and how a fault travels.
use Rattle.std.specs.Prelude.{ℕ, ◌+◌, ◌*◌, ◌^◌, Bool, cond, List, [], ◌∷◌, Some, None, Ok, Err, Option, Result, nat_lt}
use Rattle.model.specs.declared.faults.Fault.{Fault}
use Rattle.model.specs.declared.faults.Layer.{Layer}
use Rattle.model.specs.declared.faults.Layer.TheVariants.{Intake, Book, Packed, Import, LoadYear, Method, Build, Combined, Packing}
use Rattle.model.specs.declared.faults.Side.{Side}
use Rattle.model.specs.declared.faults.Side.TheVariants.{First, Second}
use Rattle.model.specs.declared.faults.Rule.{Rule}
use Rattle.model.specs.declared.faults.Rule.TheVariants.{ShortOrForeignRecord, AfterQuestion, ZeroCode, NoSuchDay, OutOfRange, WeightsNotHundred, CannotStandAlone, AlreadyStands, NotStanding, TableFull, EmissionTooHigh, LaterDay, TooManyUnits, Missing, LoadTooHigh, MethodClosed, LowCostAboveLoad, NoShare, NoBuildUnit, NoDefault, BufferShort}

abbrev pub rule_number : Rule → ℕ
rule_number ShortOrForeignRecord = 1
rule_number AfterQuestion = 2
rule_number ZeroCode = 3
rule_number NoSuchDay = 4
rule_number OutOfRange = 5
rule_number WeightsNotHundred = 6
rule_number CannotStandAlone = 7
rule_number AlreadyStands = 8
rule_number NotStanding = 9
rule_number TableFull = 10
rule_number EmissionTooHigh = 11
rule_number LaterDay = 12
rule_number TooManyUnits = 13
rule_number Missing = 14
rule_number LoadTooHigh = 15
rule_number MethodClosed = 16
rule_number LowCostAboveLoad = 17
rule_number NoShare = 18
rule_number NoBuildUnit = 19
rule_number NoDefault = 20
rule_number BufferShort = 21

abbrev pub layer_number : Layer → ℕ
layer_number Intake = 1
layer_number Book = 2
layer_number Packed = 3
layer_number Import = 4
layer_number LoadYear = 5
layer_number Method = 6
layer_number Build = 7
layer_number Combined = 8
layer_number Packing = 9

-- A fault as it arises: its trail is 1.
abbrev pub new_fault : Rule → Layer → ℕ → Fault
new_fault r l p = record { rule = r; layer = l; place = p; trail = 1 }

-- A join's first side doubles the trail of a fault that comes through it; the second side doubles it and adds one.
-- From 2^31 on the trail stays as it is.
abbrev pub trailed : Side → ℕ → ℕ
trailed First t = cond (nat_lt t (2 ^ 31)) (2 * t) t
trailed Second t = cond (nat_lt t (2 ^ 31)) (2 * t + 1) t

-- A fault on the upper end of a join; all but the trail is as below.
abbrev pub through : Side → Fault → Fault
through s f = record { rule = f.rule; layer = f.layer; place = f.place; trail = trailed s f.trail }

-- ---- the order of checks

-- The first fault whose test holds, in checking order; none where no test does.
abbrev pub first_of : List (Bool × Fault) → Option Fault
first_of [] = None
first_of (c ∷ cs) = cond c.0 (Some c.1) (first_of cs)

-- What is answered: x, or the fault in the layer's own type.
abbrev pub unless_refused : {A E : Type 0} → (Fault → E) → Option Fault → A → Result A E
unless_refused wrap None x = Ok x
unless_refused wrap (Some f) x = Err (wrap f)

-- What stands afterwards: x where there is no fault, and what stood before where there is one.
abbrev pub stands_after : {A : Type 0} → Option Fault → A → A → A
stands_after None x before = x
stands_after (Some f) x before = before
