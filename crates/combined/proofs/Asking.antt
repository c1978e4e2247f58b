-- What is checked before the register is looked at.
use Rattle.std.proofs.Common.{◌≡◌, ℕ, ◌+◌, Bool, true, Some, Option, sym, ap}
use Rattle.std.proofs.lemmas.Bool.{ne_eqb}
use Rattle.model.specs.Calendar.{is_day}
use Rattle.model.specs.Faults.{new_fault}
use Rattle.model.specs.Promise.{asked}
use Rattle.model.specs.declared.faults.Fault.{Fault}
use Rattle.model.specs.declared.faults.Layer.TheVariants.{Combined}
use Rattle.model.specs.declared.faults.Rule.TheVariants.{WeightsNotHundred}

pub weights-refused : (alone : Bool) (w v reference : ℕ) {f : Fault} → is_day reference ≡ true → (w + v ≡ 100 → ⊥) → f ≡ new_fault WeightsNotHundred Combined 0
    → (later : Option Fault) → asked alone w v reference later ≡ Some f
weights-refused alone w v reference day n is later = rw (day, ne_eqb (w + v) 100 n) (ap Some (sym is))
