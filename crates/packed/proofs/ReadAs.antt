-- What is read, by the check of a record.
use Rattle.std.proofs.Common.{◌≡◌, Some, None, Ok, Err, Option, Result, IsErrAnd, rules}
use Rattle.model.specs.declared.faults.Fault.{Fault}
use Rattle.model.specs.declared.faults.RegisterFault.{RegisterFault}
use Rattle.packed.specs.Reading.{read_as}

pub read-refused : {A B : Type 0} (o : Option Fault) (a : A) (b : B) (c : Result A RegisterFault) (e : RegisterFault) (r : Result B RegisterFault) → c ≡ read_as o a → c ≡ Err e → IsErrAnd r (λ d. d ≡ e) → r ≡ read_as o b
read-refused None a b c e r checked is from = search rules
read-refused (Some f) a b c e (Ok x) checked is from = absurd from
read-refused (Some f) a b c e (Err d) checked is from = search rules

pub read-taken : {A B : Type 0} (o : Option Fault) (a : A) (b : B) (c : Result A RegisterFault) (x : A) → c ≡ read_as o a → c ≡ Ok x → Ok b ≡ read_as o b
read-taken None a b c x checked is = search rules
read-taken (Some f) a b c x checked is = search rules
