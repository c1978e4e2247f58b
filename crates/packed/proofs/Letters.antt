-- What is read of a P record, by the reading of its parts.
use Rattle.std.proofs.Common.{◌≡◌, ℕ, List, ◌∷◌, length, get_or, Some, None, Ok, Err, Result, ap, subst}
use Rattle.model.specs.declared.faults.Fault.{Fault}
use Rattle.model.specs.declared.faults.RegisterFault.{RegisterFault}
use Rattle.model.specs.declared.units.PowerUnit.{PowerUnit}
use Rattle.model.specs.Packed.{packed_unit, record_fault}
use Rattle.model.specs.Units.{told}
use Rattle.model.proofs.Letters.{fields_of, parts}
use Rattle.packed.specs.Reading.{read_as}

-- what is read of a record, by the reading of its parts
module _ (i latest : ℕ) (bs : List ℕ) (long : length (fields_of bs) ≡ 30) (letter : get_or bs 0 0 ≡ 80) where
  abbrev taken : List ℕ
  taken = 80 ∷ get_or bs 1 0 ∷ fields_of bs

  read_whole : {r : Result PowerUnit RegisterFault} → r ≡ read_as (record_fault i latest taken) (told (packed_unit taken)) → r ≡ read_as (record_fault i latest bs) (told (packed_unit bs))
  read_whole {r} is =
      let P : List ℕ → Type 0 = λ xs. r ≡ read_as (record_fault i latest xs) (told (packed_unit xs)) in
      subst P (parts bs 80 long letter).0 is

  pub read-fault : (f : Fault) → Some f ≡ record_fault i latest taken → Err (record { fault = f }) ≡ read_as (record_fault i latest bs) (told (packed_unit bs))
  read-fault f is = read_whole (ap (λ o. read_as o (told (packed_unit taken))) is)

  pub read-unit : (u : PowerUnit) → None ≡ record_fault i latest taken → u ≡ told (packed_unit taken) → Ok u ≡ read_as (record_fault i latest bs) (told (packed_unit bs))
  read-unit u none is = read_whole (λ k. read_as (none k) (is k))
