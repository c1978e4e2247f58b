-- What is still to come through a layer.
use Rattle.std.specs.Prelude.{◌≡◌, Bool, cond, List, [], ◌∷◌, Some, None, Ok, Err, Option, Result}
use Rattle.model.specs.Course.{Course, faulty, proper}
use Rattle.model.specs.Merge.{ImportOf, ends_through, imported, merged_course, with_last}
use Rattle.model.specs.Units.{told}
use Rattle.model.specs.declared.faults.RegisterFault.{RegisterFault}
use Rattle.model.specs.declared.faults.Side.{Side}
use Rattle.model.specs.declared.units.PowerUnit.{PowerUnit}
use Rattle.layers.specs.declared.imports.ImportEntry.{ImportEntry}

-- a unit that waits before the others
abbrev pub ahead : {A : Type 0} → Option A → List A → List A
ahead None xs = xs
ahead (Some x) xs = x ∷ xs

abbrev pub with_ahead : {A : Type 0} → Option A → Course A → Course A
with_ahead o c = record { units = ahead o c.units; ending = c.ending }

-- The merge of what both sides have still to come.
abbrev pub join_coming : Option PowerUnit → Course PowerUnit → Option PowerUnit → Course PowerUnit → Course PowerUnit
join_coming o c p d = merged_course (λ (u : PowerUnit). u.day) (with_ahead o c) (with_ahead p d)

-- what reading one unit ahead of a side leaves
abbrev pub Peeked : Side → Option PowerUnit → Course PowerUnit → Result (Option PowerUnit) RegisterFault → Course PowerUnit → Type 0
Peeked side o before (Ok None) after = (o ≡ None) × (before.units ≡ []) × (before.ending ≡ proper) × (after.units ≡ []) × (after.ending ≡ proper)
Peeked side o before (Ok (Some u)) after = (ahead o before.units ≡ u ∷ after.units) × (after.ending ≡ before.ending)
Peeked side o before (Err f) after = (o ≡ None) × (before.units ≡ []) × (after.units ≡ []) × (after.ending ≡ before.ending) × (ends_through side before.ending ≡ faulty f.fault)

-- the numbers of an import
abbrev pub import_of : ImportEntry → ImportOf
import_of e = record { code = e.code; generation = e.generation; factor = e.factor }

-- What the register has still to come, with the import last; nothing once that was told.
abbrev pub import_coming : Bool → ImportOf → Course PowerUnit → Course PowerUnit
import_coming given i c = cond given (record { units = []; ending = proper }) (with_last (told (imported i)) c)
