-- Packed registers: P records in given order, 32 bytes each, and packing, which writes one P record for each unit.
use Rattle.std.specs.Prelude.{ℕ, zero, suc, ◌+◌, ◌*◌, ◌/◌, ◌%◌, ◌^◌, min, Bool, cond, not, ◌&&◌, ◌||◌, List, [], ◌∷◌, ◌++◌, map, length, drop, Some, None, Ok, Err, Option, Result, ◌==◌, nat_le, nat_lt}
use Rattle.std.specs.Option.{unwrap_or}
use Rattle.model.specs.declared.classes.Class.TheVariants.{Import}
use Rattle.model.specs.declared.faults.Fault.{Fault}
use Rattle.model.specs.declared.faults.Layer.TheVariants.{Packed, Packing}
use Rattle.model.specs.declared.faults.PackingFault.{PackingFault}
use Rattle.model.specs.declared.faults.Rule.{Rule}
use Rattle.model.specs.declared.faults.Rule.TheVariants.{BufferShort, EmissionTooHigh, LaterDay, NoSuchDay, OutOfRange, ShortOrForeignRecord, ZeroCode}
use Rattle.model.specs.declared.units.PowerUnit.{PowerUnit}
use Rattle.model.specs.Calendar.{is_day}
use Rattle.model.specs.Classes.{class_number, numbered_class}
use Rattle.model.specs.Course.{Course, faulty, if_walked, proper}
use Rattle.model.specs.Faults.{first_of, new_fault}
use Rattle.model.specs.Fraction.{ratio}
use Rattle.model.specs.Merge.{before}
use Rattle.model.specs.Records.{byte, long, pieces_of, word, zeros}
use Rattle.model.specs.Units.{Listed, told}

-- ---- the fields of a P record

-- eight bytes from i on
abbrev pub huge : List ℕ → ℕ → ℕ
huge bs i = long bs i * 2 ^ 32 + long bs (i + 4)

abbrev pub packed_class : List ℕ → ℕ
packed_class bs = byte bs 1

abbrev pub packed_day : List ℕ → ℕ
packed_day bs = long bs 4

abbrev pub packed_generation : List ℕ → ℕ
packed_generation bs = long bs 8

-- 1 with a default emission, 0 without one
abbrev pub packed_flag : List ℕ → ℕ
packed_flag bs = byte bs 12

abbrev pub packed_grams : List ℕ → ℕ
packed_grams bs = huge bs 16

abbrev pub packed_default : List ℕ → ℕ
packed_default bs = huge bs 24

-- ---- what refuses a record, in checking order

abbrev pub is_packed : List ℕ → Bool
is_packed bs = length bs == 32 && (byte bs 0 == 80 && zeros bs 13 3)

-- An import has day 0, and every other unit a calendar day.
abbrev pub day_fits : List ℕ → Bool
day_fits bs = cond (packed_class bs == 4) (packed_day bs == 0) (is_day (packed_day bs))

-- A class, a generation, a flag, no default grams without a default, and no default of an import.
abbrev pub numbers_fit : List ℕ → Bool
numbers_fit bs =
    nat_le (packed_class bs) 4
    && ((nat_le 1 (packed_generation bs) && nat_le (packed_generation bs) 100000000)
    && (nat_le (packed_flag bs) 1
    && ((packed_flag bs == 1 || packed_default bs == 0)
    && not (packed_flag bs == 1 && packed_class bs == 4))))

-- either figure above 10,000,000 g for each MWh
abbrev pub emits_too_much : List ℕ → Bool
emits_too_much bs =
    nat_lt (10000000 * packed_generation bs) (packed_grams bs) || nat_lt (10000000 * packed_generation bs) (packed_default bs)

-- The place of a record is its index, which stays at 2^32 − 1.
abbrev pub packed_fault : Rule → ℕ → Fault
packed_fault r i = new_fault r Packed (min i 4294967295)

-- The first fault of the record with the index i after a unit of the day `latest`.
abbrev pub record_fault : ℕ → ℕ → List ℕ → Option Fault
record_fault i latest bs =
    first_of
    ((not (is_packed bs), packed_fault ShortOrForeignRecord i)
    ∷ ((word bs 2 == 0), packed_fault ZeroCode i)
    ∷ (not (day_fits bs), packed_fault NoSuchDay i)
    ∷ (not (numbers_fit bs), packed_fault OutOfRange i)
    ∷ (emits_too_much bs, packed_fault EmissionTooHigh i)
    ∷ (nat_lt latest (packed_day bs), packed_fault LaterDay i)
    ∷ [])

-- ---- the list

-- The unit that a record tells, each emission exact as written.
abbrev pub packed_unit : List ℕ → Listed
packed_unit bs =
    record {
      code = word bs 2;
      day = packed_day bs;
      class = unwrap_or (numbered_class (packed_class bs)) Import;
      generation = packed_generation bs;
      emission = ratio (packed_grams bs) 1;
      default = cond (packed_flag bs == 1) (Some (ratio (packed_default bs) 1)) None;
    }

abbrev pub or_unit : Option Fault → Listed → Course Listed → Course Listed
or_unit None u later = before u later
or_unit (Some f) u later = record { units = []; ending = faulty f }

-- The units of the records from the index i on; a bad record ends the list with its fault.
abbrev pub packed_from : ℕ → ℕ → List (List ℕ) → Course Listed
packed_from i latest [] = record { units = []; ending = proper }
packed_from i latest (p ∷ ps) = or_unit (record_fault i latest p) (packed_unit p) (packed_from (i + 1) (packed_day p) ps)

-- The register over the bytes. No day is later than the first may be.
abbrev pub packed_course : List ℕ → Course Listed
packed_course bs = packed_from 0 4294967295 (pieces_of bs)

-- ---- packing

-- n bytes of a number, the highest first
abbrev pub bytes_of : ℕ → ℕ → List ℕ
bytes_of zero n = []
bytes_of (suc k) n = (n / 256 ^ k) % 256 ∷ bytes_of k n

abbrev pub flag_of : Option ℕ → ℕ
flag_of None = 0
flag_of (Some n) = 1

-- The P record of a unit as it is told.
abbrev pub packed_record : PowerUnit → List ℕ
packed_record u =
    80 ∷ class_number u.class
    ∷ (bytes_of 2 u.code
    ++ (bytes_of 4 u.day
    ++ (bytes_of 4 u.generation
    ++ (flag_of u.default_grams ∷ 0 ∷ 0 ∷ 0
    ∷ (bytes_of 8 u.grams ++ bytes_of 8 (unwrap_or u.default_grams 0))))))

-- The P records of the units, one after another.
abbrev pub packed_bytes : List PowerUnit → List ℕ
packed_bytes [] = []
packed_bytes (u ∷ us) = packed_record u ++ packed_bytes us

-- What packing answers: the bytes written, 32 for each unit, into a buffer of `room` bytes. The walk's fault comes first, then the buffer's.
abbrev pub packing_answer : Course Listed → ℕ → Result ℕ PackingFault
packing_answer c room =
    if_walked Packing c
    (cond (nat_le (32 * length c.units) room) (Ok (32 * length c.units)) (Err (record { fault = new_fault BufferShort Packing 0 })))
    (λ f. Err (record { fault = f }))

-- What the buffer holds then: the records, and after them what it held before. A refusal leaves it all.
abbrev pub packed_buffer : Result ℕ PackingFault → Course Listed → List ℕ → List ℕ
packed_buffer (Ok n) c buffer = packed_bytes (map told c.units) ++ drop n buffer
packed_buffer (Err f) c buffer = buffer
