-- The 32-byte records: the first byte is the kind, a letter; numbers are big-endian; every byte that no field has is zero.
use Rattle.std.specs.Prelude.{ℕ, zero, suc, ◌+◌, ◌*◌, ◌/◌, Bool, cond, ◌&&◌, List, [], ◌∷◌, length, take, drop, Some, None, Option, ◌==◌, slice_index}
use Rattle.std.specs.List.{list_all}
use Rattle.model.specs.declared.records.MethodKind.{MethodKind}
use Rattle.model.specs.declared.records.MethodKind.TheVariants.{Adjusted, Average, Simple}
use Rattle.model.specs.declared.records.Record.{Record}
use Rattle.model.specs.declared.records.Record.TheVariants.{Fuel, Unit, Burn, Strike, Load, Yearly, Question}

-- ---- fields

abbrev pub byte : List ℕ → ℕ → ℕ
byte bs i = slice_index bs i

-- two bytes from i on
abbrev pub word : List ℕ → ℕ → ℕ
word bs i = byte bs i * 256 + byte bs (i + 1)

-- four bytes from i on
abbrev pub long : List ℕ → ℕ → ℕ
long bs i = byte bs i * 16777216 + byte bs (i + 1) * 65536 + byte bs (i + 2) * 256 + byte bs (i + 3)

-- n bytes from i on, each 0 past the end
abbrev pub bytes_from : List ℕ → ℕ → ℕ → List ℕ
bytes_from bs i zero = []
bytes_from bs i (suc n) = byte bs i ∷ bytes_from bs (i + 1) n

abbrev pub all_zero : List ℕ → Bool
all_zero bs = list_all (λ b. b == 0) bs

-- n bytes from i on are zero
abbrev pub zeros : List ℕ → ℕ → ℕ → Bool
zeros bs i n = all_zero (take n (drop i bs))

-- ---- the kinds

abbrev pub when : Bool → Record → Option Record
when b r = cond b (Some r) None

abbrev pub fuel_record : List ℕ → Option Record
fuel_record bs = when (zeros bs 1 1 && zeros bs 12 20) (Fuel (record { code = word bs 2; heat_content = long bs 4; carbon_factor = long bs 8 }))

abbrev pub unit_record : List ℕ → Option Record
unit_record bs = when (zeros bs 16 16) (Unit (record { code = word bs 2; class = byte bs 1; day = long bs 4; generation = long bs 8; efficiency = word bs 12; default_efficiency = word bs 14 }))

abbrev pub burn_record : List ℕ → Option Record
burn_record bs = when (zeros bs 1 1 && (zeros bs 6 2 && zeros bs 12 20)) (Burn (record { unit = word bs 2; fuel = word bs 4; quantity = long bs 8 }))

abbrev pub strike_record : List ℕ → Option Record
strike_record bs = when (zeros bs 1 1 && zeros bs 4 28) (Strike (word bs 2))

abbrev pub load_record : List ℕ → Option Record
load_record bs = when (zeros bs 1 1 && zeros bs 4 4) (Load (record { group = word bs 2; loads = long bs 8 ∷ long bs 12 ∷ long bs 16 ∷ long bs 20 ∷ long bs 24 ∷ long bs 28 ∷ [] }))

abbrev pub yearly_record : List ℕ → Option Record
yearly_record bs = when (zeros bs 2 2 && zeros bs 12 20) (Yearly (record { year = byte bs 1; low_cost = long bs 4; all = long bs 8 }))

abbrev pub question_record : List ℕ → Option Record
question_record bs = when (zeros bs 8 24) (Question (record { method = byte bs 1; operating_weight = byte bs 2; build_weight = byte bs 3; reference = long bs 4 }))

-- by the letter: F fuel, U unit, B burn, S strike, H six hours' loads, Y a yearly pair, Q a question
abbrev pub of_kind : ℕ → List ℕ → Option Record
of_kind k bs =
    cond (k == 70) (fuel_record bs)
    (cond (k == 85) (unit_record bs)
    (cond (k == 66) (burn_record bs)
    (cond (k == 83) (strike_record bs)
    (cond (k == 72) (load_record bs)
    (cond (k == 89) (yearly_record bs)
    (cond (k == 81) (question_record bs) None))))))

-- What the bytes say; nothing where they are short, of another kind, or have a filler byte that is not zero.
abbrev pub record_of : List ℕ → Option Record
record_of bs = cond (length bs == 32) (of_kind (byte bs 0) bs) None

-- The method of a question's byte, if it names one.
abbrev pub numbered_method : ℕ → Option MethodKind
numbered_method n = cond (n == 1) (Some Simple) (cond (n == 2) (Some Adjusted) (cond (n == 3) (Some Average) None))

-- ---- streams of bytes

-- n pieces of 32 bytes; the last may be short
abbrev pub pieces : ℕ → List ℕ → List (List ℕ)
pieces zero bs = []
pieces (suc n) bs = take 32 bs ∷ pieces n (drop 32 bs)

abbrev pub pieces_of : List ℕ → List (List ℕ)
pieces_of bs = pieces ((length bs + 31) / 32) bs
