-- What is read of packed units are the same units.
use Rattle.std.proofs.Common.{◌≡◌, ℕ, ◌+◌, ◌*◌, ◌/◌, ◌≤◌, Bool, true, false, cond, not, ◌&&◌, ◌||◌, eqb, ltb, leb, List, [], ◌∷◌, ◌++◌, map, length, take, Some, None, Option, unwrap_or, sym, refl, ap, ◌∙◌, subst, arith}
use Rattle.std.proofs.lemmas.List.{length-append, take_at}
use Rattle.std.proofs.lemmas.Bool.{and_from, and_parts, eq-eqb, le-leb, le-ltb, leb-true, ne_eqb, not_from_true, or_from}
use Rattle.std.specs.List.{AllByRecursion}
use Rattle.model.specs.declared.classes.Class.{Class}
use Rattle.model.specs.declared.classes.Class.TheVariants.{Import, LowCost, Ordinary, Registered, RegisteredLowCost}
use Rattle.model.specs.declared.faults.Fault.{Fault}
use Rattle.model.specs.declared.faults.Rule.TheVariants.{EmissionTooHigh, LaterDay, NoSuchDay, OutOfRange, ShortOrForeignRecord, ZeroCode}
use Rattle.model.specs.declared.units.PowerUnit.{PowerUnit}
use Rattle.model.specs.Calendar.{is_day}
use Rattle.model.specs.Classes.{class_number, is_home, numbered_class}
use Rattle.model.specs.Course.{proper, told_course}
use Rattle.model.specs.Fraction.{Frac, ratio}
use Rattle.model.specs.Merge.{before}
use Rattle.model.specs.Packed.{day_fits, emits_too_much, flag_of, is_packed, numbers_fit, or_unit, packed_bytes, packed_class, packed_course, packed_day, packed_default, packed_fault, packed_flag, packed_from, packed_generation, packed_grams, packed_record, packed_unit, record_fault}
use Rattle.model.specs.Records.{pieces_of, word}
use Rattle.model.specs.Units.{DayOf, EmitsOption, Falling, InRange, Listed, Ranged, rounded_option, told}
use Rattle.model.proofs.Rounding.{rounded-cap, rounded-whole}
use Rattle.packed.proofs.Digits.{huge-back, long-back, word_back}
use Rattle.model.proofs.Pieces.{pieces_more}

-- ---- what a unit in range tells

days : (c : Class) (day : ℕ) (default : Option Frac) → DayOf (is_home c) day default → cond (eqb (class_number c) 4) (eqb day 0) (is_day day) ≡ true
days Ordinary day default h = h
days LowCost day default h = h
days Registered day default h = h
days RegisteredLowCost day default h = h
days Import day default h = eq-eqb day 0 h.0

day-small : (c : Class) (day : ℕ) (default : Option Frac) → DayOf (is_home c) day default → day ≤ 4294967295
day-small c day default h = go c h
  where
    short : is_day day ≡ true → day ≤ 4294967295
    short d =
        let years = (and_parts (leb 1900 (day / 10000) && leb (day / 10000) 2099) _ d).0 in
        let last = leb-true (day / 10000) 2099 (and_parts (leb 1900 (day / 10000)) (leb (day / 10000) 2099) years).1 in
        omega arith

    go : (c : Class) → DayOf (is_home c) day default → day ≤ 4294967295
    go Ordinary h = short h
    go LowCost h = short h
    go Registered h = short h
    go RegisteredLowCost h = short h
    go Import h = omega (arith, h.0)

class-small : (c : Class) → leb (class_number c) 4 ≡ true
class-small Ordinary = refl
class-small LowCost = refl
class-small Registered = refl
class-small RegisteredLowCost = refl
class-small Import = refl

class_back : (c : Class) → unwrap_or (numbered_class (class_number c)) Import ≡ c
class_back Ordinary = refl
class_back LowCost = refl
class_back Registered = refl
class_back RegisteredLowCost = refl
class_back Import = refl

-- no default of an import
flagged : (c : Class) (day : ℕ) (default : Option Frac) → DayOf (is_home c) day default → not (eqb (flag_of (rounded_option default)) 1 && eqb (class_number c) 4) ≡ true
flagged c day None h = refl
flagged Ordinary day (Some f) h = refl
flagged LowCost day (Some f) h = refl
flagged Registered day (Some f) h = refl
flagged RegisteredLowCost day (Some f) h = refl
flagged Import day (Some f) h = cc h.1

flag_small : (o : Option ℕ) → leb (flag_of o) 1 ≡ true
flag_small None = refl
flag_small (Some n) = refl

flag-or : (o : Option ℕ) → (eqb (flag_of o) 1 || eqb (unwrap_or o 0) 0) ≡ true
flag-or None = refl
flag-or (Some n) = refl

default-back : (o : Option ℕ) → rounded_option (cond (eqb (flag_of o) 1) (Some (ratio (unwrap_or o 0) 1)) None) ≡ o
default-back None = refl
default-back (Some n) = ap Some (rounded-whole n)

default-cap : (generation : ℕ) (default : Option Frac) → EmitsOption generation default → unwrap_or (rounded_option default) 0 ≤ 10000000 * generation
default-cap generation None h = omega arith
default-cap generation (Some f) h = rounded-cap f (10000000 * generation) h.real h.cap

-- ---- the record of a unit, read again

-- the fields that are read of bs are those of u
record Reads (bs : List ℕ) (u : PowerUnit) : Type 0 where
  packed : is_packed bs ≡ true
  class : packed_class bs ≡ class_number u.class
  code : word bs 2 ≡ u.code
  day : packed_day bs ≡ u.day
  generation : packed_generation bs ≡ u.generation
  flag : packed_flag bs ≡ flag_of u.default_grams
  grams : packed_grams bs ≡ u.grams
  default : packed_default bs ≡ unwrap_or u.default_grams 0

reads : (v : Listed) → InRange v → Reads (packed_record (told v)) (told v)
reads v h =
    let grams = rounded-cap v.emission (10000000 * v.generation) h.emits.real h.emits.cap in
    let default = default-cap v.generation v.default h.defaults in
    record {
      packed = refl;
      class = refl;
      code = word_back v.code h.short;
      day = long-back v.day (day-small v.class v.day v.default h.dated);
      generation = long-back v.generation (omega (arith, h.most));
      flag = refl;
      grams = huge-back (told v).grams (omega (arith, h.most));
      default = huge-back (unwrap_or (told v).default_grams 0) (omega (arith, h.most));
    }

none_then : (b : Bool) (f : Fault) (o : Option Fault) → b ≡ false → o ≡ None → cond b (Some f) o ≡ None
none_then b f o e n = rw e n

module _ (bs : List ℕ) (v : Listed) (r : Reads bs (told v)) (h : InRange v) where
  day-fits : day_fits bs ≡ true
  day-fits = rw (r.class, r.day) (days v.class v.day v.default h.dated)

  numbers-fit : numbers_fit bs ≡ true
  numbers-fit =
      rw (r.class, r.generation, r.flag, r.default)
      (and_from _ _ (class-small v.class)
      (and_from _ _ (and_from _ _ (le-leb 1 v.generation h.some) (le-leb v.generation 100000000 h.most))
      (and_from _ _ (flag_small (told v).default_grams)
      (and_from _ _ (flag-or (told v).default_grams) (flagged v.class v.day v.default h.dated)))))

  emits-little : emits_too_much bs ≡ false
  emits-little =
      rw (r.generation, r.grams, r.default)
      (or_from _ _
      (le-ltb _ _ (rounded-cap v.emission (10000000 * v.generation) h.emits.real h.emits.cap))
      (le-ltb _ _ (default-cap v.generation v.default h.defaults)))

  no-fault : (i latest : ℕ) → v.day ≤ latest → record_fault i latest bs ≡ None
  no-fault i latest l =
      none_then (not (is_packed bs)) (packed_fault ShortOrForeignRecord i) _ (not_from_true (is_packed bs) r.packed)
      (none_then (eqb (word bs 2) 0) (packed_fault ZeroCode i) _ (ne_eqb (word bs 2) 0 (λ e. omega (arith, e, r.code, h.coded)))
      (none_then (not (day_fits bs)) (packed_fault NoSuchDay i) _ (not_from_true (day_fits bs) day-fits)
      (none_then (not (numbers_fit bs)) (packed_fault OutOfRange i) _ (not_from_true (numbers_fit bs) numbers-fit)
      (none_then (emits_too_much bs) (packed_fault EmissionTooHigh i) _ emits-little
      (none_then (ltb latest (packed_day bs)) (packed_fault LaterDay i) None (le-ltb latest (packed_day bs) (omega (arith, r.day))) refl)))))

  unit-back : told (packed_unit bs) ≡ told v
  unit-back =
      λ k. record {
        code = r.code k;
        day = r.day k;
        class = (ap (λ n. unwrap_or (numbered_class n) Import) r.class ∙ class_back v.class) k;
        generation = r.generation k;
        grams = (rounded-whole (packed_grams bs) ∙ r.grams) k;
        default_grams = ((λ j. rounded_option (cond (eqb (r.flag j) 1) (Some (ratio (r.default j) 1)) None)) ∙ default-back (told v).default_grams) k;
      }

-- ---- the list

records-back : (i latest : ℕ) (vs : List Listed) → Ranged vs → Falling vs → AllByRecursion (λ v. v.day ≤ latest) vs
    → told_course (packed_from i latest (map packed_record (map told vs))) ≡ record { units = map told vs; ending = proper }
records-back i latest [] h f o = refl
records-back i latest (v ∷ vs) h f o =
    let bs = packed_record (told v) in
    let r = reads v h.0 in
    let rest = packed_from (i + 1) (packed_day bs) (map packed_record (map told vs)) in
    let P : ℕ → Type 0 = λ n. AllByRecursion (λ u. u.day ≤ n) vs in
    ap (λ x. told_course (or_unit x (packed_unit bs) rest)) (no-fault bs v r h.0 i latest o.0)
    ∙ (λ k. before (unit-back bs v r h.0 k) (records-back (i + 1) (packed_day bs) vs h.1 f.1 (subst P (sym r.day) f.0) k))

length-packed : (us : List PowerUnit) → length (packed_bytes us) ≡ 32 * length us
length-packed [] = refl
length-packed (u ∷ us) = omega (arith, length-append (packed_record u) (packed_bytes us), length-packed us)

pieces-packed : (us : List PowerUnit) → pieces_of (packed_bytes us) ≡ map packed_record us
pieces-packed [] = refl
pieces-packed (u ∷ us) =
    pieces_more (packed_bytes (u ∷ us)) (omega (arith, length-packed (u ∷ us)))
    ∙ (λ k. packed_record u ∷ pieces-packed us k)

days-small : (vs : List Listed) → Ranged vs → AllByRecursion (λ v. v.day ≤ 4294967295) vs
days-small [] h = tt
days-small (v ∷ vs) h = (day-small v.class v.day v.default h.0.dated, days-small vs h.1)

pub packed-back : (vs : List Listed) → Ranged vs → Falling vs → told_course (packed_course (packed_bytes (map told vs))) ≡ record { units = map told vs; ending = proper }
packed-back vs h f =
    ap (λ ps. told_course (packed_from 0 4294967295 ps)) (pieces-packed (map told vs)) ∙ records-back 0 4294967295 vs h f (days-small vs h)

-- the bytes in front of a buffer that was packed
pub front-packed : (us : List PowerUnit) (n : ℕ) (rest : List ℕ) → n ≡ length us → take (n * 32) (packed_bytes us ++ rest) ≡ packed_bytes us
front-packed us n rest e = take_at (packed_bytes us) rest (n * 32) (omega (arith, length-packed us))
