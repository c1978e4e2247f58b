-- The units of a packed register are in range, and their days never rise.
use Rattle.std.proofs.Common.{◌≡◌, ℕ, zero, suc, ◌+◌, ◌*◌, ◌/◌, ◌<◌, ◌≤◌, Bool, true, false, cond, not, ◌&&◌, ◌||◌, eqb, ltb, leb, ◌⊎◌, List, [], ◌∷◌, length, get_or, take, drop, Some, None, Option, unwrap_or, sym, refl, subst, inl, inr, arith}
use Rattle.std.proofs.lemmas.List.{get_or-drop, get_or_past, get_or-take, length-take}
use Rattle.std.proofs.lemmas.Bool.{and_parts, cases_lt, eqb-false, eqb-true, false≢true, leb-true, ltb-false, not-false, or_parts}
use Rattle.std.specs.List.{AllByRecursion}
use Rattle.model.specs.declared.classes.Class.TheVariants.{Import}
use Rattle.model.specs.declared.faults.Fault.{Fault}
use Rattle.model.specs.declared.faults.Rule.TheVariants.{EmissionTooHigh, LaterDay, NoSuchDay, OutOfRange, ShortOrForeignRecord, ZeroCode}
use Rattle.model.specs.Calendar.{is_day}
use Rattle.model.specs.Classes.{is_home, numbered_class}
use Rattle.model.specs.Fraction.{ratio}
use Rattle.model.specs.Faults.{first_of}
use Rattle.model.specs.Packed.{day_fits, emits_too_much, is_packed, numbers_fit, or_unit, packed_class, packed_course, packed_day, packed_default, packed_fault, packed_flag, packed_from, packed_generation, packed_grams, packed_unit, record_fault}
use Rattle.model.specs.Records.{pieces, pieces_of, word}
use Rattle.model.specs.Units.{DayOf, EmitsOption, Falling, InRange, Listed, Ranged}

-- ---- a record without a fault

first-none : (b : Bool) (f : Fault) (o : Option Fault) → cond b (Some f) o ≡ None → (b ≡ false) × (o ≡ None)
first-none true f o e = (cc, cc)
first-none false f o e = (refl, e)

none_of : (a b c d e : Bool) (s t u v w : Fault) → first_of ((a, s) ∷ (b, t) ∷ (c, u) ∷ (d, v) ∷ (e, w) ∷ []) ≡ None
    → (a ≡ false) × (b ≡ false) × (c ≡ false) × (d ≡ false) × (e ≡ false)
none_of a b c d e s t u v w h =
    let p = first-none a s (cond b (Some t) (cond c (Some u) (cond d (Some v) (cond e (Some w) None)))) h in
    let q = first-none b t (cond c (Some u) (cond d (Some v) (cond e (Some w) None))) p.1 in
    let r = first-none c u (cond d (Some v) (cond e (Some w) None)) q.1 in
    let z = first-none d v (cond e (Some w) None) r.1 in
    (p.0, q.0, r.0, z.0, (first-none e w None z.1).0)

all_of : (a b c d e f : Bool) → (a && ((b && c) && (d && (e && f)))) ≡ true → (a ≡ true) × (b ≡ true) × (c ≡ true) × (f ≡ true)
all_of a b c d e f h =
    let p = and_parts a ((b && c) && (d && (e && f))) h in
    let q = and_parts (b && c) (d && (e && f)) p.1 in
    let r = and_parts b c q.0 in
    (p.0, r.0, r.1, (and_parts e f (and_parts d (e && f) q.1).1).1)

record Sound (latest : ℕ) (bs : List ℕ) : Type 0 where
  coded : 1 ≤ word bs 2
  dated : day_fits bs ≡ true
  numbers : numbers_fit bs ≡ true
  emits : emits_too_much bs ≡ false
  older : packed_day bs ≤ latest

sound : (i latest : ℕ) (bs : List ℕ) → record_fault i latest bs ≡ None → Sound latest bs
sound i latest bs h =
    let checks = (first-none (not (is_packed bs)) (packed_fault ShortOrForeignRecord i) _ h).1 in
    let none =
    none_of
    (eqb (word bs 2) 0)
    (not (day_fits bs))
    (not (numbers_fit bs))
    (emits_too_much bs)
    (ltb latest (packed_day bs))
    (packed_fault ZeroCode i)
    (packed_fault NoSuchDay i)
    (packed_fault OutOfRange i)
    (packed_fault EmissionTooHigh i)
    (packed_fault LaterDay i)
    checks in
    let code = eqb-false (word bs 2) 0 none.0 in
    record {
      coded = omega arith;
      dated = not-false (day_fits bs) none.1;
      numbers = not-false (numbers_fit bs) none.2;
      emits = none.3;
      older = ltb-false latest (packed_day bs) none.4;
    }

-- ---- ranges

dated-unit : (class day default : ℕ) (flag : Bool) → leb class 4 ≡ true → cond (eqb class 4) (eqb day 0) (is_day day) ≡ true → not (flag && eqb class 4) ≡ true
    → DayOf (is_home (unwrap_or (numbered_class class) Import)) day (cond flag (Some (ratio default 1)) None)
dated-unit zero day default flag few h n = h
dated-unit (suc zero) day default flag few h n = h
dated-unit (suc (suc zero)) day default flag few h n = h
dated-unit (suc (suc (suc zero))) day default flag few h n = h
dated-unit (suc (suc (suc (suc zero)))) day default true few h n = absurd (false≢true n)
dated-unit (suc (suc (suc (suc zero)))) day default false few h n = (eqb-true _ _ h, refl)
dated-unit (suc (suc (suc (suc (suc m))))) day default flag few h n = absurd (omega (arith, leb-true _ _ few))

default-emits : (generation default : ℕ) (flag : Bool) → default ≤ 10000000 * generation → EmitsOption generation (cond flag (Some (ratio default 1)) None)
default-emits generation default true h = record { real = omega arith; cap = omega arith }
default-emits generation default false h = tt

in-range : (latest : ℕ) (bs : List ℕ) → word bs 2 ≤ 65535 → Sound latest bs → InRange (packed_unit bs)
in-range latest bs short s =
    let has-default = eqb (packed_flag bs) 1 in
    let generation = packed_generation bs in
    let fit =
    all_of
    (leb (packed_class bs) 4)
    (leb 1 generation)
    (leb generation 100000000)
    (leb (packed_flag bs) 1)
    (has-default || eqb (packed_default bs) 0)
    (not (has-default && eqb (packed_class bs) 4))
    s.numbers in
    let low = or_parts (ltb (10000000 * generation) (packed_grams bs)) (ltb (10000000 * generation) (packed_default bs)) s.emits in
    let grams = ltb-false (10000000 * generation) (packed_grams bs) low.0 in
    let default-grams = ltb-false (10000000 * generation) (packed_default bs) low.1 in
    record {
      coded = s.coded;
      short = short;
      dated = dated-unit (packed_class bs) (packed_day bs) (packed_default bs) has-default fit.0 s.dated fit.3;
      some = leb-true 1 generation fit.1;
      most = leb-true generation 100000000 fit.2;
      emits = record { real = omega arith; cap = omega arith };
      defaults = default-emits generation (packed_default bs) has-default default-grams;
    }

-- ---- the list

cases-option : {A : Type 0} (o : Option A) → (o ≡ None) ⊎ ((x : A) × (o ≡ Some x))
cases-option None = inl refl
cases-option (Some x) = inr (x, refl)

-- units in range, none later than `latest`, in order
record Good (latest : ℕ) (us : List Listed) : Type 0 where
  ranged : Ranged us
  older : AllByRecursion (λ v. v.day ≤ latest) us
  falling : Falling us

older-all : (m n : ℕ) → m ≤ n → (us : List Listed) → AllByRecursion (λ v. v.day ≤ m) us → AllByRecursion (λ v. v.day ≤ n) us
older-all m n h [] a = tt
older-all m n h (u ∷ us) a = (omega (arith, a.0), older-all m n h us a.1)

good-from : (i latest : ℕ) (ps : List (List ℕ)) → AllByRecursion (λ p. word p 2 ≤ 65535) ps → Good latest (packed_from i latest ps).units
good-from i latest [] w = record { ranged = tt; older = tt; falling = tt }
good-from i latest (p ∷ ps) w =
    let later = packed_from (i + 1) (packed_day p) ps in
    let P : Option Fault → Type 0 = λ o. Good latest (or_unit o (packed_unit p) later).units in
    elim (cases-option (record_fault i latest p)) [
      | inl none ↦
          let s = sound i latest p none in
          let g = good-from (i + 1) (packed_day p) ps w.1 in
          subst P (sym none)
          (record {
            ranged = (in-range latest p w.0 s, g.ranged);
            older = (s.older, older-all (packed_day p) latest s.older later.units g.older);
            falling = (g.older, g.falling);
          })
      | inr some ↦ subst P (sym some.1) (record { ranged = tt; older = tt; falling = tt })
    ]

abbrev Bytes : List ℕ → Type 0
Bytes bs = (k : ℕ) → get_or bs k 0 < 256

bytes_take : (bs : List ℕ) → Bytes bs → Bytes (take 32 bs)
bytes_take bs h k =
    elim (cases_lt k 32) [
      | inl l ↦ subst (λ (n : ℕ). n < 256) (sym (get_or-take 32 bs k 0 l)) (h k)
      | inr g ↦ omega (arith, get_or_past (take 32 bs) k 0 (omega (arith, length-take 32 bs)))
    ]

bytes_drop : (bs : List ℕ) → Bytes bs → Bytes (drop 32 bs)
bytes_drop bs h k = subst (λ (n : ℕ). n < 256) (sym (get_or-drop 32 bs k 0)) (h (32 + k))

words : (n : ℕ) (bs : List ℕ) → Bytes bs → AllByRecursion (λ p. word p 2 ≤ 65535) (pieces n bs)
words zero bs h = tt
words (suc n) bs h = let b = bytes_take bs h in (omega (arith, b 2, b 3), words n (drop 32 bs) (bytes_drop bs h))

good : (bs : List ℕ) → Bytes bs → Good 4294967295 (packed_course bs).units
good bs h = good-from 0 4294967295 (pieces_of bs) (words ((length bs + 31) / 32) bs h)

pub ranged : (bs : List ℕ) → Bytes bs → Ranged (packed_course bs).units
ranged bs h = (good bs h).ranged

pub falling : (bs : List ℕ) → Bytes bs → Falling (packed_course bs).units
falling bs h = (good bs h).falling
