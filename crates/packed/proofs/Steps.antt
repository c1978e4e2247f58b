-- One step of a packed register's walk: the first of the pieces that are left, and those after it.
use Rattle.std.proofs.Common.{◌≡◌, ℕ, ◌+◌, ◌<◌, min, List, [], ◌∷◌, length, take, drop, Some, None, Ok, Err, Option, sym, refl, ap, ◌∙◌, arith}
use Rattle.model.specs.declared.faults.Fault.{Fault}
use Rattle.model.specs.declared.faults.RegisterFault.{RegisterFault}
use Rattle.model.specs.declared.units.PowerUnit.{PowerUnit}
use Rattle.model.specs.Course.{Course, faulty, told_course}
use Rattle.model.specs.Merge.{before}
use Rattle.model.specs.Packed.{or_unit, packed_day, packed_from, packed_unit, record_fault}
use Rattle.model.specs.Records.{pieces_of}
use Rattle.model.specs.Units.{told}
use Rattle.model.proofs.Pieces.{cut, pieces_more}
use Rattle.packed.specs.Reading.{read_as}

-- The index tells nothing but the place of a fault, which stays at 2^32 − 1.
same_from : (i j : ℕ) → min i 4294967295 ≡ min j 4294967295 → (latest : ℕ) (ps : List (List ℕ)) → packed_from i latest ps ≡ packed_from j latest ps
same_from i j e latest [] = refl
same_from i j e latest (p ∷ ps) =
    let next : min (i + 1) 4294967295 ≡ min (j + 1) 4294967295 = omega arith in
    rw (e, same_from (i + 1) (j + 1) next (packed_day p) ps)

read_ok : (o : Option Fault) (u v : PowerUnit) → Ok u ≡ read_as o v → (o ≡ None) × (u ≡ v)
read_ok None u v e = (refl, cc)
read_ok (Some f) u v e = (cc, cc)

read-err : (o : Option Fault) (f : RegisterFault) (v : PowerUnit) → Err f ≡ read_as o v → o ≡ Some f.fault
read-err None f v e = cc
read-err (Some g) f v e = cc

-- what is to come, where the walk stands before the bytes `bs`
abbrev from : ℕ → ℕ → List ℕ → Course PowerUnit
from i latest bs = told_course (packed_from i latest (pieces_of bs))

module _ (i latest n : ℕ) (bs piece later : List ℕ) (some : 0 < length bs) (long : n ≡ min (length bs) 32) (front : piece ≡ take n bs) (back : later ≡ drop n bs) where
  first_piece : pieces_of bs ≡ piece ∷ pieces_of later
  first_piece =
      let c = cut bs n long in
      pieces_more bs some ∙ (λ k. sym (front ∙ c.0) k ∷ pieces_of (sym (back ∙ c.1) k))

  pub next-unit : (j : ℕ) (u : PowerUnit) → j ≡ min (i + 1) 4294967295
      → Ok u ≡ read_as (record_fault i latest piece) (told (packed_unit piece))
      → from i latest bs ≡ before u (from j u.day later)
  next-unit j u at is =
      let got = read_ok (record_fault i latest piece) u (told (packed_unit piece)) is in
      let rest = packed_from (i + 1) (packed_day piece) (pieces_of later) in
      ap (λ ps. told_course (packed_from i latest ps)) first_piece
      ∙ ap (λ o. told_course (or_unit o (packed_unit piece) rest)) got.0
      ∙ ap (λ c. before (told (packed_unit piece)) (told_course c)) (same_from (i + 1) j (omega arith) (packed_day piece) (pieces_of later))
      ∙ (λ k. before (sym got.1 k) (from j (sym got.1 k).day later))

  pub next-fault : (f : RegisterFault) → Err f ≡ read_as (record_fault i latest piece) (told (packed_unit piece))
      → from i latest bs ≡ record { units = []; ending = faulty f.fault }
  next-fault f is =
      let got = read-err (record_fault i latest piece) f (told (packed_unit piece)) is in
      let rest = packed_from (i + 1) (packed_day piece) (pieces_of later) in
      ap (λ ps. told_course (packed_from i latest ps)) first_piece
      ∙ ap (λ o. told_course (or_unit o (packed_unit piece) rest)) got
