-- Packing, after a walk that has counted the units.
use Rattle.std.proofs.Common.{◌≡◌, ℕ, ◌*◌, ◌≤◌, true, leb, List, ◌++◌, map, length, take, drop, Ok, sym, ap, ◌∙◌, arith}
use Rattle.std.proofs.lemmas.List.{length-map}
use Rattle.std.proofs.lemmas.Bool.{le-leb}
use Rattle.model.specs.declared.faults.Layer.TheVariants.{Packing}
use Rattle.model.specs.declared.faults.Fault.{Fault}
use Rattle.model.specs.declared.faults.RegisterFault.{RegisterFault}
use Rattle.model.specs.declared.units.PowerUnit.{PowerUnit}
use Rattle.model.specs.Course.{Course, limit, proper, told_course}
use Rattle.model.specs.Packed.{packed_bytes, packed_course, packing_answer}
use Rattle.model.specs.Units.{Falling, Listed, Ranged, told}
use Rattle.model.proofs.Courses.{fit-ok}
use Rattle.register.proofs.Folding.{walk_answer}
use Rattle.packed.proofs.RoundTrip.{front-packed, packed-back}

abbrev wrapped : Fault → RegisterFault
wrapped f = record { fault = f }

-- the walk told n units
module _ (c : Course Listed) (n : ℕ) (walked : Ok n ≡ walk_answer Packing c) where
  counted : (c.ending ≡ proper) × (leb (length c.units) limit ≡ true) × (n ≡ length c.units)
  counted = fit-ok wrapped Packing c.ending (leb (length c.units) limit) n (length c.units) walked

  module _ (size : ℕ) (fits : n * 32 ≤ size) where
    pub room : {d : Course PowerUnit} → d ≡ told_course c → 32 * length d.units ≤ size
    room e = omega (arith, counted.2, ap (λ x. length x.units) e, length-map c.units told)

    pub answers : Ok (n * 32) ≡ packing_answer c size
    answers =
        let enough : leb (32 * length c.units) size ≡ true = le-leb _ _ (omega (arith, counted.2)) in
        let bytes : n * 32 ≡ 32 * length c.units = omega (arith, counted.2) in
        rw (counted.0, counted.1, enough) (ap Ok bytes)

  pub buffer-is : {d : Course PowerUnit} {buffer : List ℕ} (start : List ℕ) → d ≡ told_course c
      → buffer ≡ packed_bytes d.units ++ drop (32 * length d.units) start
      → buffer ≡ packed_bytes (map told c.units) ++ drop (n * 32) start
  buffer-is {d} start e is =
      let bytes : 32 * length d.units ≡ n * 32 = omega (arith, counted.2, ap (λ x. length x.units) e, length-map c.units told) in
      is ∙ (λ k. packed_bytes (e k).units ++ drop (bytes k) start)

  pub read_back : Ranged c.units → Falling c.units → {buffer : List ℕ} (rest : List ℕ) → buffer ≡ packed_bytes (map told c.units) ++ rest
      → told_course (packed_course (take (n * 32) buffer)) ≡ record { units = map told c.units; ending = proper }
  read_back ranged falling rest is =
      let front = ap (take (n * 32)) is ∙ front-packed (map told c.units) n rest (counted.2 ∙ sym (length-map c.units told)) in
      ap (λ bs. told_course (packed_course bs)) front ∙ packed-back c.units ranged falling
