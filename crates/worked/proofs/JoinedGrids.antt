-- The two grids joined, packed and read back.
use Rattle.std.proofs.Common.{◌≡◌, ℕ, List, [], ◌∷◌, map, Some, None, Ok, Err, Option, Result, refl, ap, ◌∙◌, arith}
use Rattle.model.specs.Course.{Course, answered, proper, tail}
use Rattle.model.specs.History.{Composition, foreign, join, listed}
use Rattle.model.specs.Packed.{packed_course, packed_unit, packing_answer}
use Rattle.model.specs.Units.{told}
use Rattle.model.specs.declared.units.PowerUnit.{PowerUnit}
use Rattle.model.proofs.Rounding.{rounded-whole}
use Rattle.worked.specs.Grids.{north_unit, south_unit}

abbrev pub north : List ℕ
north = 80 ∷ 0 ∷ 0 ∷ 7 ∷ 1 ∷ 49 ∷ 84 ∷ 219 ∷ 0 ∷ 0 ∷ 3 ∷ 232 ∷ 1 ∷ 0 ∷ 0 ∷ 0 ∷ 0 ∷ 0 ∷ 0 ∷ 0 ∷ 0 ∷ 3 ∷ 208 ∷ 144 ∷ 0 ∷ 0 ∷ 0 ∷ 0 ∷ 0 ∷ 4 ∷ 147 ∷ 224 ∷ []

abbrev pub south : List ℕ
south = 80 ∷ 1 ∷ 0 ∷ 9 ∷ 1 ∷ 51 ∷ 121 ∷ 73 ∷ 0 ∷ 0 ∷ 11 ∷ 184 ∷ 0 ∷ 0 ∷ 0 ∷ 0 ∷ 0 ∷ 0 ∷ 0 ∷ 0 ∷ 0 ∷ 0 ∷ 0 ∷ 0 ∷ 0 ∷ 0 ∷ 0 ∷ 0 ∷ 0 ∷ 0 ∷ 0 ∷ 0 ∷ []

-- the newer unit first
both : listed (join (foreign (packed_course north)) (foreign (packed_course south))) ≡ record { units = packed_unit south ∷ packed_unit north ∷ []; ending = proper }
both = refl

told-both : map told (packed_unit south ∷ packed_unit north ∷ []) ≡ south_unit ∷ north_unit ∷ []
told-both = rw (rounded-whole 0, rounded-whole 250000, rounded-whole 300000)

module _ {p a b : Composition} (joined : p ≡ join a b) (first : a ≡ foreign (packed_course north)) (second : b ≡ foreign (packed_course south)) where
  listed-both : listed p ≡ record { units = packed_unit south ∷ packed_unit north ∷ []; ending = proper }
  listed-both = rw (joined, first, second) both

  -- the buffer suffices
  pub packs : packing_answer (listed p) 64 ≡ Ok 64
  packs = rw listed-both refl

  pub reads : {course : Course PowerUnit} → course ≡ record { units = map told (listed p).units; ending = proper } → course ≡ record { units = south_unit ∷ north_unit ∷ []; ending = proper }
  reads e = e ∙ rw (listed-both, told-both) refl

-- an answer that is none of the faults
pub never : {A E : Type 0} {r : Result A E} {x : A} {f : E} → r ≡ Ok x → Err f ≡ r → ⊥
never p q = let z : ◌≡◌ {A = ℕ} 0 1 = cc in omega arith

-- what three steps through a list of two units answer
pub three : (c d e : Course PowerUnit) (x y z : Option PowerUnit) (u v : PowerUnit) → c ≡ record { units = u ∷ v ∷ []; ending = proper }
    → d.units ≡ tail c.units → d.ending ≡ c.ending → e.units ≡ tail d.units → e.ending ≡ d.ending
    → Ok x ≡ answered c.units c.ending → Ok y ≡ answered d.units d.ending → Ok z ≡ answered e.units e.ending
    → (x ≡ Some u) × (y ≡ Some v) × (z ≡ None)
three c d e x y z u v is d1 d2 e1 e2 a1 a2 a3 =
    let i1 : c.units ≡ u ∷ v ∷ [] = ap (λ k. k.units) is in
    let i2 : c.ending ≡ proper = ap (λ k. k.ending) is in
    let j1 : d.units ≡ v ∷ [] = d1 ∙ ap tail i1 in
    let k1 : e.units ≡ [] = e1 ∙ ap tail j1 in
    let s1 = rw i1 at a1 in
    let s2 = rw j1 at a2 in
    let s3 = rw (k1, e2 ∙ (d2 ∙ i2)) at a3 in
    (cc, cc, cc)
