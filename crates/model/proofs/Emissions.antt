-- A unit in range emits at most 10,000,000 g for each MWh.
use Rattle.std.proofs.Common.{◌≡◌, ℕ, ◌*◌, ◌≤◌, true, eqb, List, [], ◌∷◌, sum_by, unwrap_or, inl, inr, mul-le-mul_left, arith}
use Rattle.std.specs.List.{AllByRecursion}
use Rattle.std.proofs.lemmas.Bool.{cases_Bool, eqb-true}
use Rattle.std.proofs.lemmas.Bool.Decides.{nat_tests}
use Rattle.model.specs.declared.classes.Class.TheVariants.{Import}
use Rattle.model.specs.declared.units.Burn.{Burn}
use Rattle.model.specs.Calendar.{is_day}
use Rattle.model.specs.Classes.{is_home, numbered_class}
use Rattle.model.specs.Plain.{efficiency_in_range, unit_in_range}
use Rattle.model.specs.Units.{Emits, EmitsOption, InRange, Standing, burned, by_efficiency, default_by, emission, listed_unit, lowest}

-- What a unit's ranges come to; the burns of a unit without an efficiency are capped by their own check.
pub record Bounded (u : Standing) : Type 0 where
  pub coded : 1 ≤ u.entry.code
  pub short : u.entry.code ≤ 65535
  pub dated : is_day u.entry.day ≡ true
  pub ranged : unit_in_range u.entry ≡ true
  pub factors : AllByRecursion (λ b. b.fuel.carbon_factor ≤ 320000) u.burns
  pub capped : u.entry.efficiency ≡ 0 → sum_by burned u.burns ≤ 10000000000 * u.entry.generation

home : (n : ℕ) → n ≤ 3 → is_home (unwrap_or (numbered_class n) Import) ≡ true
home n h = grind (arith, nat_tests)

pub lowest-le : (b : Burn) (bs : List Burn) → b.fuel.carbon_factor ≤ 320000 → lowest b bs ≤ 320000
lowest-le b [] h = h
lowest-le b (d ∷ bs) h = omega arith

-- the lowest efficiency, 116, keeps the highest carbon factor below the limit
emits-efficiency : (g e : ℕ) (bs : List Burn) → 116 ≤ e → AllByRecursion (λ b. b.fuel.carbon_factor ≤ 320000) bs → Emits g (by_efficiency g e bs)
emits-efficiency g e [] h a = record { real = omega arith; cap = omega arith }
emits-efficiency g e (b ∷ bs) h a =
    let l = mul-le-mul_left g (lowest-le b bs a.0) in
    let k = mul-le-mul_left g h in
    record { real = omega arith; cap = omega (arith, l, k) }

emits-unit : (u : Standing) → Bounded u → Emits u.entry.generation (emission u)
emits-unit u b =
    elim (cases_Bool (eqb u.entry.efficiency 0)) [
      | inl e ↦ let h = b.capped (eqb-true u.entry.efficiency 0 e) in rw e record { real = omega arith; cap = omega (arith, h) }
      | inr e ↦ let h : 116 ≤ u.entry.efficiency = grind (arith, nat_tests, b.ranged, e) in rw e (emits-efficiency u.entry.generation u.entry.efficiency u.burns h b.factors)
    ]

default-emits : (g e : ℕ) (bs : List Burn) → efficiency_in_range e ≡ true → AllByRecursion (λ b. b.fuel.carbon_factor ≤ 320000) bs → EmitsOption g (default_by g e bs)
default-emits g e [] r a = record { real = omega arith; cap = omega arith }
default-emits g e (b ∷ bs) r a =
    elim (cases_Bool (eqb e 0)) [
      | inl z ↦ rw z tt
      | inr z ↦ let h : 116 ≤ e = grind (arith, nat_tests, r, z) in rw z (emits-efficiency g e (b ∷ bs) h a)
    ]

pub in-range : (u : Standing) → Bounded u → InRange (listed_unit u)
in-range u b =
    let class : u.entry.class ≤ 3 = grind (arith, nat_tests, b.ranged) in
    let default : efficiency_in_range u.entry.default_efficiency ≡ true = grind (arith, nat_tests, b.ranged) in
    record {
      coded = b.coded;
      short = b.short;
      dated = rw (home u.entry.class class) b.dated;
      some = grind (arith, nat_tests, b.ranged);
      most = grind (arith, nat_tests, b.ranged);
      emits = emits-unit u b;
      defaults = default-emits u.entry.generation u.entry.default_efficiency u.burns default b.factors;
    }
