-- An event that is not refused has passed every check.
use Rattle.std.proofs.Common.{◌≡◌, ℕ, zero, suc, ◌<◌, ◌≤◌, Bool, true, false, List, [], ◌∷◌, length, get_or, take, is_ok, Ok, Err, count_by, Result, sym, refl, ap, inl, inr, arith}
use Rattle.std.specs.List.{AllByRecursion}
use Rattle.std.proofs.lemmas.Bool.{both_ways, cases_Bool, eqb-false, leb-false, ltb-false, not-false}
use Rattle.model.specs.declared.events.Event.TheVariants.{EnterBurn, EnterFuel, EnterUnit}
use Rattle.model.specs.declared.faults.BookFault.{BookFault}
use Rattle.model.specs.declared.faults.Fault.{Fault}
use Rattle.model.specs.declared.units.BurnEntry.{BurnEntry}
use Rattle.model.specs.declared.units.Fuel.{Fuel}
use Rattle.model.specs.declared.units.UnitEntry.{UnitEntry}
use Rattle.model.specs.Calendar.{is_day}
use Rattle.model.specs.Plain.{Contents, any, burn_checks, burn_of, exceeds, first, fuel_checks, fuel_in_range, is_fuel, is_unit, unit_checks, unit_in_range, unit_of, verdict}

pub passed : (cs : List (Bool × Fault)) → is_ok (first cs) ≡ true → AllByRecursion (λ c. c.0 ≡ false) cs
passed [] ok = tt
passed (c ∷ cs) ok =
    elim (cases_Bool c.0) [
      | inl e ↦ absurd (both_ways false refl (rw e at ok))
      | inr e ↦ (e, passed cs (rw e at ok))
    ]

pub ok-accepted : (r : Result (Unit {0}) BookFault) → Ok tt ≡ r → is_ok r ≡ true
ok-accepted r e = ap is_ok (sym e)

pub record PassedUnit (p : Contents) (e : UnitEntry) : Type 0 where
  pub coded : 1 ≤ e.code
  pub dated : is_day e.day ≡ true
  pub ranged : unit_in_range e ≡ true
  pub apart : count_by (is_unit e.code) p.units ≡ 0
  pub room : length p.units < 1000

pub passed-unit : (p : Contents) (e : UnitEntry) → is_ok (verdict p (EnterUnit e)) ≡ true → PassedUnit p e
passed-unit p e ok =
    let t = passed (unit_checks p e) ok in
    record {
      coded = omega (arith, eqb-false e.code 0 t.0);
      dated = not-false (is_day e.day) t.1.0;
      ranged = not-false (unit_in_range e) t.1.1.0;
      apart = omega (arith, ltb-false 0 (count_by (is_unit e.code) p.units) t.1.1.1.0);
      room = leb-false 1000 (length p.units) t.1.1.1.1.0;
    }

pub record PassedFuel (p : Contents) (f : Fuel) : Type 0 where
  pub ranged : fuel_in_range f ≡ true
  pub room : length p.fuels < 64

pub passed-fuel : (p : Contents) (f : Fuel) → is_ok (verdict p (EnterFuel f)) ≡ true → PassedFuel p f
passed-fuel p f ok =
    let t = passed (fuel_checks p f) ok in
    record { ranged = not-false (fuel_in_range f) t.1.0; room = leb-false 64 (length p.fuels) t.1.1.1.0 }

pub record PassedBurn (p : Contents) (e : BurnEntry) : Type 0 where
  pub quantity : e.quantity ≤ 10000000
  pub fuel : any (is_fuel e.fuel) p.fuels ≡ true
  pub room : length (unit_of e.unit p.units).burns < 4
  pub capped : exceeds (unit_of e.unit p.units) (burn_of p e) ≡ false

pub passed-burn : (p : Contents) (e : BurnEntry) → is_ok (verdict p (EnterBurn e)) ≡ true → PassedBurn p e
passed-burn p e ok =
    let t = passed (burn_checks p e) ok in
    record {
      quantity = ltb-false 10000000 e.quantity t.1.0;
      fuel = not-false (any (is_fuel e.fuel) p.fuels) t.1.1.1.1.0;
      room = leb-false 4 (length (unit_of e.unit p.units).burns) t.1.1.1.1.1.0;
      capped = t.1.1.1.1.1.1.0;
    }

-- The first test that holds names the refusal, and where none does there is none.
pub refused-at : (cs : List (Bool × Fault)) (k : ℕ) (d : Bool × Fault) → k < length cs → AllByRecursion (λ c. c.0 ≡ false) (take k cs) → (get_or cs k d).0 ≡ true → Err (record { fault = (get_or cs k d).1 }) ≡ first cs
refused-at [] k d l before here = absurd (omega arith)
refused-at (c ∷ cs) zero d l before here = rw here refl
refused-at (c ∷ cs) (suc k) d l before here = rw before.0 (refused-at cs k d (omega arith) before.1 here)

pub accepted : (cs : List (Bool × Fault)) → AllByRecursion (λ c. c.0 ≡ false) cs → Ok tt ≡ first cs
accepted [] all = refl
accepted (c ∷ cs) all = rw all.0 (accepted cs all.1)
