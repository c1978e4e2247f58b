-- What holds of every year book's contents, whatever journal led to them.
use Rattle.std.proofs.Common.{◌≡◌, ℕ, ◌≤◌, Bool, true, false, cond, List, [], ◌∷◌, map, is_ok, arith}
use mathlib.Core.HLevel.{Unit-prop, →_prop, ×_prop}
use mathlib.Core.Logic.{∥∥₁_elim}
use native.Mathlib.Bridge.{le_prop}
use Rattle.std.specs.List.{AllByRecursion}
use Rattle.std.proofs.ByRecursion.{All-map, All-push, All-weaker}
use Rattle.std.proofs.lemmas.Bool.Decides.{nat_tests}
use Rattle.model.specs.declared.events.Event.{Event}
use Rattle.model.specs.declared.events.Event.TheVariants.{EnterFuel, EnterUnit, EnterBurn, Strike, Restart, Next, Packing, Question}
use Rattle.model.specs.declared.units.Fuel.{Fuel}
use Rattle.model.specs.Plain.{Before, Contents, Ordered, Reached, changed, empty, first_by, fuel_in_range, fuel_of, is_fuel, no_fuel, verdict}
use Rattle.model.specs.Units.{Falling, Listed, Standing, listed_unit}
use Rattle.model.proofs.Lives.{Apart, run-keeps, shown-apart}
use Rattle.model.proofs.Verdicts.{passed-fuel}

-- ---- fuels

-- a fuel's numbers are at most the highest of their ranges
abbrev pub FuelFits : Fuel → Type 0
FuelFits f = (f.heat_content ≤ 100000) × (f.carbon_factor ≤ 320000)

fits-from-range : (f : Fuel) → fuel_in_range f ≡ true → FuelFits f
fits-from-range f r = (grind (arith, nat_tests, r), grind (arith, nat_tests, r))

changed-fits : (p : Contents) (v : Event) → is_ok (verdict p v) ≡ true → AllByRecursion FuelFits p.fuels → AllByRecursion FuelFits (changed p v).fuels
changed-fits p (EnterFuel f) ok a = All-push FuelFits p.fuels f a (fits-from-range f (passed-fuel p f ok).ranged)
changed-fits p (EnterUnit e) ok a = a
changed-fits p (EnterBurn e) ok a = a
changed-fits p (Strike c) ok a = a
changed-fits p Restart ok a = a
changed-fits p Next ok a = a
changed-fits p Packing ok a = a
changed-fits p Question ok a = a

-- what holds of every element and of the default holds of the first that passes
first-all : {A : Type 0} (P : A → Type 0) (p : A → Bool) (d : A) (xs : List A) → P d → AllByRecursion P xs → P (first_by p d xs)
first-all P p d [] h a = h
first-all P p d (x ∷ xs) h a =
    elim (p x) as (λ b. P (cond b x (first_by p d xs))) [ true ↦ a.0 | false ↦ first-all P p d xs h a.1 ]

pub fuel-fits : (p : Contents) → Reached p → (c : ℕ) → FuelFits (fuel_of c p.fuels)
fuel-fits p reached c =
    ∥∥₁_elim reached (×_prop le_prop le_prop)
    (λ s. first-all FuelFits (is_fuel c) no_fuel p.fuels (omega arith, omega arith) (rw s.1.fuels (run-keeps (λ q. AllByRecursion FuelFits q.fuels) changed-fits s.0 empty tt)))

-- ---- units

all_prop : {A : Type 0} (P : A → Type 0) → ((x : A) → IsProp (P x)) → (xs : List A) → IsProp (AllByRecursion P xs)
all_prop P p [] = Unit-prop
all_prop P p (x ∷ xs) = ×_prop (p x) (all_prop P p xs)

ordered-prop : (us : List Standing) → IsProp (Ordered us)
ordered-prop [] = Unit-prop
ordered-prop (u ∷ us) = ×_prop (all_prop (Before u) (λ v. ×_prop le_prop (→_prop le_prop)) us) (ordered-prop us)

pub reached-ordered : (p : Contents) → Reached p → Ordered p.units
reached-ordered p reached = ∥∥₁_elim reached (ordered-prop p.units) (λ s. s.1.ordered)

pub reached-apart : (p : Contents) → Reached p → Apart p.units
reached-apart p reached c = ∥∥₁_elim reached le_prop (λ s. shown-apart s.0 p s.1 c)

-- a list in order has days that never rise
pub falling-ordered : (us : List Standing) → Ordered us → Falling (map listed_unit us)
falling-ordered [] o = tt
falling-ordered (u ∷ us) o =
    (All-map (λ (v : Listed). v.day ≤ u.entry.day) listed_unit us (All-weaker (Before u) (λ v. v.entry.day ≤ u.entry.day) (λ v b. b.0) us o.0), falling-ordered us o.1)
