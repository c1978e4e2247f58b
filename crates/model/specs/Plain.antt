-- The plain book: what a year book holds after a journal, by the rules alone. No table, no order but that of entry.
use Rattle.std.specs.Prelude.{◌≡◌, ℕ, ◌+◌, ◌*◌, ◌<◌, ◌≤◌, Bool, cond, not, ◌&&◌, ◌||◌, List, [], ◌∷◌, ◌++◌, map, length, is_ok, Ok, Err, fold, sum_by, count_by, filter, Result, ◌==◌, nat_le, nat_lt}
use Rattle.std.specs.List.Sorted.{IsPermutation}
use Rattle.std.specs.List.{AllByRecursion}
use Rattle.model.specs.declared.events.Event.{Event}
use Rattle.model.specs.declared.events.Event.TheVariants.{EnterFuel, EnterUnit, EnterBurn, Strike, Restart, Next, Packing, Question}
use Rattle.model.specs.declared.faults.BookFault.{BookFault}
use Rattle.model.specs.declared.faults.Fault.{Fault}
use Rattle.model.specs.declared.faults.Layer.TheVariants.{Book}
use Rattle.model.specs.declared.faults.Rule.{Rule}
use Rattle.model.specs.declared.faults.Rule.TheVariants.{ZeroCode, NoSuchDay, OutOfRange, AlreadyStands, NotStanding, TableFull, EmissionTooHigh}
use Rattle.model.specs.declared.units.Burn.{Burn}
use Rattle.model.specs.declared.units.BurnEntry.{BurnEntry}
use Rattle.model.specs.declared.units.Fuel.{Fuel}
use Rattle.model.specs.declared.units.UnitEntry.{UnitEntry}
use Rattle.model.specs.Calendar.{is_day}
use Rattle.model.specs.Course.{Course, proper}
use Rattle.model.specs.Faults.{new_fault}
use Rattle.model.specs.Units.{Standing, Listed, burned, listed_unit}

-- Fuels and units in order of entry, each unit with its burns in order of entry.
pub record Contents : Type 0 where
  pub fuels : List Fuel
  pub units : List Standing

abbrev pub empty : Contents
empty = record { fuels = []; units = [] }

-- ---- what stands

abbrev pub is_fuel : ℕ → Fuel → Bool
is_fuel c f = f.code == c

abbrev pub is_unit : ℕ → Standing → Bool
is_unit c u = u.entry.code == c

abbrev pub burns_fuel : ℕ → Burn → Bool
burns_fuel c b = b.fuel.code == c

-- some element passes the test
abbrev pub any : {A : Type 0} → (A → Bool) → List A → Bool
any p xs = nat_lt 0 (count_by p xs)

abbrev pub no_fuel : Fuel
no_fuel = record { code = 0; heat_content = 0; carbon_factor = 0 }

abbrev pub no_unit : Standing
no_unit = record { entry = record { code = 0; class = 0; day = 0; generation = 0; efficiency = 0; default_efficiency = 0 }; burns = [] }

-- The first element that passes the test, or d where none does.
abbrev pub first_by : {A : Type 0} → (A → Bool) → A → List A → A
first_by p d [] = d
first_by p d (x ∷ xs) = cond (p x) x (first_by p d xs)

-- The fuel of a code, where it stands.
abbrev pub fuel_of : ℕ → List Fuel → Fuel
fuel_of c fs = first_by (is_fuel c) no_fuel fs

-- The unit of a code, where it stands.
abbrev pub unit_of : ℕ → List Standing → Standing
unit_of c us = first_by (is_unit c) no_unit us

-- ---- ranges

abbrev pub fuel_in_range : Fuel → Bool
fuel_in_range f = (nat_le 1 f.heat_content && nat_le f.heat_content 100000) && nat_le f.carbon_factor 320000

-- none, or 116 to 1,000 per mille
abbrev pub efficiency_in_range : ℕ → Bool
efficiency_in_range e = e == 0 || (nat_le 116 e && nat_le e 1000)

-- a home unit's class, a generation and two efficiencies
abbrev pub unit_in_range : UnitEntry → Bool
unit_in_range e =
    nat_le e.class 3
    && ((nat_le 1 e.generation && nat_le e.generation 100000000)
    && (efficiency_in_range e.efficiency && efficiency_in_range e.default_efficiency))

-- With one burn more, a unit of efficiency 0 would emit more than 10,000,000 g for each MWh. (The burns count thousandths.)
abbrev pub exceeds : Standing → Burn → Bool
exceeds u b = u.entry.efficiency == 0 && nat_lt (10000000000 * u.entry.generation) (sum_by burned u.burns + burned b)

-- ---- refusals

-- the burn that an entry puts into its unit
abbrev pub burn_of : Contents → BurnEntry → Burn
burn_of p e = record { fuel = fuel_of e.fuel p.fuels; quantity = e.quantity }

-- The first refusal whose test holds, in checking order; none where no test does.
abbrev pub first : List (Bool × Fault) → Result (Unit {0}) BookFault
first [] = Ok tt
first (c ∷ cs) = cond c.0 (Err (record { fault = c.1 })) (first cs)

abbrev pub book_fault : Rule → ℕ → Fault
book_fault r place = new_fault r Book place

abbrev pub fuel_checks : Contents → Fuel → List (Bool × Fault)
fuel_checks p f =
    ((f.code == 0), book_fault ZeroCode f.code)
    ∷ (not (fuel_in_range f), book_fault OutOfRange f.code)
    ∷ (any (is_fuel f.code) p.fuels, book_fault AlreadyStands f.code)
    ∷ (nat_le 64 (length p.fuels), book_fault TableFull f.code)
    ∷ []

abbrev pub unit_checks : Contents → UnitEntry → List (Bool × Fault)
unit_checks p e =
    ((e.code == 0), book_fault ZeroCode e.code)
    ∷ (not (is_day e.day), book_fault NoSuchDay e.code)
    ∷ (not (unit_in_range e), book_fault OutOfRange e.code)
    ∷ (any (is_unit e.code) p.units, book_fault AlreadyStands e.code)
    ∷ (nat_le 1000 (length p.units), book_fault TableFull e.code)
    ∷ []

abbrev pub burn_checks : Contents → BurnEntry → List (Bool × Fault)
burn_checks p e =
    (e.unit == 0 || (e.fuel == 0), book_fault ZeroCode e.unit)
    ∷ (nat_lt 10000000 e.quantity, book_fault OutOfRange e.unit)
    ∷ (any (burns_fuel e.fuel) (unit_of e.unit p.units).burns, book_fault AlreadyStands e.unit)
    ∷ (not (any (is_unit e.unit) p.units), book_fault NotStanding e.unit)
    ∷ (not (any (is_fuel e.fuel) p.fuels), book_fault NotStanding e.fuel)
    ∷ (nat_le 4 (length (unit_of e.unit p.units).burns), book_fault TableFull e.unit)
    ∷ (exceeds (unit_of e.unit p.units) (burn_of p e), book_fault EmissionTooHigh e.unit)
    ∷ []

abbrev pub strike_checks : Contents → ℕ → List (Bool × Fault)
strike_checks p c =
    ((c == 0), book_fault ZeroCode c)
    ∷ (not (any (is_unit c) p.units), book_fault NotStanding c)
    ∷ []

-- What the book answers to an event: the first refusal, by what it holds. Restarts, nexts, packings and questions it never refuses.
abbrev pub verdict : Contents → Event → Result (Unit {0}) BookFault
verdict p (EnterFuel f) = first (fuel_checks p f)
verdict p (EnterUnit e) = first (unit_checks p e)
verdict p (EnterBurn e) = first (burn_checks p e)
verdict p (Strike c) = first (strike_checks p c)
verdict p Restart = Ok tt
verdict p Next = Ok tt
verdict p Packing = Ok tt
verdict p Question = Ok tt

-- ---- what an event changes

abbrev pub with_burn : ℕ → Burn → Standing → Standing
with_burn c b u = cond (is_unit c u) (record { entry = u.entry; burns = u.burns ++ b ∷ [] }) u

-- An entry puts in its fuel, its unit without burns or its unit's burn; a strike removes its unit with all burns.
abbrev pub changed : Contents → Event → Contents
changed p (EnterFuel f) = record { fuels = p.fuels ++ f ∷ []; units = p.units }
changed p (EnterUnit e) = record { fuels = p.fuels; units = p.units ++ record { entry = e; burns = [] } ∷ [] }
changed p (EnterBurn e) = record { fuels = p.fuels; units = map (with_burn e.unit (burn_of p e)) p.units }
changed p (Strike c) = record { fuels = p.fuels; units = filter (λ u. not (is_unit c u)) p.units }
changed p Restart = p
changed p Next = p
changed p Packing = p
changed p Question = p

-- A refused event changes nothing.
abbrev pub step : Contents → Event → Contents
step p v = cond (is_ok (verdict p v)) (changed p v) p

-- What the plain book holds after a journal.
abbrev pub after : List Event → Contents
after journal = fold step empty journal

-- ---- a year book's list

-- u stands before v: it is newer, or of the same day with the lower code.
abbrev pub Before : Standing → Standing → Type 0
Before u v = (v.entry.day ≤ u.entry.day) × (u.entry.day ≡ v.entry.day → u.entry.code < v.entry.code)

abbrev pub Ordered : List Standing → Type 0
Ordered [] = Unit {0}
Ordered (u ∷ us) = AllByRecursion (Before u) us × Ordered us

-- The contents p are those after the journal, with the units in order: the fuels in order of entry, and the units rearranged.
pub record Shows (journal : List Event) (p : Contents) : Type 0 where
  pub fuels : p.fuels ≡ (after journal).fuels
  pub units : IsPermutation (after journal).units p.units
  pub ordered : Ordered p.units

-- Some journal led to p.
abbrev pub Reached : Contents → Type 0
Reached p = ∥ ((journal : List Event) × Shows journal p) ∥₁

-- The units in this order, as a list that ends properly.
abbrev pub book_course : List Standing → Course Listed
book_course us = record { units = map listed_unit us; ending = proper }
