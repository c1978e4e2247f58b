-- A unit of the book's table in the words of the subject.
use Rattle.std.specs.Prelude.{◌≡◌, ℕ, ◌<◌, ◌≤◌, true, List, [], length, take, Ok, slice_index_or}
use Rattle.book.specs.declared.standing.StandingUnit.{StandingUnit}
use Rattle.model.specs.declared.events.Event.TheVariants.{EnterBurn, Strike}
use Rattle.model.specs.declared.ratios.Ratio.{Ratio}
use Rattle.model.specs.declared.units.Burn.{Burn}
use Rattle.model.specs.declared.units.BurnEntry.{BurnEntry}
use Rattle.model.specs.declared.units.UnitEntry.{UnitEntry}
use Rattle.model.specs.Fraction.{Frac, ratio}
use Rattle.model.specs.Plain.{Before, Contents, burn_of, is_unit, no_unit, unit_of, verdict}
use Rattle.model.specs.Units.{Standing}

-- The unit and its burns; the free places of its table are left out.
abbrev pub standing : StandingUnit → Standing
standing u = record { entry = u.entry; burns = take u.count u.burns }

-- The fraction that a `Ratio` is.
abbrev pub fraction : Ratio → Frac
fraction r = ratio r.num r.den

-- A unit as it is entered, without burns.
abbrev pub fresh : UnitEntry → Standing
fresh e = record { entry = e; burns = [] }

-- The first unit with the code c stands at the place i.
pub record StandsAt (c : ℕ) (us : List Standing) (i : ℕ) : Type 0 where
  pub within : i < length us
  pub coded : is_unit c (slice_index_or us i no_unit) ≡ true
  pub is : unit_of c us ≡ slice_index_or us i no_unit

-- The unit entered goes to the place i: those that stand before it end there.
pub record GoesTo (e : UnitEntry) (us : List Standing) (i : ℕ) : Type 0 where
  pub bound : i ≤ length us
  pub newer : (k : ℕ) → k < i → Before (slice_index_or us k no_unit) (fresh e)
  pub stops : i < length us → Before (slice_index_or us i no_unit) (fresh e) → ⊥

-- The book takes the burn entry: its unit stands at the place, and b is the burn.
pub record TakesBurn (p : Contents) (e : BurnEntry) (place : ℕ) (b : Burn) : Type 0 where
  pub accepted : Ok tt ≡ verdict p (EnterBurn e)
  pub stands : StandsAt e.unit p.units place
  pub burn : b ≡ burn_of p e

-- The book takes the strike: the unit stands at the place.
pub record TakesStrike (p : Contents) (c : ℕ) (place : ℕ) : Type 0 where
  pub accepted : Ok tt ≡ verdict p (Strike c)
  pub stands : StandsAt c p.units place
