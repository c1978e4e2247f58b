-- The book of the worked example, and what its two questions come to.
use Rattle.std.proofs.Common.{◌≡◌, List, [], ◌∷◌, refl, arith}
use Rattle.std.proofs.lemmas.List.Sorted.{IsPermutation-refl}
use Rattle.model.specs.Fraction.{ratio}
use Rattle.model.specs.History.{listed, year_book}
use Rattle.model.specs.Plain.{Contents, Shows}
use Rattle.model.specs.Rounding.{rounded}
use Rattle.model.specs.declared.events.Event.{Event}
use Rattle.model.specs.declared.events.Event.TheVariants.{EnterBurn, EnterFuel, EnterUnit}
use Rattle.model.proofs.Lives.{one-contents}
use Rattle.model.proofs.Rounding.{rounded-is}
use Rattle.worked.specs.Example.{at_first, example_contents, later, must_run, plant}
use Rattle.worked.specs.Struck.{coal}
use Rattle.worked.proofs.Answered.{Comes}

abbrev journal : List Event
journal = EnterFuel coal ∷ EnterUnit plant ∷ EnterUnit must_run ∷ EnterBurn (record { unit = 1; fuel = 1; quantity = 400 }) ∷ []

shows : Shows journal example_contents
shows =
    record {
      fuels = refl;
      units = IsPermutation-refl example_contents.units;
      ordered = (((omega arith, λ e. absurd (omega (arith, e))), tt), (tt, tt));
    }

pub holds : (p : Contents) → Shows journal p → p ≡ example_contents
holds p h = one-contents journal p example_contents h shows

-- ---- the fractions of the example, rounded

pub plant-grams : rounded (ratio 976272000000 1000) ≡ 976272000
plant-grams = rounded-is (ratio 976272000000 1000) 976272000 (record { low = omega arith; high = omega arith })

pub no-grams : rounded (ratio 0 1000) ≡ 0
no-grams = rounded-is (ratio 0 1000) 0 (record { low = omega arith; high = omega arith })

mean : rounded (ratio 976272000 4000) ≡ 244068
mean = rounded-is (ratio 976272000 4000) 244068 (record { low = omega arith; high = omega arith })

plant-mean : rounded (ratio 976272000 1000) ≡ 976272
plant-mean = rounded-is (ratio 976272000 1000) 976272 (record { low = omega arith; high = omega arith })

mixed-first : rounded (ratio 24406800 100) ≡ 244068
mixed-first = rounded-is (ratio 24406800 100) 244068 (record { low = omega arith; high = omega arith })

mixed-later : rounded (ratio 61017000 100) ≡ 610170
mixed-later = rounded-is (ratio 61017000 100) 610170 (record { low = omega arith; high = omega arith })

pub first-comes : Comes 50 50 20240630 (listed (year_book example_contents)) at_first
first-comes =
    record {
      taken = refl;
      weighs = refl;
      operating = rw (plant-grams, no-grams, mean) refl;
      build = rw (plant-grams, no-grams, mean) refl;
      cohort = refl;
      combined = mixed-first;
    }

pub later-comes : Comes 50 50 20260101 (listed (year_book example_contents)) later
later-comes =
    record {
      taken = refl;
      weighs = refl;
      operating = rw (plant-grams, no-grams, mean) refl;
      build = rw (plant-grams, plant-mean) refl;
      cohort = refl;
      combined = mixed-later;
    }
