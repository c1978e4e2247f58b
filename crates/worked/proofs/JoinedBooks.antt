-- What the two questions come to over the joined books with the import above.
use Rattle.std.proofs.Common.{◌≡◌, refl, arith}
use Rattle.model.specs.Fraction.{ratio}
use Rattle.model.specs.History.{Composition, import, join, listed, year_book}
use Rattle.model.specs.Plain.{Contents}
use Rattle.model.specs.Rounding.{rounded}
use Rattle.model.proofs.Rounding.{rounded-is, rounded-whole}
use Rattle.worked.specs.Example.{example_contents}
use Rattle.worked.specs.Joined.{joined_first, joined_later}
use Rattle.worked.proofs.Answered.{Comes}
use Rattle.worked.proofs.ExampleBook.{no-grams, plant-grams}
use Rattle.worked.proofs.StruckUnits.{left}

abbrev pub grid : Composition
grid = import (join (year_book example_contents) (year_book left)) (record { code = 5; generation = 2000; factor = 300000 })

again-grams : rounded (ratio 24406800000 1000) ≡ 24406800
again-grams = rounded-is (ratio 24406800000 1000) 24406800 (record { low = omega arith; high = omega arith })

mean : rounded (ratio 1600678800 9500) ≡ 168493
mean = rounded-is (ratio 1600678800 9500) 168493 (record { low = omega arith; high = omega arith })

three-mean : rounded (ratio 1000678800 4500) ≡ 222373
three-mean = rounded-is (ratio 1000678800 4500) 222373 (record { low = omega arith; high = omega arith })

two-mean : rounded (ratio 1000678800 1500) ≡ 667119
two-mean = rounded-is (ratio 1000678800 1500) 667119 (record { low = omega arith; high = omega arith })

pub first-comes : Comes 50 50 20240630 (listed grid) joined_first
first-comes =
    record {
      taken = refl;
      weighs = refl;
      operating = rw (again-grams, plant-grams, no-grams, rounded-whole 600000000, mean) refl;
      build = rw (again-grams, plant-grams, no-grams, three-mean) refl;
      cohort = refl;
      combined = rounded-is (ratio 19543300 100) 195433 (record { low = omega arith; high = omega arith });
    }

pub later-comes : Comes 50 50 20260101 (listed grid) joined_later
later-comes =
    record {
      taken = refl;
      weighs = refl;
      operating = rw (again-grams, plant-grams, no-grams, rounded-whole 600000000, mean) refl;
      build = rw (again-grams, plant-grams, two-mean) refl;
      cohort = refl;
      combined = rounded-is (ratio 41780600 100) 417806 (record { low = omega arith; high = omega arith });
    }

-- from what the calls say of what they made
pub grid-is : {p q : Composition} {s t : Contents} → p ≡ import q (record { code = 5; generation = 2000; factor = 300000 })
    → q ≡ join (year_book s) (year_book t) → s ≡ example_contents → t ≡ left → p ≡ grid
grid-is made joined first second = rw (made, joined, first, second) refl
