-- Something stood before every stream: a book and a load year are what entries made them, and the pairs are those that are held.
use Rattle.std.proofs.Common.{◌≡◌, ℕ, Bool, true, false, refl}
use Rattle.std.proofs.Math.Logic.{∥∥₁_map₂}
use Rattle.book.specs.declared.books.Book.{Book}
use Rattle.model.specs.LoadYears.{groups_taken, year_hours}
use Rattle.model.specs.Streams.{Stand}
use Rattle.record_streams.specs.Feeding.{Stands, phase_of}
use Rattle.record_streams.specs.Taking.{pairs_in}
use Rattle.record_streams.specs.declared.methods.Methods.{Methods}
use Rattle.intake.specs.declared.phases.Intake.{Intake}
use Rattle.intake.specs.declared.phases.Phase.{Phase}
use Rattle.intake.specs.declared.phases.Phase.TheVariants.{Answering, Gathering}

abbrev asked : Phase → Bool
asked Gathering = false
asked Answering = true

asked-is : (f : Phase) → f ≡ phase_of (asked f)
asked-is Gathering = refl
asked-is Answering = refl

pub stood : (x : Intake) (b : Book) (m : Methods) → ∥ ((s : Stand) × (at : ℕ) × Stands s at x b m) ∥₁
stood x b m =
    ∥∥₁_map₂ b.reached m.adjusted.year.reached
    (λ j g. (
      record { gathered = record { journal = j.0; groups = groups_taken year_hours g.0; pairs = pairs_in m }; asked = asked x.phase },
      x.index,
      record { index = refl; phase = asked-is x.phase; book = j.1; groups = g.1; pairs = refl },
    ))
