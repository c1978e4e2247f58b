-- What the average method alone makes of what is not the book's.
use Rattle.std.specs.Prelude.{◌≡◌, true, Ok, Err, Result}
use Rattle.model.specs.Methods.{average_answer, average_meaning}
use Rattle.model.specs.declared.answers.Reply.{Reply}
use Rattle.model.specs.declared.faults.IntakeFault.{IntakeFault}
use Rattle.model.specs.declared.records.LoadGroup.{LoadGroup}
use Rattle.model.specs.declared.records.MethodKind.{MethodKind}
use Rattle.model.specs.declared.records.MethodKind.TheVariants.{Adjusted, Average, Simple}
use Rattle.model.specs.declared.records.Question.{Question}
use Rattle.model.specs.declared.records.YearlyPair.{YearlyPair}
use Rattle.book.specs.declared.books.Book.{Book}
use Rattle.intake.specs.Taking.{AsksBy, AsksNone}
use Rattle.intake.specs.declared.averages.AverageAlone.{AverageAlone}
use Rattle.intake.specs.declared.averages.Feature.{Feature}
use Rattle.intake.specs.declared.averages.Feature.TheVariants.{AdjustedMethod, LoadRecords, SimpleMethod, YearlyRecords}

-- A reply, or what is not built.
abbrev pub Answer : Type 0
Answer = Result (Result Reply Feature) IntakeFault

abbrev pub built : Result Reply IntakeFault → Answer
built (Ok x) = Ok (Ok x)
built (Err f) = Err f

-- Load and yearly records are not built, and change nothing.
abbrev pub loads_alone : LoadGroup → AverageAlone → AverageAlone → Answer → Type 0
loads_alone g m n r = (n ≡ m) × (r ≡ Ok (Err LoadRecords))

abbrev pub pairs_alone : YearlyPair → AverageAlone → AverageAlone → Answer → Type 0
pairs_alone p m n r = (n ≡ m) × (r ≡ Ok (Err YearlyRecords))

-- A question by the average method has the promise of the combined margin.
pub record AsksAverage (q : Question) (b c : Book) (r : Answer) : Type 0 where
  pub reply : Result Reply IntakeFault
  pub asks : AsksBy average_meaning (λ us a. a ≡ average_answer us) 2 true q b c reply
  pub replied : r ≡ built reply

abbrev pub AsksAlone : MethodKind → Question → AverageAlone → Book → Book → Answer → Type 0
AsksAlone Simple q m b c r = AsksNone (Ok (Err SimpleMethod)) q b c r
AsksAlone Adjusted q m b c r = AsksNone (Ok (Err AdjustedMethod)) q b c r
AsksAlone Average q m b c r = AsksAverage q b c r
