-- What the methods make of the entries that are theirs, and of questions.
use Rattle.std.specs.Prelude.{◌≡◌, ℕ, true, false, List, IfErr, Option, Result}
use Rattle.book.specs.declared.books.Book.{Book}
use Rattle.load.specs.Taking.{TakenIn, year_of}
use Rattle.method.specs.Pairs.{pairs_of}
use Rattle.model.specs.LoadYears.{Hour, year_hours}
use Rattle.model.specs.Methods.{average_answer, average_meaning, simple_answer}
use Rattle.model.specs.Operating.{adjusted_answer, adjusted_meaning, pair_answer, pairs_after, simple_meaning}
use Rattle.model.specs.declared.answers.Reply.{Reply}
use Rattle.model.specs.declared.answers.Reply.TheVariants.{Entered}
use Rattle.model.specs.declared.faults.IntakeFault.{IntakeFault}
use Rattle.model.specs.declared.faults.LoadFault.{LoadFault}
use Rattle.model.specs.declared.faults.MethodFault.{MethodFault}
use Rattle.model.specs.declared.records.LoadGroup.{LoadGroup}
use Rattle.model.specs.declared.records.MethodKind.{MethodKind}
use Rattle.model.specs.declared.records.MethodKind.TheVariants.{Adjusted, Average, Simple}
use Rattle.model.specs.declared.records.Question.{Question}
use Rattle.model.specs.declared.records.Record.{Record}
use Rattle.model.specs.declared.records.YearlyPair.{YearlyPair}
use Rattle.intake.specs.Taking.{AsksBy, handed_on, Gathers as GathersBy, Taken as TakenBy, Takes as TakesBy, TakesRecord as TakesRecordBy}
use Rattle.intake.specs.declared.phases.Intake.{Intake}
use Rattle.intake.specs.declared.phases.Phase.{Phase}
use Rattle.record_streams.specs.declared.methods.Methods.{Methods}

-- What the methods have taken in: the yearly pairs in order of entry, and what the load year says of each hour.
abbrev pub pairs_in : Methods → List YearlyPair
pairs_in m = pairs_of m.simple

abbrev pub year_in : Methods → ℕ → Hour
year_in m = year_of m.adjusted.year

-- The load year took the group.
pub record EntersLoad (g : LoadGroup) (m n : Methods) (r : Result Reply IntakeFault) : Type 0 where
  pub verdict : Result (Unit {0}) LoadFault
  pub taken : TakenIn g (year_in m) (year_in n) verdict
  pub refusal : IfErr verdict (λ _. n ≡ m)
  pub simple : n.simple ≡ m.simple
  pub replied : r ≡ handed_on Entered (λ (f : LoadFault). f.fault) verdict

-- The simple method took the pair.
pub record EntersPair (p : YearlyPair) (m n : Methods) (r : Result Reply IntakeFault) : Type 0 where
  pub pairs : pairs_in n ≡ pairs_after (pairs_in m) p
  pub refusal : IfErr (pair_answer (pairs_in m) p) (λ _. n ≡ m)
  pub adjusted : n.adjusted ≡ m.adjusted
  pub replied : r ≡ handed_on Entered (λ (f : MethodFault). f.fault) (pair_answer (pairs_in m) p)

-- A question by a method, with what it has taken in.
abbrev pub AsksMethod : MethodKind → Question → Methods → Book → Book → Result Reply IntakeFault → Type 0
AsksMethod Simple q m b c r = AsksBy (simple_meaning (pairs_in m)) (λ us a. a ≡ simple_answer us) 2 false q b c r
AsksMethod Adjusted q m b c r = AsksBy (adjusted_meaning year_hours (year_in m)) (λ us a. a ≡ adjusted_answer year_hours (year_in m) us) 3 false q b c r
AsksMethod Average q m b c r = AsksBy average_meaning (λ us a. a ≡ average_answer us) 2 true q b c r

-- What the intake makes of a record, and of a piece of the stream, with these methods.
abbrev pub Answer : Type 0
Answer = Result Reply IntakeFault

abbrev pub Gathers : Record → Book → Book → Methods → Methods → Answer → Type 0
Gathers = GathersBy Entered EntersLoad EntersPair AsksMethod

abbrev pub TakesRecord : Phase → ℕ → Record → Book → Book → Methods → Methods → Answer → Type 0
TakesRecord = TakesRecordBy Entered EntersLoad EntersPair AsksMethod

abbrev pub Takes : Phase → ℕ → Option Record → Book → Book → Methods → Methods → Answer → Type 0
Takes = TakesBy Entered EntersLoad EntersPair AsksMethod

abbrev pub Taken : Intake → Intake → Book → Book → Methods → Methods → List ℕ → Answer → Type 0
Taken = TakenBy Entered EntersLoad EntersPair AsksMethod
