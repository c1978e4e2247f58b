-- A question, beside what the rules say of it.
use Rattle.std.proofs.Common.{◌≡◌, ℕ, Bool, false, List, Some, None, Option, Result, refl, subst}
use Rattle.book.specs.Seen.{seen}
use Rattle.book.specs.declared.books.Book.{Book}
use Rattle.model.specs.Course.{Course, told_course}
use Rattle.model.specs.History.{year_book}
use Rattle.model.specs.LoadYears.{Hour, year_hours}
use Rattle.model.specs.Methods.{simple_answer}
use Rattle.model.specs.Operating.{adjusted_answer, adjusted_meaning, simple_meaning}
use Rattle.model.specs.Plain.{Contents, book_course}
use Rattle.model.specs.Promise.{Promise}
use Rattle.model.specs.Records.{numbered_method}
use Rattle.model.specs.Shares.{Verdict}
use Rattle.model.specs.Streams.{AnswerBy, Gathered, Promised}
use Rattle.model.specs.Units.{Listed}
use Rattle.model.specs.declared.answers.CombinedMargin.{CombinedMargin}
use Rattle.model.specs.declared.answers.Reply.{Reply}
use Rattle.model.specs.declared.faults.CombinedFault.{CombinedFault}
use Rattle.model.specs.declared.faults.IntakeFault.{IntakeFault}
use Rattle.model.specs.declared.records.MethodKind.{MethodKind}
use Rattle.model.specs.declared.records.MethodKind.TheVariants.{Adjusted, Average, Simple}
use Rattle.model.specs.declared.records.Question.{Question}
use Rattle.model.specs.declared.records.YearlyPair.{YearlyPair}
use Rattle.model.specs.declared.units.PowerUnit.{PowerUnit}
use Rattle.model.proofs.Lives.{one-contents}
use Rattle.intake.specs.Taking.{AsksBy, AsksKind, Questions}
use Rattle.record_streams.specs.Taking.{AsksMethod}
use Rattle.record_streams.specs.declared.methods.Methods.{Methods}
use Rattle.record_streams.proofs.Standing.{Holds}

same-contents : {p q : Contents} → year_book p ≡ year_book q → p ≡ q
same-contents e = cc

module _ {meaning : List Listed → Verdict} {may : List Listed → ℕ → Type 0} {distance : ℕ} {alone : Bool} where
  -- the promise at the contents that the journal leaves
  promise-at : {wom wbm reference : ℕ} {s t p : Contents} {k : Course PowerUnit} {a : Result CombinedMargin CombinedFault} → s ≡ p
      → Promise meaning may distance alone wom wbm reference (year_book s) (year_book t) k a
      → Promise meaning may distance alone wom wbm reference (year_book p) (year_book p) (told_course (book_course p.units)) a
  promise-at {wom} {wbm} {reference} {s} {t} {p} {k} {a} e q =
      let moved : Promise meaning may distance alone wom wbm reference (year_book p) (year_book t) k a =
      subst (λ (c : Contents). Promise meaning may distance alone wom wbm reference (year_book c) (year_book t) k a) e q in
      record {
        some = moved.some;
        list = moved.list;
        refused = moved.refused;
        operating = moved.operating;
        build = moved.build;
        figure = moved.figure;
        near = moved.near;
        cohort = moved.cohort;
        words = moved.words;
        counted = moved.counted;
        kept = refl;
        restarted = refl;
      }

  asks-by : {q : Question} {b c : Book} {r : Result Reply IntakeFault} {p : Contents} → AsksBy meaning may distance alone q b c r → seen b ≡ p → Promised meaning may distance alone q p r
  asks-by e is = record { answer = e.answer; promise = promise-at is e.promise; replied = e.replied }

module _ (g : Gathered) (q : Question) (b c : Book) (m : Methods) (r : Result Reply IntakeFault) (h : Holds g b m) where
  asks-kind : (k : Option MethodKind) → AsksKind AsksMethod k q m b c r → AnswerBy k g q r
  asks-kind None e = e.replied
  asks-kind (Some Simple) e = λ p shows.
      let is = one-contents g.journal (seen b) p h.book shows in
      asks-by (subst (λ (ps : List YearlyPair). AsksBy (simple_meaning ps) (λ us a. a ≡ simple_answer us) 2 false q b c r) h.pairs e) is
  asks-kind (Some Adjusted) e = λ p shows.
      let is = one-contents g.journal (seen b) p h.book shows in
      asks-by (subst (λ (y : ℕ → Hour). AsksBy (adjusted_meaning year_hours y) (λ us a. a ≡ adjusted_answer year_hours y us) 3 false q b c r) h.groups e) is
  asks-kind (Some Average) e = λ p shows. asks-by e (one-contents g.journal (seen b) p h.book shows)

  kept : (k : Option MethodKind) → AsksKind AsksMethod k q m b c r → seen c ≡ seen b
  kept None e = e.kept
  kept (Some Simple) e = same-contents e.promise.kept
  kept (Some Adjusted) e = same-contents e.promise.kept
  kept (Some Average) e = same-contents e.promise.kept

  pub asked : {n : Methods} → Questions AsksMethod q b c m n r → AnswerBy (numbered_method q.method) g q r × Holds g c n
  asked e = (
    asks-kind (numbered_method q.method) e.asked,
    record { book = rw (kept (numbered_method q.method) e.asked) h.book; groups = rw e.methods h.groups; pairs = rw e.methods h.pairs },
  )
