-- A stream taken piece by piece, beside what the rules say of it.
use Rattle.std.proofs.Common.{◌≡◌, ℕ, Bool, true, false, cond, List, Some, None, Ok, Err, MatchBool, Option, Result, sym, refl, ap, ◌∙◌, subst}
use Rattle.std.proofs.lemmas.Bool.{both_ways}
use Rattle.book.specs.Seen.{Changes, Restarted, coming, seen}
use Rattle.book.specs.declared.books.Book.{Book}
use Rattle.model.specs.Course.{told_course}
use Rattle.model.specs.Faults.{new_fault}
use Rattle.model.specs.History.{Composition, listed, year_book}
use Rattle.model.specs.Records.{numbered_method, record_of}
use Rattle.model.specs.Streams.{Gathered, ReplyTo, ReplyToRead, ReplyToRecord, Stand, accepts, after_piece, after_read, after_record, entry_fault, entry_reply, is_question, next_index, put_in, refused_for}
use Rattle.model.specs.declared.answers.Reply.{Reply}
use Rattle.model.specs.declared.faults.BookFault.{BookFault}
use Rattle.model.specs.declared.faults.Fault.{Fault}
use Rattle.model.specs.declared.faults.IntakeFault.{IntakeFault}
use Rattle.model.specs.declared.faults.Layer.TheVariants.{Intake as IntakeLayer}
use Rattle.model.specs.declared.faults.Rule.TheVariants.{AfterQuestion}
use Rattle.model.specs.declared.records.MethodKind.{MethodKind}
use Rattle.model.specs.declared.records.MethodKind.TheVariants.{Adjusted, Average, Simple}
use Rattle.model.specs.declared.records.Question.{Question}
use Rattle.model.specs.declared.records.Record.{Record}
use Rattle.model.specs.declared.records.Record.TheVariants.{Burn, Fuel, Load, Question as Asked, Strike, Unit as UnitRecord, Yearly}
use Rattle.record_streams.specs.Feeding.{Stands, phase_of}
use Rattle.intake.specs.Taking.{AsksKind, Leaves, Questions, next_phase}
use Rattle.record_streams.specs.Taking.{AsksMethod, Gathers, Taken, Takes, TakesRecord}
use Rattle.record_streams.specs.declared.methods.Methods.{Methods}
use Rattle.intake.specs.declared.phases.Intake.{Intake}
use Rattle.intake.specs.declared.phases.Phase.{Phase}
use Rattle.intake.specs.declared.phases.Phase.TheVariants.{Answering, Gathering}
use Rattle.record_streams.proofs.Asking.{asked}
use Rattle.record_streams.proofs.Standing.{Holds, enters}

-- the answer to an entry, by its own fault or for coming after a question
entry-reply : (at : ℕ) (s : Stand) (x : Record) (r : Result Reply IntakeFault) → is_question x ≡ false → r ≡ entry_reply (refused_for at s x) → ReplyToRecord at s x r
entry-reply at s (Fuel f) r q e = e
entry-reply at s (UnitRecord u) r q e = e
entry-reply at s (Burn u) r q e = e
entry-reply at s (Strike k) r q e = e
entry-reply at s (Load l) r q e = e
entry-reply at s (Yearly p) r q e = e
entry-reply at s (Asked x) r q e = absurd (both_ways true q refl)

-- an entry that is looked at is put in, or leaves what stood
gathered-after : (s : Stand) (x : Record) (c : Book) (n : Methods) (o : Option Fault) → is_question x ≡ false → s.asked ≡ false → entry_fault s.gathered x ≡ o
    → (o ≡ None → Holds (put_in s.gathered x) c n) → ((f : Fault) → o ≡ Some f → Holds s.gathered c n) → Holds (after_record s x).gathered c n
gathered-after s x c n None q a e taken left = rw (q, a, e) (taken refl)
gathered-after s x c n (Some f) q a e taken left = rw (q, a, e) (left f refl)

-- a question is asked in both phases
question-asked : (a : Bool) (q : Question) (at : ℕ) (b c : Book) (m n : Methods) (r : Result Reply IntakeFault) → TakesRecord (phase_of a) at (Asked q) b c m n r → Questions AsksMethod q b c m n r
question-asked true q at b c m n r e = e
question-asked false q at b c m n r e = e

walk-promised : (b c : Book) → year_book (seen c) ≡ year_book (seen b) → coming c ≡ told_course (listed (year_book (seen b))) → Restarted c
walk-promised b c kept restarted = restarted ∙ ap (λ (p : Composition). told_course (listed p)) (sym kept)

module _ (at : ℕ) (s : Stand) (b c : Book) (m n : Methods) (r : Result Reply IntakeFault) (h : Holds s.gathered b m) where
  -- what follows of a record that was taken
  abbrev Follows : Record → Type 0
  Follows x = ReplyToRecord at s x r × Holds (after_record s x).gathered c n

  entry-gathered : (x : Record) → is_question x ≡ false → s.asked ≡ false → Gathers x b c m n r → Follows x
  entry-gathered x q a e =
      let k = enters s.gathered b c m n r h x q e in (
        entry-reply at s x r q (k.reply ∙ rw a refl),
        gathered-after s x c n (entry_fault s.gathered x) q a refl k.taken k.left,
      )

  entry-late : (x : Record) → is_question x ≡ false → s.asked ≡ true → Leaves b c m n r (Err (record { fault = new_fault AfterQuestion IntakeLayer at })) → Follows x
  entry-late x q a e = (
    entry-reply at s x r q (e.replied ∙ rw a refl),
    rw (q, a) (record { book = rw e.book h.book; groups = rw e.methods h.groups; pairs = rw e.methods h.pairs }),
  )

  entry-taken : (x : Record) (a : Bool) → is_question x ≡ false → s.asked ≡ a → TakesRecord (phase_of a) at x b c m n r → Follows x
  entry-taken x true q a e = entry-late x q a (subst (λ t. MatchBool t (Gathers x b c m n r) (Leaves b c m n r (Err (record { fault = new_fault AfterQuestion IntakeLayer at })))) q e)
  entry-taken x false q a e = entry-gathered x q a e

  record-taken : (x : Record) → TakesRecord (phase_of s.asked) at x b c m n r → Follows x
  record-taken (Fuel f) e = entry-taken (Fuel f) s.asked refl refl e
  record-taken (UnitRecord u) e = entry-taken (UnitRecord u) s.asked refl refl e
  record-taken (Burn u) e = entry-taken (Burn u) s.asked refl refl e
  record-taken (Strike k) e = entry-taken (Strike k) s.asked refl refl e
  record-taken (Load l) e = entry-taken (Load l) s.asked refl refl e
  record-taken (Yearly p) e = entry-taken (Yearly p) s.asked refl refl e
  record-taken (Asked q) e = asked s.gathered q b c m r h (question-asked s.asked q at b c m n r e)

  read-taken : (o : Option Record) → Takes (phase_of s.asked) at o b c m n r → ReplyToRead at s o r × Holds (after_read s o).gathered c n
  read-taken None e = (e.replied, record { book = rw e.book h.book; groups = rw e.methods h.groups; pairs = rw e.methods h.pairs })
  read-taken (Some x) e = record-taken x e

-- the phase after a record
phase-record : (q t a : Bool) (g : Gathered) (s : Stand) → s.asked ≡ a
    → cond q Answering (phase_of a) ≡ phase_of (cond q (record { gathered = s.gathered; asked = true }) (cond t (record { gathered = g; asked = s.asked }) s)).asked
phase-record true t a g s e = refl
phase-record false true a g s e = ap phase_of (sym e)
phase-record false false a g s e = ap phase_of (sym e)

phase-read : (s : Stand) (o : Option Record) → next_phase (phase_of s.asked) o ≡ phase_of (after_read s o).asked
phase-read s None = refl
phase-read s (Some x) = phase-record (is_question x) (accepts s x) s.asked (put_in s.gathered x) s refl

-- A piece that was taken is answered as the rules say, and leaves what they say.
pub fed : {before after : Intake} {b c : Book} {m n : Methods} {bytes : List ℕ} {r : Result Reply IntakeFault} → Taken before after b c m n bytes r
    → (s : Stand) (at : ℕ) → Stands s at before b m → ReplyTo at s bytes r × Stands (after_piece s bytes) (next_index at) after c n
fed {before} {after} {b} {c} {m} {n} {bytes} {r} t s at h =
    let took : Takes (phase_of s.asked) at (record_of bytes) b c m n r = rw h.phase at (rw h.index at t.took) in
    let k = read-taken at s b c m n r (record { book = h.book; groups = h.groups; pairs = h.pairs }) (record_of bytes) took in (
      k.0,
      record {
        index = t.index ∙ ap next_index h.index;
        phase = t.phase ∙ (ap (λ (f : Phase). next_phase f (record_of bytes)) h.phase ∙ phase-read s (record_of bytes));
        book = k.1.book;
        groups = k.1.groups;
        pairs = k.1.pairs;
      },
    )

-- ---- the walk of a book that stands at its start

walk-verdict : (b c : Book) (v : Result (Unit {0}) BookFault) → Changes b c v → Restarted b → Restarted c
walk-verdict b c (Ok x) e w = e.restarted
walk-verdict b c (Err f) e w = rw e.refusal w

walk-kind : (k : Option MethodKind) (q : Question) (b c : Book) (m : Methods) (r : Result Reply IntakeFault) → AsksKind AsksMethod k q m b c r → Restarted c
walk-kind None q b c m r e = e.restarted
walk-kind (Some Simple) q b c m r e = walk-promised b c e.promise.kept e.promise.restarted
walk-kind (Some Adjusted) q b c m r e = walk-promised b c e.promise.kept e.promise.restarted
walk-kind (Some Average) q b c m r e = walk-promised b c e.promise.kept e.promise.restarted

walk-gathered : (x : Record) (b c : Book) (m n : Methods) (r : Result Reply IntakeFault) → Gathers x b c m n r → Restarted b → Restarted c
walk-gathered (Fuel f) b c m n r e w = walk-verdict b c e.verdict e.entered.changes w
walk-gathered (UnitRecord u) b c m n r e w = walk-verdict b c e.verdict e.entered.changes w
walk-gathered (Burn u) b c m n r e w = walk-verdict b c e.verdict e.entered.changes w
walk-gathered (Strike k) b c m n r e w = walk-verdict b c e.verdict e.entered.changes w
walk-gathered (Load l) b c m n r e w = rw e.book w
walk-gathered (Yearly p) b c m n r e w = rw e.book w
walk-gathered (Asked q) b c m n r e w = walk-kind (numbered_method q.method) q b c m r e.asked

walk-late : (t : Bool) (x : Record) (f : Fault) (b c : Book) (m n : Methods) (r : Result Reply IntakeFault)
    → MatchBool t (Gathers x b c m n r) (Leaves b c m n r (Err (record { fault = f }))) → Restarted b → Restarted c
walk-late true x f b c m n r e w = walk-gathered x b c m n r e w
walk-late false x f b c m n r e w = rw e.book w

pub walk-taken : (phase : Phase) (at : ℕ) (o : Option Record) (b c : Book) (m n : Methods) (r : Result Reply IntakeFault) → Takes phase at o b c m n r → Restarted b → Restarted c
walk-taken phase at None b c m n r e w = rw e.book w
walk-taken Gathering at (Some x) b c m n r e w = walk-gathered x b c m n r e w
walk-taken Answering at (Some x) b c m n r e w = walk-late (is_question x) x (new_fault AfterQuestion IntakeLayer at) b c m n r e w
