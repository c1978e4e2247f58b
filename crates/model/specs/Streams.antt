-- Streams of records: what each piece of a stream is answered with, and what a stream leaves.
-- Entries are gathered until the first question, and from then on only questions are answered.
use Rattle.std.specs.Prelude.{◌≡◌, ℕ, ◌+◌, min, Bool, true, false, cond, not, ◌&&◌, List, [], ◌∷◌, ◌++◌, is_some, Some, None, Ok, Err, fold, Option, Result}
use Rattle.model.specs.declared.answers.CombinedMargin.{CombinedMargin}
use Rattle.model.specs.declared.answers.Reply.{Reply}
use Rattle.model.specs.declared.answers.Reply.TheVariants.{Entered, Margin}
use Rattle.model.specs.declared.events.Event.{Event}
use Rattle.model.specs.declared.events.Event.TheVariants.{EnterBurn, EnterFuel, EnterUnit, Strike as StrikeUnit}
use Rattle.model.specs.declared.faults.BookFault.{BookFault}
use Rattle.model.specs.declared.faults.CombinedFault.{CombinedFault}
use Rattle.model.specs.declared.faults.Fault.{Fault}
use Rattle.model.specs.declared.faults.IntakeFault.{IntakeFault}
use Rattle.model.specs.declared.faults.Layer.TheVariants.{Combined, Intake}
use Rattle.model.specs.declared.faults.Rule.TheVariants.{AfterQuestion, NoSuchDay, OutOfRange, ShortOrForeignRecord}
use Rattle.model.specs.declared.records.LoadGroup.{LoadGroup}
use Rattle.model.specs.declared.records.MethodKind.{MethodKind}
use Rattle.model.specs.declared.records.MethodKind.TheVariants.{Adjusted, Average, Simple}
use Rattle.model.specs.declared.records.Question.{Question}
use Rattle.model.specs.declared.records.Record.{Record}
use Rattle.model.specs.declared.records.Record.TheVariants.{Burn, Fuel, Load, Question as Asked, Strike, Unit as UnitRecord, Yearly}
use Rattle.model.specs.declared.records.YearlyPair.{YearlyPair}
use Rattle.model.specs.Calendar.{is_day}
use Rattle.model.specs.Course.{told_course}
use Rattle.model.specs.Faults.{new_fault, unless_refused}
use Rattle.model.specs.History.{year_book}
use Rattle.model.specs.LoadYears.{year_hours, group_fault, group_year}
use Rattle.model.specs.Methods.{average_answer, average_meaning, simple_answer}
use Rattle.model.specs.Operating.{adjusted_answer, adjusted_meaning, pair_fault, simple_meaning}
use Rattle.model.specs.Plain.{Contents, Shows, after, book_course, verdict}
use Rattle.model.specs.Promise.{Promise}
use Rattle.model.specs.Records.{numbered_method, record_of}
use Rattle.model.specs.Shares.{Verdict}
use Rattle.model.specs.Units.{Listed}

-- ---- what is gathered

-- The accepted entries and strikes of the year book, the accepted groups of loads and the accepted yearly pairs, each in order.
pub record Gathered : Type 0 where
  pub journal : List Event
  pub groups : List LoadGroup
  pub pairs : List YearlyPair

-- What stands after a stream: what was gathered, and whether a question came.
pub record Stand : Type 0 where
  pub gathered : Gathered
  pub asked : Bool

-- before the first record
abbrev pub beginning : Stand
beginning = record { gathered = record { journal = []; groups = []; pairs = [] }; asked = false }

abbrev pub refusal_of : Result (Unit {0}) BookFault → Option Fault
refusal_of (Ok x) = None
refusal_of (Err f) = Some f.fault

-- what refuses an event of the year book, by the plain book
abbrev pub event_fault : Gathered → Event → Option Fault
event_fault g v = refusal_of (verdict (after g.journal) v)

-- What refuses an entry, by what was gathered. (A question is no entry.)
abbrev pub entry_fault : Gathered → Record → Option Fault
entry_fault g (Fuel f) = event_fault g (EnterFuel f)
entry_fault g (UnitRecord e) = event_fault g (EnterUnit e)
entry_fault g (Burn e) = event_fault g (EnterBurn e)
entry_fault g (Strike c) = event_fault g (StrikeUnit c)
entry_fault g (Load l) = group_fault year_hours g.groups l
entry_fault g (Yearly p) = pair_fault g.pairs p
entry_fault g (Asked q) = None

abbrev pub with_event : Gathered → Event → Gathered
with_event g v = record { journal = g.journal ++ v ∷ []; groups = g.groups; pairs = g.pairs }

-- The entry is put in.
abbrev pub put_in : Gathered → Record → Gathered
put_in g (Fuel f) = with_event g (EnterFuel f)
put_in g (UnitRecord e) = with_event g (EnterUnit e)
put_in g (Burn e) = with_event g (EnterBurn e)
put_in g (Strike c) = with_event g (StrikeUnit c)
put_in g (Load l) = record { journal = g.journal; groups = g.groups ++ l ∷ []; pairs = g.pairs }
put_in g (Yearly p) = record { journal = g.journal; groups = g.groups; pairs = g.pairs ++ p ∷ [] }
put_in g (Asked q) = g

abbrev pub is_question : Record → Bool
is_question (Fuel f) = false
is_question (UnitRecord e) = false
is_question (Burn e) = false
is_question (Strike c) = false
is_question (Load l) = false
is_question (Yearly p) = false
is_question (Asked q) = true

-- What refuses a record that is no question: after a question its coming at all, told with its index; before one the entry's own fault.
abbrev pub refused_for : ℕ → Stand → Record → Option Fault
refused_for at s x = cond s.asked (Some (new_fault AfterQuestion Intake at)) (entry_fault s.gathered x)

-- The record is an entry that is accepted.
abbrev pub accepts : Stand → Record → Bool
accepts s x = not (is_question x) && (not s.asked && not (is_some (entry_fault s.gathered x)))

-- What a record leaves: a question ends the gathering, an accepted entry is put in, and a refused one leaves what stood.
abbrev pub after_record : Stand → Record → Stand
after_record s x =
    cond (is_question x) (record { gathered = s.gathered; asked = true })
    (cond (accepts s x) (record { gathered = put_in s.gathered x; asked = s.asked }) s)

abbrev pub after_read : Stand → Option Record → Stand
after_read s None = s
after_read s (Some x) = after_record s x

-- What a piece of the stream leaves.
abbrev pub after_piece : Stand → List ℕ → Stand
after_piece s bytes = after_read s (record_of bytes)

-- What a stream leaves, piece by piece.
abbrev pub after_all : Stand → List (List ℕ) → Stand
after_all s ps = fold after_piece s ps

-- ---- what is answered

-- The fault as the intake hands it on.
abbrev pub refused : {A : Type 0} → Fault → Result A IntakeFault
refused f = Err (record { fault = f })

abbrev pub margin_reply : Result CombinedMargin CombinedFault → Result Reply IntakeFault
margin_reply (Ok m) = Ok (Margin m)
margin_reply (Err f) = refused f.fault

-- The whole promise of the combined margin at what the year book holds, and the answer handed on.
pub record Promised (meaning : List Listed → Verdict) (may : List Listed → ℕ → Type 0) (distance : ℕ) (alone : Bool) (q : Question) (p : Contents) (r : Result Reply IntakeFault) : Type 0 where
  pub answer : Result CombinedMargin CombinedFault
  pub promise : Promise meaning may distance alone q.operating_weight q.build_weight q.reference (year_book p) (year_book p) (told_course (book_course p.units)) answer
  pub replied : r ≡ margin_reply answer

-- A question by one of the methods, each with what was gathered for it.
abbrev pub PromisedBy : MethodKind → Gathered → Question → Contents → Result Reply IntakeFault → Type 0
PromisedBy Simple g q p r = Promised (simple_meaning g.pairs) (λ us a. a ≡ simple_answer us) 2 false q p r
PromisedBy Adjusted g q p r = Promised (adjusted_meaning year_hours (group_year year_hours g.groups)) (λ us a. a ≡ adjusted_answer year_hours (group_year year_hours g.groups) us) 3 false q p r
PromisedBy Average g q p r = Promised average_meaning (λ us a. a ≡ average_answer us) 2 true q p r

-- A method byte that names no method is refused, but the reference day is looked at before it.
abbrev pub no_method : Question → Result Reply IntakeFault
no_method q = cond (is_day q.reference) (refused (new_fault OutOfRange Intake 0)) (refused (new_fault NoSuchDay Combined 0))

-- What a question is answered with: its promise at whatever the book holds after the gathered journal, which is one thing alone.
abbrev pub AnswerBy : Option MethodKind → Gathered → Question → Result Reply IntakeFault → Type 0
AnswerBy None g q r = r ≡ no_method q
AnswerBy (Some kind) g q r = (p : Contents) → Shows g.journal p → PromisedBy kind g q p r

abbrev pub entry_reply : Option Fault → Result Reply IntakeFault
entry_reply f = unless_refused (λ e. record { fault = e }) f Entered

abbrev pub ReplyToRecord : ℕ → Stand → Record → Result Reply IntakeFault → Type 0
ReplyToRecord at s (Fuel f) r = r ≡ entry_reply (refused_for at s (Fuel f))
ReplyToRecord at s (UnitRecord e) r = r ≡ entry_reply (refused_for at s (UnitRecord e))
ReplyToRecord at s (Burn e) r = r ≡ entry_reply (refused_for at s (Burn e))
ReplyToRecord at s (Strike c) r = r ≡ entry_reply (refused_for at s (Strike c))
ReplyToRecord at s (Load l) r = r ≡ entry_reply (refused_for at s (Load l))
ReplyToRecord at s (Yearly p) r = r ≡ entry_reply (refused_for at s (Yearly p))
ReplyToRecord at s (Asked q) r = AnswerBy (numbered_method q.method) s.gathered q r

abbrev pub ReplyToRead : ℕ → Stand → Option Record → Result Reply IntakeFault → Type 0
ReplyToRead at s None r = r ≡ refused (new_fault ShortOrForeignRecord Intake at)
ReplyToRead at s (Some x) r = ReplyToRecord at s x r

-- What the piece with the index `at` is answered with, by what stands before it.
abbrev pub ReplyTo : ℕ → Stand → List ℕ → Result Reply IntakeFault → Type 0
ReplyTo at s bytes r = ReplyToRead at s (record_of bytes) r

-- The index of the record after: it stays at its greatest value.
abbrev pub next_index : ℕ → ℕ
next_index at = min (at + 1) 4294967295

abbrev pub index_after : ℕ → List (List ℕ) → ℕ
index_after at ps = fold (λ n _. next_index n) at ps

-- What the pieces of a stream are answered with, one after another.
abbrev pub Replies : ℕ → Stand → List (List ℕ) → List (Result Reply IntakeFault) → Type 0
Replies at s [] [] = Unit {0}
Replies at s [] (r ∷ rs) = ⊥
Replies at s (p ∷ ps) [] = ⊥
Replies at s (p ∷ ps) (r ∷ rs) = ReplyTo at s p r × Replies (next_index at) (after_piece s p) ps rs

-- ---- laws over whole streams

-- a record before others, where it is accepted
abbrev pub if_accepted : Stand → Option Record → List Record → List Record
if_accepted s None later = later
if_accepted s (Some x) later = cond (accepts s x) (x ∷ later) later

-- The accepted entries of a stream, in order.
abbrev pub accepted : Stand → List (List ℕ) → List Record
accepted s [] = []
accepted s (p ∷ ps) = if_accepted s (record_of p) (accepted (after_piece s p) ps)

pub record StreamLaws : Type 0 where
  -- What a stream gathers is what its accepted entries make, put in one after another.
  pub entries : (s : Stand) (ps : List (List ℕ)) → (after_all s ps).gathered ≡ fold put_in s.gathered (accepted s ps)
  -- After a question no record changes anything.
  pub ended : (s : Stand) (ps : List (List ℕ)) → s.asked ≡ true → after_all s ps ≡ s
  -- A record that is refused might as well not have come, but for the index of those after it; a question, refused or not, ends the gathering.
  pub foreign : (s : Stand) (bytes : List ℕ) → record_of bytes ≡ None → after_piece s bytes ≡ s
  pub refusals : (s : Stand) (bytes : List ℕ) (x : Record) (at : ℕ) (f : Fault) → record_of bytes ≡ Some x → is_question x ≡ false → refused_for at s x ≡ Some f → after_piece s bytes ≡ s
