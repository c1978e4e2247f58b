-- The life of a year book: what each call answers, by the plain book, and what it leaves.
use Rattle.std.specs.Prelude.{◌≡◌, ℕ, Bool, cond, List, [], ◌∷◌, ◌++◌, length, is_ok, Ok, Result}
use Rattle.book.specs.Seen.{coming, seen}
use Rattle.book.specs.declared.books.Book.{Book}
use Rattle.life.specs.declared.calls.Answer.{Answer}
use Rattle.life.specs.declared.calls.Answer.TheVariants.{Entered, Margin, Packed, Told}
use Rattle.life.specs.declared.calls.Call.{Call}
use Rattle.life.specs.declared.calls.Call.TheVariants.{Ask, EnterBurn, EnterFuel, EnterUnit, Next, Pack, Restart, Strike}
use Rattle.model.specs.Course.{Course, answered, tail, told_course}
use Rattle.model.specs.History.{year_book}
use Rattle.model.specs.Packed.{packed_buffer, packing_answer}
use Rattle.model.specs.Plain.{Contents, Shows, after, book_course, empty, verdict}
use Rattle.model.specs.Promise.{Promise}
use Rattle.model.specs.Shares.{Verdict}
use Rattle.model.specs.Units.{Listed}
use Rattle.model.specs.declared.answers.CombinedMargin.{CombinedMargin}
use Rattle.model.specs.declared.events.Event.{Event}
use Rattle.model.specs.declared.events.Event.TheVariants.{EnterBurn as BurnEvent, EnterFuel as FuelEvent, EnterUnit as UnitEvent, Next as NextEvent, Packing, Question, Restart as RestartEvent, Strike as StrikeEvent}
use Rattle.model.specs.declared.faults.CombinedFault.{CombinedFault}
use Rattle.model.specs.declared.units.PowerUnit.{PowerUnit}

-- The event of the plain book that a call is.
abbrev pub event_of : Call → Event
event_of (EnterFuel f) = FuelEvent f
event_of (EnterUnit e) = UnitEvent e
event_of (EnterBurn e) = BurnEvent e
event_of (Strike c) = StrikeEvent c
event_of Restart = RestartEvent
event_of Next = NextEvent
event_of Pack = Packing
event_of (Ask w d) = Question

-- What a book holds, what its walk has still to come, and the buffer beside it.
pub record State : Type 0 where
  pub contents : Contents
  pub coming : Course PowerUnit
  pub buffer : List ℕ

abbrev pub state : Book → List ℕ → State
state b bytes = record { contents = seen b; coming = coming b; buffer = bytes }

-- the whole list of a book, as it is told
abbrev pub whole : Contents → Course PowerUnit
whole p = told_course (book_course p.units)

-- A new book beside the buffer.
abbrev pub start : List ℕ → State
start bytes = record { contents = empty; coming = whole empty; buffer = bytes }

-- An entry or strike: answered as the plain book answers it, whatever journal led here; the walk begins again where it is accepted.
pub record Enters (v : Event) (s t : State) (a : Answer) : Type 0 where
  pub answer : (journal : List Event) → Shows journal s.contents → a ≡ Entered (verdict (after journal) v)
  pub coming : t.coming ≡ cond (is_ok (verdict s.contents v)) (whole t.contents) s.coming
  pub buffer : t.buffer ≡ s.buffer

-- the whole list is still to come
pub record Restarts (s t : State) (a : Answer) : Type 0 where
  pub answer : a ≡ Entered (Ok tt)
  pub coming : t.coming ≡ whole s.contents
  pub buffer : t.buffer ≡ s.buffer

-- the first unit still to come, which is then dropped
pub record Tells (s t : State) (a : Answer) : Type 0 where
  pub answer : a ≡ Told (answered s.coming.units s.coming.ending)
  pub coming : t.coming ≡ record { units = tail s.coming.units; ending = s.coming.ending }
  pub buffer : t.buffer ≡ s.buffer

-- A packing of the whole list into the buffer.
pub record Packs (s t : State) (a : Answer) : Type 0 where
  pub answer : a ≡ Packed (packing_answer (book_course s.contents.units) (length s.buffer))
  pub coming : t.coming ≡ whole s.contents
  pub buffer : t.buffer ≡ packed_buffer (packing_answer (book_course s.contents.units) (length s.buffer)) (book_course s.contents.units) s.buffer

-- Questions are asked by one method, which is known by what it means.
module _ (meaning : List Listed → Verdict) (may : List Listed → ℕ → Type 0) (distance : ℕ) (alone : Bool) where
  -- A question: the whole promise of the combined margin at what the book holds.
  pub record Asks (wom wbm reference : ℕ) (s t : State) (a : Answer) : Type 0 where
    pub result : Result CombinedMargin CombinedFault
    pub answer : a ≡ Margin result
    pub promise : Promise meaning may distance alone wom wbm reference (year_book s.contents) (year_book t.contents) t.coming result
    pub buffer : t.buffer ≡ s.buffer

  abbrev pub Answers : Call → State → State → Answer → Type 0
  Answers (EnterFuel f) s t a = Enters (FuelEvent f) s t a
  Answers (EnterUnit e) s t a = Enters (UnitEvent e) s t a
  Answers (EnterBurn e) s t a = Enters (BurnEvent e) s t a
  Answers (Strike c) s t a = Enters (StrikeEvent c) s t a
  Answers Restart s t a = Restarts s t a
  Answers Next s t a = Tells s t a
  Answers Pack s t a = Packs s t a
  Answers (Ask w d) s t a = Asks w.operating w.build d s t a

  -- One call: after any journal that led here, the book is as after that journal and the call's event; and the answer is the promised one.
  pub record Step (c : Call) (s t : State) (a : Answer) : Type 0 where
    pub life : (journal : List Event) → Shows journal s.contents → Shows (journal ++ event_of c ∷ []) t.contents
    pub answers : Answers c s t a

  -- One call after another.
  abbrev pub Run : List Call → State → List Answer → State → Type 0
  Run [] s [] t = s ≡ t
  Run [] s (a ∷ more) t = ⊥
  Run (c ∷ cs) s [] t = ⊥
  Run (c ∷ cs) s (a ∷ more) t = (m : State) × Step c s m a × Run cs m more t
