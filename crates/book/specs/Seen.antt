-- What a `Book` holds, and its life beside the plain book's.
use Rattle.std.specs.Prelude.{◌≡◌, List, [], ◌∷◌, ◌++◌, map, drop, IfOk, IfErr, vec_items, Result}
use Rattle.book.specs.declared.books.Book.{Book}
use Rattle.book.specs.Standing.{standing}
use Rattle.model.specs.declared.events.Event.{Event}
use Rattle.model.specs.declared.events.Event.TheVariants.{EnterBurn, EnterFuel, EnterUnit, Next, Packing, Question, Restart, Strike}
use Rattle.model.specs.declared.faults.BookFault.{BookFault}
use Rattle.model.specs.declared.units.PowerUnit.{PowerUnit}
use Rattle.model.specs.Course.{Course, tail, told_course}
use Rattle.model.specs.Plain.{Contents, Shows, after, book_course, verdict}

-- The fuels in order of entry and the units newest first.
abbrev pub seen : Book → Contents
seen b = record { fuels = vec_items b.fuels; units = map standing (vec_items b.units) }

-- The book holds what the journal leaves.
abbrev pub After : List Event → Book → Type 0
After journal b = Shows journal (seen b)

-- With the event v the book b becomes c, whatever journal led to b.
abbrev pub Lives : Event → Book → Book → Type 0
Lives v b c = (journal : List Event) → After journal b → After (journal ++ v ∷ []) c

-- The answer to the event v is the plain book's, whatever journal led to b.
abbrev pub Told : Event → Book → Result (Unit {0}) BookFault → Type 0
Told v b r = (journal : List Event) → After journal b → r ≡ verdict (after journal) v

-- The units still to come in the walk.
abbrev pub coming : Book → Course PowerUnit
coming b = told_course (book_course (drop b.at (seen b).units))

-- All units are still to come.
abbrev pub Restarted : Book → Type 0
Restarted b = coming b ≡ told_course (book_course (seen b).units)

-- Where an entry or a strike is accepted the walk begins again; where it is refused the book is as it stood.
pub record Changes (b c : Book) (r : Result (Unit {0}) BookFault) : Type 0 where
  pub restarted : IfOk r (λ _. Restarted c)
  pub refusal : IfErr r (λ _. c ≡ b)

-- What the event v answers, and what it makes of the book b.
pub record Entered (v : Event) (b c : Book) (r : Result (Unit {0}) BookFault) : Type 0 where
  pub answer : r ≡ verdict (seen b) v
  pub told : Told v b r
  pub life : Lives v b c
  pub changes : Changes b c r

-- Where the event v leaves the walk: `next` drops a unit, and all else restarts it, but what is refused changes nothing.
abbrev pub Walks : Event → Book → Book → Result (Unit {0}) BookFault → Type 0
Walks (EnterFuel f) b c r = Changes b c r
Walks (EnterUnit e) b c r = Changes b c r
Walks (EnterBurn e) b c r = Changes b c r
Walks (Strike k) b c r = Changes b c r
Walks Restart b c r = Restarted c
Walks Next b c r = (coming c).units ≡ tail (coming b).units
Walks Packing b c r = Restarted c
Walks Question b c r = Restarted c
