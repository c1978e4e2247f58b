-- What a register is made of, and the journals of the year books in it.
use Rattle.std.specs.Prelude.{◌≡◌, List}
use Rattle.std.specs.List.Sorted.{IsPermutation}
use Rattle.model.specs.declared.events.Event.{Event}
use Rattle.model.specs.Course.{Course, told_course}
use Rattle.model.specs.Merge.{ImportOf, imported, merged_course, with_last}
use Rattle.model.specs.Plain.{Contents, Ordered, Reached, Shows, after, book_course}
use Rattle.model.specs.Units.{Listed, Standing}
use Rattle.model.specs.declared.units.PowerUnit.{PowerUnit}

-- What a register is made of: year books, joins and imports, or any other kind of register, of which nothing is known but its list and how that ends.
pub data Composition : Type 0 where
  foreign : Course Listed → Composition
  year_book : Contents → Composition
  join : Composition → Composition → Composition
  import : Composition → ImportOf → Composition

-- The whole list of a register, exact, and how it ends.
abbrev pub listed : Composition → Course Listed
listed (foreign c) = c
listed (year_book p) = book_course p.units
listed (join a b) = merged_course (λ (u : Listed). u.day) (listed a) (listed b)
listed (import a i) = with_last (imported i) (listed a)

-- Each year book inside is one after some journal.
abbrev pub Alive : Composition → Type 0
Alive (foreign c) = Unit {0}
Alive (year_book p) = Reached p
Alive (join a b) = Alive a × Alive b
Alive (import a i) = Alive a

-- A journal for each year book of a register.
pub data History : Type 0 where
  elsewhere : Course Listed → History
  journal : List Event → History
  joined : History → History → History
  imports : History → ImportOf → History

-- Each year book holds what its own journal leaves.
abbrev pub Lived : History → Composition → Type 0
Lived (elsewhere c) p = p ≡ foreign c
Lived (journal es) p = (b : Contents) × (p ≡ year_book b) × Shows es b
Lived (joined h k) p = (a : Composition) × (b : Composition) × (p ≡ join a b) × Lived h a × Lived k b
Lived (imports h i) p = (a : Composition) × (p ≡ import a i) × Lived h a

-- The course is exactly that of the plain books after their journals: their units in order; merged; with one unit more.
unfoldable pub Told : History → Course Listed → Type 0
Told (elsewhere c) d = d ≡ c
Told (journal es) d = (us : List Standing) × IsPermutation (after es).units us × Ordered us × (d ≡ book_course us)
Told (joined h k) d = (a : Course Listed) × (b : Course Listed) × Told h a × Told k b × (d ≡ merged_course (λ (u : Listed). u.day) a b)
Told (imports h i) d = (a : Course Listed) × Told h a × (d ≡ with_last (imported i) a)

-- A history pins the course.
abbrev pub OneCourse : Type 0
OneCourse = (h : History) (c d : Course Listed) → Told h c → Told h d → c ≡ d

-- What a register lists is what its history tells.
abbrev pub Carried : Type 0
Carried = (h : History) (p : Composition) → Lived h p → Told h (listed p)

-- Some history led to the register.
abbrev pub SomeHistory : Composition → Type 0
SomeHistory p = ∥ ((h : History) × Lived h p) ∥₁

-- What a walk leaves of a register, refused or not: all that it is made of, and the whole list still to come.
pub record Rewound (before after : Composition) (coming : Course PowerUnit) : Type 0 where
  pub contents : after ≡ before
  pub restarted : coming ≡ told_course (listed before)
