-- Theorems on the year book.
use Rattle.std.specs.Prelude.{◌≡◌, List}
use Rattle.model.specs.declared.events.Event.{Event}
use Rattle.model.specs.Plain.{Contents, Shows}

-- A journal pins what a year book holds, the order of its units too.
abbrev pub OneContents : Type 0
OneContents = (journal : List Event) (p q : Contents) → Shows journal p → Shows journal q → p ≡ q
