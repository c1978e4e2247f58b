-- An intake with its book and its methods, beside what the rules say of a whole stream.
use Rattle.std.specs.Prelude.{◌≡◌, ℕ, Bool, true, false, List, Result}
use Rattle.book.specs.Seen.{Restarted, seen}
use Rattle.book.specs.declared.books.Book.{Book}
use Rattle.model.specs.LoadYears.{year_hours, group_year}
use Rattle.model.specs.Plain.{Shows}
use Rattle.model.specs.Records.{pieces_of}
use Rattle.model.specs.Streams.{Replies, Stand, after_all, index_after}
use Rattle.model.specs.declared.answers.Reply.{Reply}
use Rattle.model.specs.declared.faults.IntakeFault.{IntakeFault}
use Rattle.record_streams.specs.Taking.{pairs_in, year_in}
use Rattle.record_streams.specs.declared.methods.Methods.{Methods}
use Rattle.intake.specs.declared.phases.Intake.{Intake}
use Rattle.intake.specs.declared.phases.Phase.{Phase}
use Rattle.intake.specs.declared.phases.Phase.TheVariants.{Answering, Gathering}

abbrev pub phase_of : Bool → Phase
phase_of true = Answering
phase_of false = Gathering

-- Intake, book and methods hold what stands, and the next record has the index `at`.
pub record Stands (s : Stand) (at : ℕ) (intake : Intake) (b : Book) (m : Methods) : Type 0 where
  pub index : intake.index ≡ at
  pub phase : intake.phase ≡ phase_of s.asked
  pub book : Shows s.gathered.journal (seen b)
  pub groups : year_in m ≡ group_year year_hours s.gathered.groups
  pub pairs : pairs_in m ≡ s.gathered.pairs

-- What a stream is answered with, and what it leaves, whatever stood before it.
pub record Feeds (before after : Intake) (b c : Book) (m n : Methods) (stream : List ℕ) (rs : List (Result Reply IntakeFault)) : Type 0 where
  pub replies : (s : Stand) (at : ℕ) → Stands s at before b m → Replies at s (pieces_of stream) rs
  pub stands : (s : Stand) (at : ℕ) → Stands s at before b m → Stands (after_all s (pieces_of stream)) (index_after at (pieces_of stream)) after c n
  -- Something stood before it.
  pub some : ∥ ((s : Stand) × (at : ℕ) × Stands s at before b m) ∥₁
  -- A book that is at the start of its walk stays there.
  pub walk : Restarted b → Restarted c
