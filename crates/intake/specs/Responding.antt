-- The line that a piece of the stream is answered with.
use Rattle.std.specs.Prelude.{◌≡◌, ℕ, List, Some, None, Ok, Err, Option, Result}
use Rattle.book.specs.declared.books.Book.{Book}
use Rattle.model.specs.declared.answers.Reply.TheVariants.{Entered, Margin}
use Rattle.intake.specs.Alone.{Answer, AsksAlone, loads_alone, pairs_alone}
use Rattle.intake.specs.Taking.{Taken}
use Rattle.intake.specs.declared.averages.AverageAlone.{AverageAlone}
use Rattle.intake.specs.declared.averages.Feature.{Feature}
use Rattle.intake.specs.declared.lines.Line.{Line}
use Rattle.intake.specs.declared.lines.Line.TheVariants.{Margin as MarginLine, Refused}
use Rattle.intake.specs.declared.phases.Intake.{Intake}

-- An accepted entry has no line, a margin and a refusal have one.
abbrev pub line_of : Answer → Result (Option Line) Feature
line_of (Ok (Ok Entered)) = Ok None
line_of (Ok (Ok (Margin m))) = Ok (Some (MarginLine m))
line_of (Ok (Err f)) = Err f
line_of (Err f) = Ok (Some (Refused f))

-- The piece was taken, and r is the line for it.
pub record Responds (before after : Intake) (b c : Book) (bytes : List ℕ) (r : Result (Option Line) Feature) : Type 0 where
  pub methods : AverageAlone
  pub reply : Answer
  pub taken : Taken (Ok Entered) loads_alone pairs_alone AsksAlone before after b c methods methods bytes reply
  pub line : r ≡ line_of reply
