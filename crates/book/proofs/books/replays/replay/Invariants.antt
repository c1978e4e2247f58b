use Rattle.std.proofs.Common.{take}
use Rattle.book.specs.Seen.{After}
use Rattle.book.proofs.books.replays.replay.Given as goal

abbrev pub invariant-loop-event : goal.invariant-loop-event
invariant-loop-event l = After (take l.event-index l.journal) l.book
