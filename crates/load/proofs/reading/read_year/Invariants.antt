use Rattle.model.specs.LoadYears.{year_hours}
use Rattle.load.proofs.InOrder.{Read}
use Rattle.load.proofs.reading.read_year.Given as goal

abbrev pub invariant-loop-hour : goal.invariant-loop-hour
invariant-loop-hour g l = Read (g.L.LoadYear.year l.year) year_hours l.hour l.load-items
