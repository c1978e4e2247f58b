use Rattle.std.proofs.Common.{Err, ap, ◌∙◌, arith}
use Rattle.std.proofs.lemmas.Result.{err_from_is_err_and}
use Rattle.model.specs.LoadYears.{year_hours}
use Rattle.load.proofs.InOrder.{read_all, read-fault, read_more}
use Rattle.load.proofs.reading.read_year.Goals as goal

pub returns-in_err-load : goal.returns-in_err-load
returns-in_err-load g c =
    let e = err_from_is_err_and c.from_residual.result c.from_residual.ensures.1 in
    e.1 ∙ ap Err e.2 ∙ read-fault (g.L.LoadYear.year c.args.year.now) year_hours c.loop-hour.hour c.loop-hour.load-items _ (omega arith) c.loop-hour.invariant c.in_err-load.ensures

pub loop-hour-preserved : goal.loop-hour-preserved
loop-hour-preserved g c = read_more (g.L.LoadYear.year c.args.year.now) year_hours c.loop-hour.hour _ c.loop-hour.load-items (omega arith) c.loop-hour.invariant c.in_ok-load.ensures

pub returns : goal.returns
returns g c = read_all (g.L.LoadYear.year c.args.year.now) year_hours c.loop-hour.hour c.loop-hour.load-items (omega arith) c.loop-hour.invariant
