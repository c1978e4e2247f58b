use Rattle.std.proofs.lemmas.Result.{err_from_is_err_and}
use Rattle.model.specs.History.{listed}
use Rattle.build.proofs.Building.{mean-is}
use Rattle.build.proofs.margins.build_margin.Goals as goal

pub returns-in_err-margin-clause-answer : goal.returns-in_err-margin-clause-answer
returns-in_err-margin-clause-answer g c =
    let e = c.in_ok-cohort.ensures in
    let p = err_from_is_err_and c.from_residual-in_err-margin.result c.from_residual-in_err-margin.ensures.1 in
    rw (p.1, p.2)
    (mean-is c.args.reference.number (listed (g.R.Register.contents c.args.register.now)) (g.met.R.Register.ranged c.args.register.now)
    _ _ (rw c.number-day.ensures at e.answer) (rw (e.left.contents, c.number-day.ensures) at c.in_ok-sums.ensures.answer) _ c.in_err-margin.ensures)

pub returns-clause-answer : goal.returns-clause-answer
returns-clause-answer g c =
    let e = c.in_ok-cohort.ensures in
    mean-is c.args.reference.number (listed (g.R.Register.contents c.args.register.now)) (g.met.R.Register.ranged c.args.register.now)
    _ _ (rw c.number-day.ensures at e.answer) (rw (e.left.contents, c.number-day.ensures) at c.in_ok-sums.ensures.answer) _ c.in_ok-margin.ensures
