use Rattle.model.specs.History.{listed}
use Rattle.build.proofs.Running.{walk-counts}
use Rattle.build.proofs.runs.walk_run.Goals as goal

pub returns-clause-answer : goal.returns-clause-answer
returns-clause-answer g c =
    let e = c.in_ok-walk.ensures in
    (walk-counts c.args.reference c.args.quota (λ f. record { fault = f }) (listed (g.R.Register.contents c.args.register.now)) _ c.walk.new.fold e.answer e.folded e.fits).0
