use Rattle.model.specs.History.{listed}
use Rattle.build.proofs.Adding.{walk-adds}
use Rattle.build.proofs.members.walk_members.Goals as goal

pub returns-clause-answer : goal.returns-clause-answer
returns-clause-answer g c =
    let e = c.in_ok-walk.ensures in
    (walk-adds c.args.reference c.args.cohort (λ f. record { fault = f }) (listed (g.R.Register.contents c.args.register.now)) _ c.walk.new.fold e.answer e.folded e.fits).0
