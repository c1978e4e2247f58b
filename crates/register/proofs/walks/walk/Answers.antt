use Rattle.register.proofs.Folding.{caps}
use Rattle.register.proofs.walks.walk.Goals as goal

pub take_coming-walked-requires-clause-capped : goal.take_coming-walked-requires-clause-capped
take_coming-walked-requires-clause-capped g c = rw c.restart.ensures.coming (caps _ (g.met.R.Register.ranged c.args.register.now))
