use Rattle.model.proofs.Agreeing.{methods-agree}
use Rattle.model.proofs.facts.methods_agree.Goals as goal

pub returns : goal.returns
returns c = methods-agree
