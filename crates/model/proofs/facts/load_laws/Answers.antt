use Rattle.model.proofs.LowCost.{load-laws}
use Rattle.model.proofs.facts.load_laws.Goals as goal

pub returns : goal.returns
returns c = load-laws
