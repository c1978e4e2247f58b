use Rattle.model.proofs.Rounding.{rounded-is-floor, rounding-laws}
use Rattle.model.proofs.facts.rounding_laws.Goals as goal

pub returns : goal.returns
returns c = record { floor = rounded-is-floor; laws = rounding-laws }
