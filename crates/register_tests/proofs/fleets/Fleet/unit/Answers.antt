use Rattle.model.proofs.Rounding.{rounded-whole}
use Rattle.register_tests.proofs.fleets.Fleet.unit.Goals as goal

pub returns : goal.returns
returns c = rw (c.number.ensures, rounded-whole 50000)
