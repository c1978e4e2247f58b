use Rattle.model.proofs.Merging.{joined-restarted}
use Rattle.layers.proofs.joins.JoinRegister.restart.Goals as goal

pub returns-clause-coming : goal.returns-clause-coming
returns-clause-coming g c = joined-restarted _ _ c.restart.ensures.coming c.restart-2.ensures.coming
