use Rattle.std.proofs.Common.{rules}
use Rattle.model.proofs.Merging.{joined-restarted}
use Rattle.layers.proofs.joins.Join.new.Goals as goal

pub returns-clause-coming : goal.returns-clause-coming
returns-clause-coming g c = search (rules, joined-restarted)
