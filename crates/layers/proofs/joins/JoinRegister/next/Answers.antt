use Rattle.std.proofs.Common.{rules}
use Rattle.model.proofs.Merging.{merged-alone}
use Rattle.layers.proofs.joins.JoinRegister.next.Goals as goal

pub returns-in-Some-default : goal.returns-in-Some-default
returns-in-Some-default g c = search (rules, merged-alone)
