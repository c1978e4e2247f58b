use Rattle.std.proofs.Common.{rules}
use Rattle.model.proofs.Rounding.{rounded-whole}
use Rattle.packed.proofs.records.unit.Goals as goal

pub returns : goal.returns
returns c = search (rules, rounded-whole)
