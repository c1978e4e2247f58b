use Rattle.std.proofs.Common.{rules}
use Rattle.intake.proofs.NoKind.{no-kind}
use Rattle.intake.proofs.decoding.decode.Goals as goal

pub returns-in_default : goal.returns-in_default
returns-in_default c = search (no-kind, rules)
