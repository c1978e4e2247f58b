use Rattle.model.specs.History.{listed}
use Rattle.method.proofs.Grouping.{sums-answer}
use Rattle.method.proofs.groups.group_sums.Goals as goal

pub returns-clause-answer : goal.returns-clause-answer
returns-clause-answer g c = sums-answer (listed (g.R.Register.contents c.args.register.now)) _ c.walk.new.fold c.in_ok-walk.ensures.answer c.in_ok-walk.ensures.folded
