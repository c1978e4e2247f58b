use Rattle.std.proofs.Common.{ok_or, ◌∙◌}
use Rattle.model.specs.History.{listed}
use Rattle.method.proofs.Meeting.{average-meets}
use Rattle.method.proofs.averages.AverageMethod.operating_margin.Goals as goal

pub returns-clause-answer : goal.returns-clause-answer
returns-clause-answer g c =
    average-meets (listed (g.R.Register.contents c.args.register.now)) (c.in_ok-low_cost.low_cost, c.in_ok-low_cost.other) c.in_ok-low_cost.ensures.answer _
    (c.ok_or.ensures.value ∙ (λ i. ok_or (c.mean.ensures.value i) (c.no_share.ensures i)))
