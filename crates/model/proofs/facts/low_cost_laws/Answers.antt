use Rattle.model.proofs.LowCost.{low-cost-hours-grow, lower-count-first, not-every-hour-counts}
use Rattle.model.proofs.facts.low_cost_laws.Goals as goal

pub returns : goal.returns
returns c = record { lower = lower-count-first; grow = low-cost-hours-grow; some_above = not-every-hour-counts }
