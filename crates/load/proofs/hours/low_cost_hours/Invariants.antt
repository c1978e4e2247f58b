use Rattle.std.proofs.Common.{◌≡◌, ◌<◌, min, take, sum_by, count_by}
use Rattle.model.specs.LoadYears.{counts}
use Rattle.load.proofs.hours.low_cost_hours.Given as goal

abbrev pub invariant-loop-load : goal.invariant-loop-load
invariant-loop-load l =
    (l.below ≡ sum_by (λ x. min x l.own) (take l.load-index l.loads))
    × (0 < l.load-index → l.below < l.low_cost)

abbrev pub invariant-hour : goal.invariant-hour
invariant-hour l = l.count ≡ count_by (counts l.loads l.low_cost) (take l.own-index l.loads)
