use Rattle.std.proofs.Common.{◌+◌, ◌-◌, ◌^◌, min, get_or, ap, ◌∙◌, arith}
use Rattle.std.proofs.lemmas.List.Sums.{count_by_more_no, count_by_more_yes}
use Rattle.model.specs.LoadYears.{counts}
use Rattle.load.proofs.Counting.{below_more, never-reached, reached}
use Rattle.load.proofs.hours.low_cost_hours.Goals as goal

pub loop-load-preserved : goal.loop-load-preserved
loop-load-preserved c =
    let loads = c.args.loads.now in
    let own = get_or loads c.hour.own-index 0 in
    let step = c.saturating_add-below.ensures ∙ ap (λ n. min (c.loop-load.below + n) (2 ^ 64 - 1)) (c.from.ensures ∙ c.min.ensures) in
    (below_more loads own c.args.low_cost c.loop-load.load-index c.loop-load.below _ c.loop-load-test.true c.loop-load.invariant.0 step c.ranges.low_cost.fits c.if-below-low_cost.false, λ some. c.if-below-low_cost.false)

pub hour-preserved-then-below-low_cost : goal.hour-preserved-then-below-low_cost
hour-preserved-then-below-low_cost c =
    let loads = c.args.loads.now in
    let own = get_or loads c.hour.own-index 0 in
    let step = c.saturating_add-below.ensures ∙ ap (λ n. min (c.loop-load.below + n) (2 ^ 64 - 1)) (c.from.ensures ∙ c.min.ensures) in
    let high = reached loads own c.args.low_cost c.loop-load.load-index c.loop-load.below _ c.loop-load-test.true c.loop-load.invariant.0 step c.if-below-low_cost.true in
    omega (arith, c.hour.invariant, count_by_more_no (counts loads c.args.low_cost) loads c.hour.own-index 0 c.hour-test.true high)

pub hour-preserved : goal.hour-preserved
hour-preserved c =
    let loads = c.args.loads.now in
    let own = get_or loads c.hour.own-index 0 in
    let low = never-reached loads own c.args.low_cost c.loop-load.load-index c.loop-load.below c.loop-load-test.false c.loop-load.invariant.0 (c.loop-load.invariant.1 (omega arith)) in
    omega (arith, c.hour.invariant, count_by_more_yes (counts loads c.args.low_cost) loads c.hour.own-index 0 c.hour-test.true low)
