use Rattle.std.proofs.Common.{arith}
use Rattle.std.proofs.lemmas.List.{take_all}
use Rattle.std.proofs.lemmas.List.Sums.{sum_by_more_le}
use Rattle.model.specs.declared.records.YearlyPair.{YearlyPair}
use Rattle.method.specs.Pairs.{pairs_of}
use Rattle.method.proofs.Tallies.{sums-few}
use Rattle.method.proofs.simples.Simple.sums.Goals as goal

pub overflow_add-low_cost : goal.overflow_add-low_cost
overflow_add-low_cost c =
    let m = c.args.self.now in
    grind (arith, sums-few (pairs_of m) m.ranged m.apart, sum_by_more_le (λ (p : YearlyPair). p.low_cost), c.loop-pair.invariant)

pub overflow_add-all : goal.overflow_add-all
overflow_add-all c =
    let m = c.args.self.now in
    let few = rw (← c.deref-pair-items.ensures.0) at (sums-few (pairs_of m) m.ranged m.apart) in
    grind (arith, few, sum_by_more_le (λ (p : YearlyPair). p.all), c.loop-pair.invariant)

pub returns-clause-bound : goal.returns-clause-bound
returns-clause-bound c =
    let m = c.args.self.now in
    let few = rw (← c.deref-pair-items.ensures.0) at (sums-few (pairs_of m) m.ranged m.apart) in
    grind (arith, few, take_all c.loop-pair.pair-index c.deref-pair-items.result.now c.loop-pair-test.false, c.loop-pair.invariant)
