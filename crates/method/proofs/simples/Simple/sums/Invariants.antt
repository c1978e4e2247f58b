use Rattle.std.proofs.Common.{◌≡◌, take, sum_by}
use Rattle.method.proofs.simples.Simple.sums.Given as goal

abbrev pub invariant-loop-pair : goal.invariant-loop-pair
invariant-loop-pair l =
    (l.low_cost ≡ sum_by (λ p. p.low_cost) (take l.pair-index l.pair-items))
    × (l.all ≡ sum_by (λ p. p.all) (take l.pair-index l.pair-items))
