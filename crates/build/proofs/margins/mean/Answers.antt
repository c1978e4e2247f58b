use Rattle.std.proofs.Common.{arith}
use Rattle.model.specs.Fraction.{ratio}
use Rattle.model.proofs.Rounding.{rounded-cap}
use Rattle.build.proofs.margins.mean.Goals as goal

pub overflow_cast-result : goal.overflow_cast-result
overflow_cast-result c =
    let q = c.in_ok-ratio.ratio in
    let made = rw c.in_ok-ratio.ensures.ok_part at c.new.ensures in
    omega (arith, rounded-cap (ratio q.num q.den) 10000000 q.real (omega (arith, made)), c.rounded.ensures.value)
