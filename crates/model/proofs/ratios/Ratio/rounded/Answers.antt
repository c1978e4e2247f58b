use Rattle.std.proofs.Common.{sym, arith}
use Rattle.model.specs.Fraction.{ratio}
use Rattle.model.specs.Rounding.{RoundsTo}
use Rattle.model.proofs.Rounding.{rounded-is}
use Rattle.model.proofs.ratios.Ratio.rounded.Goals as goal

pub returns-then-rest-self : goal.returns-then-rest-self
returns-then-rest-self c =
    let q = c.args.self.now in
    let r : RoundsTo (ratio q.num q.den) _ = record { low = omega (arith, q.real); high = omega (arith, q.real) } in
    record { value = sym (rounded-is _ _ r); rounds = r }

pub returns-else-rest-self : goal.returns-else-rest-self
returns-else-rest-self c =
    let q = c.args.self.now in
    let r : RoundsTo (ratio q.num q.den) _ = record { low = omega (arith, q.real); high = omega (arith, q.real) } in
    record { value = sym (rounded-is _ _ r); rounds = r }
