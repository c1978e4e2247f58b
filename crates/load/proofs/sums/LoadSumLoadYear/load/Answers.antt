use Rattle.std.proofs.Common.{arith}
use Rattle.load.specs.Ranging.{answered-cap}
use Rattle.load.proofs.sums.LoadSumLoadYear.load.Goals as goal

pub overflow_add-sum : goal.overflow_add-sum
overflow_add-sum g c =
    let first = answered-cap _ c.in_ok-first.first (g.met.A.LoadYear.ranged c.args.self.now.first c.args.hour) c.in_ok-first.ensures in
    let second = answered-cap _ c.in_ok-second.second (g.met.B.LoadYear.ranged c.args.self.now.second c.args.hour) c.in_ok-second.ensures in
    omega arith
