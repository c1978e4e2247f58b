use Rattle.std.proofs.Common.{arith}
use Rattle.method.specs.Pairs.{pairs_of}
use Rattle.method.proofs.Tallies.{apart_more, passed, ranged-more, room}
use Rattle.method.proofs.simples.Simple.enter.Goals as goal

pub push-requires : goal.push-requires
push-requires c =
    let m = c.args.self.now in
    (omega arith, room (pairs_of m) c.args.pair (passed (pairs_of m) c.args.pair c.in_ok-check.ensures) m.ranged m.apart)

pub invariant_of-self : goal.invariant_of-self
invariant_of-self c =
    let m = c.args.self.now in
    let h = passed (pairs_of m) c.args.pair c.in_ok-check.ensures in
    rw c.push.ensures.items (record { ranged = ranged-more (pairs_of m) c.args.pair h.ranged m.ranged; apart = apart_more (pairs_of m) c.args.pair h.apart m.apart })
