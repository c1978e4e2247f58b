use Rattle.std.proofs.Common.{◌≡◌, sum_by, arith, rules}
use Rattle.std.proofs.lemmas.List.Sums.{sum_by-le}
use Rattle.model.specs.Units.{burned}
use Rattle.book.proofs.Bounds.{burned-le}
use Rattle.book.proofs.standing.StandingUnit.burned.Goals as goal

pub returns-clause-bound : goal.returns-clause-bound
returns-clause-bound c =
    let bs = c.burns.result.now in
    let is : c.sum.result ≡ sum_by burned bs = search rules in
    let most = sum_by-le burned 320000000000000000 bs (λ k d l. burned-le _ (c.burns.ensures.fits k d l)) in
    omega (arith, is, most, c.burns.ensures.few)
