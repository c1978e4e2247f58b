use Rattle.std.proofs.Common.{◌<◌, length, refl, ap, arith}
use Rattle.std.proofs.lemmas.List.{length-take, take_more_set}
use Rattle.std.proofs.lemmas.List.Elements.{All-set}
use Rattle.book.specs.Burns.{Fits}
use Rattle.book.specs.Standing.{standing}
use Rattle.book.proofs.Tables.{capped-more}
use Rattle.book.proofs.standing.StandingUnit.add_burn.Goals as goal

pub invariant_of-self-clause-few : goal.invariant_of-self-clause-few
invariant_of-self-clause-few c = let u = c.args.self.now in omega (arith, length-take u.count u.burns, c.requires.room)

pub invariant_of-self-clause-fitting : goal.invariant_of-self-clause-fitting
invariant_of-self-clause-fitting c = let u = c.args.self.now in All-set Fits u.burns u.count c.args.burn c.requires.fits u.fitting

pub invariant_of-self-clause-capped : goal.invariant_of-self-clause-capped
invariant_of-self-clause-capped c =
    let u = c.args.self.now in
    let l : u.count < length u.burns = omega (arith, length-take u.count u.burns, c.requires.room) in
    capped-more (standing u) u.burns u.count c.args.burn l refl c.requires.capped

pub returns : goal.returns
returns c =
    let u = c.args.self.now in
    let l : u.count < length u.burns = omega (arith, length-take u.count u.burns, c.requires.room) in
    ap (λ bs. record { entry = u.entry; burns = bs }) (take_more_set u.burns u.count c.args.burn l)
