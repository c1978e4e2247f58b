use Rattle.std.proofs.Common.{arith, rules}
use Rattle.std.proofs.lemmas.List.{length-take}
use Rattle.std.proofs.lemmas.List.Elements.{All-take}
use Rattle.book.specs.Burns.{Fits}
use Rattle.book.proofs.standing.StandingUnit.burns.Goals as goal

pub returns : goal.returns
returns c =
    let u = c.args.self.now in
    record {
      value = search rules;
      few = omega (arith, length-take u.count u.burns, u.few);
      fits = All-take Fits u.count u.burns u.fitting;
    }
