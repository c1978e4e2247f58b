use Rattle.std.proofs.Common.{refl, arith}
use Rattle.register_tests.specs.Fleets.{fleet_unit}
use Rattle.register_tests.specs.Likes.{like-more}
use Rattle.register_tests.proofs.fleets.walk.FleetRegister.next.Goals as goal

pub returns : goal.returns
returns c =
    let f = c.args.self.now in
    let more = like-more f.left (fleet_unit f.code f.day.number) (omega arith) in
    record { contents = refl; units = rw more refl; ending = refl; answer = rw (more, c.unit.ensures) refl }
