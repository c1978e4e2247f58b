use Rattle.std.proofs.Common.{◌≡◌, true, sym, refl, arith}
use Rattle.std.proofs.lemmas.Bool.Decides.{nat_tests}
use Rattle.model.specs.Calendar.{is_day}
use Rattle.model.proofs.Calendar.{day-from-digits}
use Rattle.model.proofs.days.Day.new.Goals as goal

pub returns : goal.returns
returns c =
    let h : is_day c.args.number ≡ true = grind (arith, nat_tests) in
    record { test = sym h; cases = (refl, day-from-digits c.args.number h) }
