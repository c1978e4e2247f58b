use Rattle.std.proofs.Common.{◌≡◌, false, ltb-false, refl, sym, arith, rules}
use Rattle.model.specs.Plain.{any, burns_fuel, is_unit, no_unit, unit_of}
use Rattle.model.proofs.Firsts.{first-none}
use Rattle.model.proofs.Sounds.{fuel-fits}
use Rattle.book.specs.Seen.{seen}
use Rattle.book.proofs.books.Book.check_burn.Goals as goal

-- a unit that is absent burns nothing
pub returns-in_default : goal.returns-in_default
returns-in_default c =
    let e = c.args.entry.now in
    let us = (seen c.args.self.now).units in
    let none : unit_of e.unit us ≡ no_unit = first-none (is_unit e.unit) no_unit us (omega (arith, ltb-false _ _ (sym c.in_default.ensures.test))) in
    let unburned : any (burns_fuel e.fuel) (unit_of e.unit us).burns ≡ false = rw none refl in
    search rules

pub invariant_of-accepted : goal.invariant_of-accepted
invariant_of-accepted c =
    let f = fuel-fits (seen c.args.self.now) c.args.self.now.reached c.args.entry.now.fuel in
    record { fits = rw c.in-Some-find_fuel.ensures.value record { quantity = c.if-entry-gt-QUANTITY.false; heat = f.0; carbon = f.1 } }
