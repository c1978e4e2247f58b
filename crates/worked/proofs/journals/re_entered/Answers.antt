use Rattle.std.proofs.Common.{ap}
use Rattle.model.specs.History.{listed, year_book}
use Rattle.model.specs.Plain.{Contents}
use Rattle.worked.proofs.StruckUnits.{leaves}
use Rattle.worked.proofs.journals.re_entered.Goals as goal

pub returns : goal.returns
returns c =
    let none = c.in_ok-book.ensures.after in
    let fuel = c.enter_fuel.ensures.life _ none in
    let unit = c.enter_unit.ensures.life _ fuel in
    let two = c.enter_unit-2.ensures.life _ unit in
    let burned = c.enter_burn.ensures.life _ two in
    let struck = c.strike.ensures.life _ burned in
    let again = c.enter_unit-3.ensures.life _ struck in
    let is = leaves _ (c.enter_burn-2.ensures.life _ again) in
    record { contents = is; list = ap (λ (p : Contents). listed (year_book p)) is }
