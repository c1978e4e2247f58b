use Rattle.worked.proofs.ExampleBook.{holds}
use Rattle.worked.proofs.questions.example.Goals as goal

pub returns : goal.returns
returns c =
    let none = c.in_ok-book.ensures.after in
    let fuel = c.enter_fuel.ensures.life _ none in
    let unit = c.enter_unit.ensures.life _ fuel in
    let two = c.enter_unit-2.ensures.life _ unit in
    holds _ (c.enter_burn.ensures.life _ two)
