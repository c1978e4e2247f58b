use Rattle.std.proofs.Common.{vec_items, refl}
use Rattle.model.specs.declared.events.Event.TheVariants.{EnterFuel}
use Rattle.model.proofs.Lives as plain
use Rattle.model.proofs.Lives.{lives-fuel, reached-more}
use Rattle.book.specs.Seen.{seen}
use Rattle.book.proofs.Entering.{accepting, refusing}
use Rattle.book.proofs.books.Book.enter_fuel.Goals as goal
use Rattle.book.proofs.books.Book.enter_fuel.Goals.{After-push_reserved}

pub returns-in_err-check_fuel : goal.returns-in_err-check_fuel
returns-in_err-check_fuel c = refusing (EnterFuel c.args.fuel) c.args.self.now _ _ c.from_residual.ensures.1 c.in_err-check_fuel.ensures

lives : (c : After-push_reserved) → plain.Lives (EnterFuel c.args.fuel) (seen c.args.self.now) (record { fuels = vec_items c.push_reserved.new.self; units = (seen c.args.self.now).units })
lives c = lives-fuel (seen c.args.self.now) _ c.args.fuel c.in_ok-check_fuel.ensures c.push_reserved.ensures.items

pub invariant_of-self-clause-reached : goal.invariant_of-self-clause-reached
invariant_of-self-clause-reached c = reached-more (EnterFuel c.args.fuel) _ _ (lives c) c.args.self.now.reached

pub returns : goal.returns
returns c = accepting (EnterFuel c.args.fuel) c.args.self.now _ c.in_ok-check_fuel.ensures (lives (goal.at.returns c).After-push_reserved) refl
