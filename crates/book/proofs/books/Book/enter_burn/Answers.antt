use Rattle.std.proofs.Common.{map, set, vec_items, refl}
use Rattle.model.specs.declared.events.Event.TheVariants.{EnterBurn}
use Rattle.model.proofs.Lives as plain
use Rattle.model.proofs.Lives.{reached-more}
use Rattle.book.specs.Seen.{seen}
use Rattle.book.specs.Standing.{standing}
use Rattle.book.proofs.Entering.{accepting, burn-entered, refusing}
use Rattle.book.proofs.books.Book.enter_burn.Goals as goal
use Rattle.book.proofs.books.Book.enter_burn.Goals.{After-add_burn}

pub returns-in_err-accepted : goal.returns-in_err-accepted
returns-in_err-accepted c = refusing (EnterBurn c.args.entry) c.args.self.now _ _ c.from_residual.ensures.1 c.in_err-accepted.ensures

lives : (c : After-add_burn) → plain.Lives (EnterBurn c.args.entry) (seen c.args.self.now) (record { fuels = (seen c.args.self.now).fuels; units = map standing (set (vec_items c.args.self.now.units) c.in_ok-accepted.accepted.place c.add_burn.new.self) })
lives c =
    let b = c.args.self.now in
    let a = c.in_ok-accepted.ensures in
    burn-entered (seen b).fuels (vec_items b.units) c.in_ok-accepted.accepted.place c.args.entry c.index.result.now c.add_burn.new.self c.in_ok-accepted.accepted.burn a.accepted a.stands c.index.ensures a.burn c.add_burn.ensures

pub invariant_of-self-clause-reached : goal.invariant_of-self-clause-reached
invariant_of-self-clause-reached c = reached-more (EnterBurn c.args.entry) _ _ (lives (goal.at.invariant_of-self-clause-reached c).After-add_burn) c.args.self.now.reached

pub returns : goal.returns
returns c = accepting (EnterBurn c.args.entry) c.args.self.now _ c.in_ok-accepted.ensures.accepted (lives (goal.at.returns c).After-add_burn) refl
