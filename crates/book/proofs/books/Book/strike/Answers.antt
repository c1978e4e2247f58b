use Rattle.std.proofs.Common.{map, vec_items, refl}
use Rattle.model.specs.declared.events.Event.TheVariants.{Strike}
use Rattle.model.proofs.Lives as plain
use Rattle.model.proofs.Lives.{reached-more}
use Rattle.book.specs.Seen.{seen}
use Rattle.book.specs.Standing.{standing}
use Rattle.book.proofs.Entering.{accepting, refusing, unit-struck}
use Rattle.book.proofs.books.Book.strike.Goals as goal
use Rattle.book.proofs.books.Book.strike.Goals.{After-remove}

pub returns-in_err-place : goal.returns-in_err-place
returns-in_err-place c = refusing (Strike c.args.code) c.args.self.now _ _ c.from_residual.ensures.1 c.in_err-place.ensures

lives : (c : After-remove) → plain.Lives (Strike c.args.code) (seen c.args.self.now) (record { fuels = (seen c.args.self.now).fuels; units = map standing (vec_items c.remove.new.self) })
lives c =
    let b = c.args.self.now in
    let a = c.in_ok-place.ensures in
    unit-struck (seen b).fuels (vec_items b.units) (vec_items c.remove.new.self) c.in_ok-place.place c.args.code a.accepted a.stands c.remove.ensures.items

pub invariant_of-self-clause-reached : goal.invariant_of-self-clause-reached
invariant_of-self-clause-reached c = reached-more (Strike c.args.code) _ _ (lives c) c.args.self.now.reached

pub returns : goal.returns
returns c = accepting (Strike c.args.code) c.args.self.now _ c.in_ok-place.ensures.accepted (lives (goal.at.returns c).After-remove) refl
