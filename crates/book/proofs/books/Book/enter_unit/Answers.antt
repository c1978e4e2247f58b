use Rattle.std.proofs.Common.{map, vec_items, refl}
use Rattle.model.specs.declared.events.Event.TheVariants.{EnterUnit}
use Rattle.model.specs.Plain.{verdict}
use Rattle.model.proofs.Lives as plain
use Rattle.model.proofs.Lives.{reached-more}
use Rattle.model.proofs.Verdicts.{ok-accepted, passed-unit}
use Rattle.book.specs.Seen.{seen}
use Rattle.book.specs.Standing.{standing}
use Rattle.book.proofs.Entering.{accepting, refusing, unit-entered}
use Rattle.book.proofs.books.Book.enter_unit.Goals as goal
use Rattle.book.proofs.books.Book.enter_unit.Goals.{After-unwrap}

pub returns-in_err-check_unit : goal.returns-in_err-check_unit
returns-in_err-check_unit c = refusing (EnterUnit c.args.entry) c.args.self.now _ _ c.from_residual.ensures.1 c.in_err-check_unit.ensures

pub new-requires-clause-ranged : goal.new-requires-clause-ranged
new-requires-clause-ranged c =
    let p = seen c.args.self.now in
    (passed-unit p c.args.entry (ok-accepted (verdict p (EnterUnit c.args.entry)) c.in_ok-check_unit.ensures)).ranged

lives : (c : After-unwrap) → plain.Lives (EnterUnit c.args.entry) (seen c.args.self.now) (record { fuels = (seen c.args.self.now).fuels; units = map standing (vec_items c.insert.new.self) })
lives c =
    let b = c.args.self.now in
    let made = rw c.unwrap.ensures at c.insert.ensures.items in
    unit-entered (seen b).fuels (vec_items b.units) (vec_items c.insert.new.self) c.place-at.result c.args.entry c.new.result c.in_ok-check_unit.ensures made c.new.ensures c.place-at.ensures

pub invariant_of-self-clause-reached : goal.invariant_of-self-clause-reached
invariant_of-self-clause-reached c = reached-more (EnterUnit c.args.entry) _ _ (lives c) c.args.self.now.reached

pub returns : goal.returns
returns c = accepting (EnterUnit c.args.entry) c.args.self.now _ c.in_ok-check_unit.ensures (lives (goal.at.returns c).After-unwrap) refl
