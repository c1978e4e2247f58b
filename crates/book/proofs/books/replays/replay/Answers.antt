use Rattle.std.proofs.lemmas.List.{take_more}
use Rattle.model.specs.declared.events.Event.TheVariants.{EnterFuel}
use Rattle.model.specs.Plain.{no_fuel}
use Rattle.book.proofs.books.replays.replay.Goals as goal

pub loop-event-preserved : goal.loop-event-preserved
loop-event-preserved c =
    rw (take_more c.args.journal.now c.loop-event.event-index (EnterFuel no_fuel) c.loop-event-test.true)
    (c.apply.ensures.life _ c.loop-event.invariant)
