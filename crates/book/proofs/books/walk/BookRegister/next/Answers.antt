use Rattle.std.proofs.Common.{◌≡◌, ◌<◌, length, get_or, Some, Ok, vec_items, refl, ap, rules}
use Rattle.model.specs.declared.events.Event.TheVariants.{Next}
use Rattle.model.proofs.Lives.{lives-quiet, quiet_next}
use Rattle.book.specs.Seen.{seen}
use Rattle.book.proofs.Read.{next-unit}
use Rattle.book.proofs.books.walk.BookRegister.next.Goals as goal

pub returns : goal.returns
returns c =
    let b = c.args.self.now in
    let us = vec_items b.units in
    let lt : b.at < length us = search rules in
    let is : c.in-Some.unit.now ≡ get_or us b.at c.in-Some.unit.now = search rules in
    let some = next-unit us b.at c.in-Some.unit.now lt is in
    record { contents = refl; units = rw some refl; ending = refl; answer = rw some (ap (λ unit. Ok (Some unit)) c.from-told.ensures); life = lives-quiet Next quiet_next (seen b) }
