use Rattle.std.proofs.Common.{◌≡◌, find, vec_items, ◌∙◌, rules, tests}
use Rattle.std.proofs.lemmas.Iterator.{YieldsList-from_slice}
use Rattle.std.proofs.lemmas.Iterator.Search.{find_from_yields_List}
use Rattle.model.specs.Plain.{is_fuel, no_fuel}
use Rattle.book.proofs.Firsts.{find-any, find-first}
use Rattle.book.proofs.books.Book.find_fuel.Goals as goal

pub returns : goal.returns
returns c =
    let p = is_fuel c.args.code in
    let fs = vec_items c.args.self.now.fuels in
    let is : c.copied.result ≡ find p fs = c.copied.ensures ∙ find_from_yields_List p _ _ _ c.find.ensures.ran (YieldsList-from_slice fs (cc)) (λ x b q k. search (rules, tests)) in
    rw is record { test = find-any p fs; value = find-first p no_fuel fs }
