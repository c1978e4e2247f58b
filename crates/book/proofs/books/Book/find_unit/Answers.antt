use Rattle.std.proofs.Common.{◌≡◌, vec_items, map, ◌∙◌, sym, rules, tests}
use Rattle.std.specs.List.{position}
use Rattle.std.proofs.lemmas.Iterator.{YieldsList-from_slice}
use Rattle.std.proofs.lemmas.Iterator.Search.{position_from_yields_List}
use Rattle.model.specs.Plain.{is_unit}
use Rattle.book.specs.Standing.{standing}
use Rattle.book.proofs.Firsts.{position-any, position-map, position-stands}
use Rattle.book.proofs.books.Book.find_unit.Goals as goal

pub returns : goal.returns
returns c =
    let p = is_unit c.args.code in
    let us = vec_items c.args.self.now.units in
    let is = position_from_yields_List (λ u. p (standing u)) _ _ c.position.result c.position.ensures.ran (YieldsList-from_slice us (cc)) (λ x b q k. search (rules, tests)) in
    let is' : c.position.result ≡ position p (map standing us) = is ∙ sym (position-map p standing us) in
    rw is' record { test = position-any p (map standing us); place = position-stands c.args.code (map standing us) }
