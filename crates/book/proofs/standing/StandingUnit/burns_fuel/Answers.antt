use Rattle.std.proofs.Common.{ap, ◌∙◌, rules, tests}
use Rattle.std.proofs.lemmas.Iterator.{YieldsList-from_slice}
use Rattle.std.proofs.lemmas.Iterator.Search.{any_from_yields_List}
use Rattle.model.specs.Plain.{any, burns_fuel}
use Rattle.book.proofs.Firsts.{any-listed}
use Rattle.book.proofs.standing.StandingUnit.burns_fuel.Goals as goal

pub returns : goal.returns
returns c =
    let p = burns_fuel c.args.code in
    let bs = c.burns.result.now in
    any_from_yields_List p _ _ _ c.any.ensures.ran (YieldsList-from_slice bs (cc)) (λ x b q k. search (rules, tests)) ∙ any-listed p bs ∙ ap (any p) c.burns.ensures.value
