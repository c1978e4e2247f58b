use Rattle.std.proofs.Common.{◌∙◌, rules, tests}
use Rattle.std.proofs.lemmas.Iterator.{YieldsList-from_slice}
use Rattle.std.proofs.lemmas.Iterator.Search.{any_from_yields_List}
use Rattle.model.specs.Operating.{is_year}
use Rattle.method.specs.Pairs.{pairs_of}
use Rattle.method.proofs.Tallies.{any_is}
use Rattle.method.proofs.simples.Simple.has_year.Goals as goal

pub returns : goal.returns
returns c =
    let ps = pairs_of c.args.self.now in
    any_from_yields_List (is_year c.args.year) _ _ _ c.any.ensures.ran (YieldsList-from_slice ps cc) (λ x b q k. search (rules, tests))
    ∙ any_is (is_year c.args.year) ps
