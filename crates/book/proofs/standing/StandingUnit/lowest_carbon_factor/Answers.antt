use Rattle.std.proofs.Common.{ℕ, sym, ap, ◌∙◌, rules, tests}
use Rattle.std.proofs.lemmas.Iterator.{YieldsList-from_map, YieldsList-from_slice}
use Rattle.std.proofs.lemmas.Iterator.Adapters.{option_map_id}
use Rattle.std.proofs.lemmas.Iterator.Consumers.{min_from_yields_List}
use Rattle.model.specs.declared.units.Burn.{Burn}
use Rattle.book.specs.Burns.{lowest_of}
use Rattle.book.proofs.Lowest.{lowest-least}
use Rattle.book.proofs.standing.StandingUnit.lowest_carbon_factor.Goals as goal

pub returns-clause-value : goal.returns-clause-value
returns-clause-value c =
    let bs = c.burns.result.now in
    let factor : Burn → ℕ = λ b. b.fuel.carbon_factor in
    let least = min_from_yields_List {v = λ (n : ℕ). n} c.map.result _ c.min.ensures.ran (YieldsList-from_map _ factor (YieldsList-from_slice bs (cc)) c.map.ensures.closure (λ x r q k. search (rules, tests))) in
    sym (option_map_id c.min.result) ∙ least ∙ lowest-least bs ∙ ap lowest_of c.burns.ensures.value
