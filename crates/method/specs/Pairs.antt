-- The yearly pairs that stand in the simple method.
use Rattle.std.specs.Prelude.{ℕ, List, sum_by, Result}
use Rattle.model.specs.declared.faults.MethodFault.{MethodFault}
use Rattle.model.specs.declared.records.YearlyPair.{YearlyPair}
use Rattle.model.specs.Faults.{unless_refused}
use Rattle.model.specs.Operating.{years_fault}
use Rattle.method.specs.declared.simples.Simple.{Simple}

-- The pairs in order of entry.
abbrev pub pairs_of : Simple → List YearlyPair
pairs_of m = m.pairs.items

-- Low-cost generation and all generation over the years.
abbrev pub yearly_sums : List YearlyPair → ℕ × ℕ
yearly_sums ps = (sum_by (λ p. p.low_cost) ps, sum_by (λ p. p.all) ps)

-- What the pairs that stand answer: nothing, or what refuses the method by them.
abbrev pub years_answer : List YearlyPair → Result (Unit {0}) MethodFault
years_answer ps = unless_refused (λ f. record { fault = f }) (years_fault ps) tt
