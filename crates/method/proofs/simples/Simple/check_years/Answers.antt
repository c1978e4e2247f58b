use Rattle.std.proofs.Common.{◌≡◌, ℕ, ◌*◌, true, false, Some, Err, sum_by, ap, ◌∙◌, arith, rules, tests}
use Rattle.std.proofs.lemmas.Bool.{le-leb, lt-leb}
use Rattle.std.proofs.lemmas.Iterator.{first_from_Range}
use Rattle.model.specs.Methods.{method_fault}
use Rattle.model.specs.Operating.{is_year}
use Rattle.model.specs.Plain.{any}
use Rattle.model.specs.declared.faults.Rule.TheVariants.{Missing}
use Rattle.method.specs.Pairs.{pairs_of}
use Rattle.method.proofs.Tallies.{year-missing, years-closed, years-open}
use Rattle.method.proofs.simples.Simple.check_years.Goals as goal

pub returns-in-Some : goal.returns-in-Some
returns-in-Some c =
    let ps = pairs_of c.args.self.now in
    let first = first_from_Range _ _ _ (Some c.in-Some.year) (λ y. any (is_year y) ps ≡ false) (λ y. any (is_year y) ps ≡ true) c.in-Some.ensures.ran (λ x q k. search (rules, tests)) (λ x q k. search (rules, tests)) in
    rw (year-missing ps c.in-Some.year first.1 (λ k l. first.3 k (omega arith) l) first.2)
    (ap Err (c.refusal.ensures ∙ ap (λ y. record { fault = method_fault Missing y }) c.from.ensures))

pub returns-then-low_cost-all : goal.returns-then-low_cost-all
returns-then-low_cost-all c =
    let ps = pairs_of c.args.self.now in
    let all = rw c.in_default.is at (first_from_Range _ _ _ c.find.result (λ y. any (is_year y) ps ≡ false) (λ y. any (is_year y) ps ≡ true) c.find.ensures.ran (λ x q k. search (rules, tests)) (λ x q k. search (rules, tests))) in
    let low = ap (λ (s : ℕ × ℕ). s.0) c.sums-low_cost.ensures.value in
    let whole = ap (λ (s : ℕ × ℕ). s.1) c.sums-low_cost.ensures.value in
    rw (years-closed ps (λ k l. all k (omega arith) l) (le-leb (sum_by (λ p. p.all) ps) (2 * sum_by (λ p. p.low_cost) ps) (omega arith)))
    (ap Err c.refusal-then-low_cost-all.ensures)

pub returns : goal.returns
returns c =
    let ps = pairs_of c.args.self.now in
    let all = rw c.in_default.is at (first_from_Range _ _ _ c.find.result (λ y. any (is_year y) ps ≡ false) (λ y. any (is_year y) ps ≡ true) c.find.ensures.ran (λ x q k. search (rules, tests)) (λ x q k. search (rules, tests))) in
    let low = ap (λ (s : ℕ × ℕ). s.0) c.sums-low_cost.ensures.value in
    let whole = ap (λ (s : ℕ × ℕ). s.1) c.sums-low_cost.ensures.value in
    rw (years-open ps (λ k l. all k (omega arith) l) (lt-leb (sum_by (λ p. p.all) ps) (2 * sum_by (λ p. p.low_cost) ps) (omega arith)))
