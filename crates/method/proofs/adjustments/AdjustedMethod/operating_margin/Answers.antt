use Rattle.std.proofs.Common.{◌≡◌, ◌+◌, ◌-◌, ◌*◌, ◌≤◌, None, unwrap_or, sym, ap, ◌∙◌, arith}
use Rattle.std.proofs.lemmas.Result.{err_from_is_err_and}
use Rattle.model.specs.Fraction.{ratio}
use Rattle.model.specs.History.{listed}
use Rattle.model.specs.LoadYears.{year_hours}
use Rattle.model.specs.Rounding.{rounded}
use Rattle.method.proofs.Weighing.{adjusted-above, adjusted-hours, adjusted-none, adjusted-some, hours-few}
use Rattle.method.proofs.adjustments.AdjustedMethod.operating_margin.Goals as goal

pub returns-in_err-loads-clause-answer : goal.returns-in_err-loads-clause-answer
returns-in_err-loads-clause-answer g c =
    let p = err_from_is_err_and c.from_residual-in_err-loads.result c.from_residual-in_err-loads.ensures.1 in
    let whole = listed (g.R.Register.contents c.args.register.now) in
    rw p.1
    (adjusted-hours year_hours (g.L.LoadYear.year c.args.self.now.year) whole (c.in_ok-low_cost.low_cost, c.in_ok-low_cost.other) c.in_ok-low_cost.ensures.answer _ _ _ p.2 c.in_err-loads.ensures)

pub returns-then-low_cost-total_load-clause-answer : goal.returns-then-low_cost-total_load-clause-answer
returns-then-low_cost-total_load-clause-answer g c =
    let whole = listed (g.R.Register.contents c.args.register.now) in
    adjusted-above year_hours (g.L.LoadYear.year c.args.self.now.year) whole (c.in_ok-low_cost.low_cost, c.in_ok-low_cost.other) c.in_ok-low_cost.ensures.answer c.in_ok-loads.loads c.in_ok-loads.ensures _ _ (omega arith) c.refusal.ensures

pub returns-in_err-others_mean-clause-answer : goal.returns-in_err-others_mean-clause-answer
returns-in_err-others_mean-clause-answer g c =
    let p = err_from_is_err_and c.from_residual-in_err-others_mean.result c.from_residual-in_err-others_mean.ensures.1 in
    let whole = listed (g.R.Register.contents c.args.register.now) in
    let none : c.mean.result ≡ None = c.in_err-others_mean.ensures.ok_part in
    let made = rw none at c.in_err-others_mean.ensures.value in
    rw p.1
    (adjusted-none year_hours (g.L.LoadYear.year c.args.self.now.year) whole (c.in_ok-low_cost.low_cost, c.in_ok-low_cost.other) c.in_ok-low_cost.ensures.answer c.in_ok-loads.loads c.in_ok-loads.ensures (omega arith) _ _ (sym none ∙ c.mean.ensures.value) (cc (p.2, made, c.refusal-2.ensures)))

pub returns-clause-answer : goal.returns-clause-answer
returns-clause-answer g c =
    let whole = listed (g.R.Register.contents c.args.register.now) in
    let few : c.low_cost_hours-low_cost_hours.result ≤ year_hours = rw c.low_cost_hours-low_cost_hours.ensures (hours-few year_hours (g.L.LoadYear.year c.args.self.now.year) c.in_ok-loads.loads _ c.in_ok-loads.ensures) in
    let h = c.low_cost_hours-low_cost_hours.result in
    let whole_year : year_hours - h + h ≡ year_hours = omega arith in
    let figure = rw c.unwrap.ensures at c.weighted_mean.ensures in
    adjusted-some year_hours (g.L.LoadYear.year c.args.self.now.year) whole (c.in_ok-low_cost.low_cost, c.in_ok-low_cost.other) c.in_ok-low_cost.ensures.answer c.in_ok-loads.loads c.in_ok-loads.ensures (omega arith)
    h c.in_ok-others_mean.others_mean c.unwrap_or-low_cost_mean.result _
    (sym c.in_ok-others_mean.ensures.ok_part ∙ c.mean.ensures.value) c.low_cost_hours-low_cost_hours.ensures (c.unwrap_or-low_cost_mean.ensures ∙ ap (λ o. unwrap_or o 0) c.mean-2.ensures.value)
    (figure ∙ ap (λ n. rounded (ratio ((year_hours - h) * c.in_ok-others_mean.others_mean + h * c.unwrap_or-low_cost_mean.result) n)) whole_year)
