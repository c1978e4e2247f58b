use Rattle.std.proofs.Common.{Some, Err, sym, ap, ◌∙◌}
use Rattle.std.proofs.lemmas.Result.{err_from_is_err_and}
use Rattle.model.specs.History.{listed}
use Rattle.model.specs.declared.faults.CombinedFault.{CombinedFault}
use Rattle.model.proofs.Cohorts.{computed-is-cohort}
use Rattle.model.proofs.Nearness.{build-near}
use Rattle.register.proofs.Folding.{restart-moved}
use Rattle.combined.proofs.Parts.{built-ok, walked}
use Rattle.combined.proofs.Whole.{answered-whole, built-moved, by-build, by-method, by-question, by-walk, meets-moved, walk-moved}
use Rattle.combined.proofs.combined_margin.Goals as goal

pub returns-in_err-day : goal.returns-in_err-day
returns-in_err-day g c =
    let p = err_from_is_err_and c.from_residual.result c.from_residual.ensures.1 in
    let m = c.args.method.now in
    let w = c.args.weights in
    let alive = g.met.R.Register.alive c.args.register.now in
    rw p.1
    (by-question (g.M.Method.meaning m) (g.M.Method.may m) g.M.Method.DISTANCE g.M.Method.STANDS_ALONE w.operating w.build c.args.reference _ _ _ alive
    c.restart.ensures.contents c.restart.ensures.coming
    p.0 (λ later. c.in_err-day.ensures later ∙ ap (λ (f : CombinedFault). Some f.fault) (sym p.2)))

pub returns-in_err-walk : goal.returns-in_err-walk
returns-in_err-walk g c =
    let p = err_from_is_err_and c.from_residual-in_err-walk.result c.from_residual-in_err-walk.ensures.1 in
    let m = c.args.method.now in
    let w = c.args.weights in
    let alive = g.met.R.Register.alive c.args.register.now in
    let a = c.restart.ensures.contents in
    let e = c.in_err-walk.ensures in
    rw p.1
    (by-walk (g.M.Method.meaning m) (g.M.Method.may m) g.M.Method.DISTANCE g.M.Method.STANDS_ALONE w.operating w.build c.args.reference _ _ _ alive
    (e.left.contents ∙ a) (restart-moved a e.left.restarted)
    c.in_ok-day.ensures.2
    c.in_err-walk.field-0.0 p.0 p.2 (walk-moved a e.answer))

pub returns-in_err-operating : goal.returns-in_err-operating
returns-in_err-operating g c =
    let p = err_from_is_err_and c.from_residual-in_err-operating.result c.from_residual-in_err-operating.ensures.1 in
    let m = c.args.method.now in
    let w = c.args.weights in
    let alive = g.met.R.Register.alive c.args.register.now in
    let a = c.restart.ensures.contents in
    let v = c.in_ok-walk.ensures in
    let e = c.in_err-operating.ensures in
    let b = v.left.contents ∙ a in
    rw p.1
    (by-method (g.M.Method.meaning m) (g.M.Method.may m) g.M.Method.DISTANCE g.M.Method.STANDS_ALONE w.operating w.build c.args.reference _ _ _ alive
    (e.left.contents ∙ b) (restart-moved b e.left.restarted)
    c.in_ok-day.ensures.2
    (walked _ _ (walk-moved a v.answer))
    c.in_err-operating.field-0.0 p.0 p.2 (meets-moved b (g.M.Method.meaning m) (g.M.Method.may m) _ e.answer))

pub returns-in_err-build : goal.returns-in_err-build
returns-in_err-build g c =
    let p = err_from_is_err_and c.from_residual-in_err-build.result c.from_residual-in_err-build.ensures.1 in
    let m = c.args.method.now in
    let w = c.args.weights in
    let alive = g.met.R.Register.alive c.args.register.now in
    let a = c.restart.ensures.contents in
    let v = c.in_ok-walk.ensures in
    let o = c.in_ok-operating.ensures in
    let e = c.in_err-build.ensures in
    let b = v.left.contents ∙ a in
    let d = o.left.contents ∙ b in
    let q = c.in_ok-day.ensures in
    rw p.1
    (by-build (g.M.Method.meaning m) (g.M.Method.may m) g.M.Method.DISTANCE g.M.Method.STANDS_ALONE w.operating w.build c.args.reference _ _ _ alive
    (e.contents ∙ d) (restart-moved d (e.restarted (restart-moved (sym o.left.contents) o.left.restarted)))
    q.2
    (walked _ _ (walk-moved a v.answer))
    c.in_ok-operating.operating (meets-moved b (g.M.Method.meaning m) (g.M.Method.may m) _ o.answer)
    p.0 (ap Err p.2 ∙ built-moved d w.build q.0 e.answer))

pub returns : goal.returns
returns g c =
    let m = c.args.method.now in
    let w = c.args.weights in
    let register = c.args.register.now in
    let alive = g.met.R.Register.alive register in
    let ranged = g.met.R.Register.ranged register in
    let falls = g.met.R.Register.falling register in
    let a = c.restart.ensures.contents in
    let v = c.in_ok-walk.ensures in
    let o = c.in_ok-operating.ensures in
    let e = c.in_ok-build.ensures in
    let b = v.left.contents ∙ a in
    let d = o.left.contents ∙ b in
    let q = c.in_ok-day.ensures in
    let list = listed (g.R.Register.contents register) in
    let all = walked list _ (walk-moved a v.answer) in
    answered-whole (g.M.Method.meaning m) (g.M.Method.may m) g.M.Method.DISTANCE g.M.Method.STANDS_ALONE w.operating w.build c.args.reference _ _ _ alive
    (e.contents ∙ d) (restart-moved d (e.restarted (restart-moved (sym o.left.contents) o.left.restarted)))
    q.2 all
    c.in_ok-operating.operating (meets-moved b (g.M.Method.meaning m) (g.M.Method.may m) _ o.answer)
    c.in_ok-build.build c.mixture-combined.result
    (built-ok w.build c.args.reference list all build-near computed-is-cohort ranged falls c.in_ok-build.build (built-moved d w.build q.0 e.answer))
    c.mixture-combined.ensures
    (g.met.M.Method.near m) ranged falls
