use Rattle.std.proofs.Common.{◌∙◌}
use Rattle.model.specs.History.{listed}
use Rattle.build.proofs.Choosing.{cohort-first, cohort-second, cohort-third}
use Rattle.build.proofs.cohorts.cohort.Goals as goal

pub returns-then-kept-sample-clause-answer : goal.returns-then-kept-sample-clause-answer
returns-then-kept-sample-clause-answer g c =
    let e = c.in_ok-all.ensures in
    cohort-first c.args.reference (listed (g.R.Register.contents c.args.register.now)) _ c.all.ensures _ e.answer c.if-all-eq0.false
    _ c.sample.ensures _ (rw e.left.contents at c.in_ok-sample.ensures.answer) c.if-kept-sample.true

pub returns-then-still_missing-eq0-clause-answer : goal.returns-then-still_missing-eq0-clause-answer
returns-then-still_missing-eq0-clause-answer g c =
    let e = c.in_ok-all.ensures in
    let f = c.in_ok-sample.ensures in
    cohort-second c.args.reference (listed (g.R.Register.contents c.args.register.now)) _ c.all.ensures _ e.answer c.if-all-eq0.false
    _ c.sample.ensures _ (rw e.left.contents at f.answer) c.if-kept-sample.false _ c.saturating_sub-missing.ensures
    _ c.joining.ensures _ (rw (f.left.contents ∙ e.left.contents) at c.in_ok-registered.ensures.answer) _ c.saturating_sub-still_missing.ensures c.if-still_missing-eq0.true

pub returns-clause-answer : goal.returns-clause-answer
returns-clause-answer g c =
    let e = c.in_ok-all.ensures in
    let f = c.in_ok-sample.ensures in
    let h = c.in_ok-registered.ensures in
    let two = f.left.contents ∙ e.left.contents in
    cohort-third c.args.reference (listed (g.R.Register.contents c.args.register.now)) _ c.all.ensures _ e.answer c.if-all-eq0.false
    _ c.sample.ensures _ (rw e.left.contents at f.answer) c.if-kept-sample.false _ c.saturating_sub-missing.ensures
    _ c.joining.ensures _ (rw two at h.answer) _ c.saturating_sub-still_missing.ensures c.if-still_missing-eq0.false
    _ c.joining-2.ensures _ (rw (h.left.contents ∙ two) at c.in_ok-back.ensures.answer)
