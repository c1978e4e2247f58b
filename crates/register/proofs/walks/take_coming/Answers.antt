use Rattle.std.proofs.Common.{length, Ok, sym, ap, ◌∙◌, arith}
use Rattle.model.proofs.Courses.{answered-none, answered-some}
use Rattle.register.proofs.Folding.{folding-more, folding-past}
use Rattle.register.proofs.walks.take_coming.Goals as goal
use Rattle.register.proofs.walks.take_coming.Goals.{then-count-lt-LIMIT, else-count-lt-LIMIT}

pub loop-unit-preserved : goal.loop-unit-preserved
loop-unit-preserved g c =
    let i = c.loop-unit.invariant in
    let e = c.in_ok-unit.ensures in
    let w = rw (answered-some c.in-Some.unit _ _ (ap Ok (sym c.in-Some.is) ∙ e.answer)) at i.2 in (
      e.contents ∙ i.0,
      e.ending ∙ i.1,
      rw e.units
          (elim c.if-count-lt-LIMIT.branch [
            | then-count-lt-LIMIT b ↦ folding-more _ _ _ _ _ _ _ _ _ w c.saturating_add-count.ensures _ g.met.F.Fold.room b.if-count-lt-LIMIT.true (b.fold-is ∙ b.take.ensures)
            | else-count-lt-LIMIT b ↦ rw b.fold-is (folding-past _ _ _ _ _ _ _ _ _ w c.saturating_add-count.ensures b.if-count-lt-LIMIT.false)
          ]),
    )

pub returns-clause-counts : goal.returns-clause-counts
returns-clause-counts g c =
    let i = c.loop-unit.invariant in
    let e = c.in_ok-unit.ensures in
    let over = answered-none _ _ (ap Ok (sym c.in_default.is) ∙ e.answer) in
    (sym i.1 ∙ over.1, omega (arith, i.2.counts, ap length over.0))
