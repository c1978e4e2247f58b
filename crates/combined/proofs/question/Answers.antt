use Rattle.std.proofs.Common.{sym, arith}
use Rattle.combined.proofs.Asking.{weights-refused}
use Rattle.combined.proofs.question.Goals as goal

pub returns-then-from-ne100 : goal.returns-then-from-ne100
returns-then-from-ne100 g c =
    weights-refused g.M.Method.STANDS_ALONE c.args.weights.operating c.args.weights.build c.args.reference
    (sym c.in-Some.ensures.test) (λ e. c.if-from-ne100.true (omega (arith, e, c.from.ensures, c.from-2.ensures))) c.refusal-then-from-ne100.ensures
