use Rattle.std.proofs.Common.{arith}
use Rattle.life.specs.Lived.{start, state}
use Rattle.life.proofs.Runs.{run-all, run-lives, run_more}
use Rattle.model.proofs.Lives.{shows-none}
use Rattle.life.proofs.lives.live.Goals as goal

pub loop-call-preserved : goal.loop-call-preserved
loop-call-preserved g c =
    let i = c.loop-call.invariant in
    let e = c.push_reserved.ensures in
    (run_more _ _ _ _ c.args.calls.now c.loop-call.call-index _ (start c.args.buffer.now) _ c.loop-call-test.true i.0 c.carry_out.ensures e.items, omega arith, omega arith)

pub returns : goal.returns
returns g c =
    let m = g.M.Method in
    let method = c.args.method.now in
    let ran = run-all (m.meaning method) (m.may method) m.DISTANCE m.STANDS_ALONE c.args.calls.now c.loop-call.call-index (start c.args.buffer.now) _ (state c.loop-call.book c.loop-call.buffer) c.loop-call-test.false c.loop-call.invariant.0 in
    record {
      after = run-lives (m.meaning method) (m.may method) m.DISTANCE m.STANDS_ALONE c.args.calls.now (start c.args.buffer.now) _ (state c.loop-call.book c.loop-call.buffer) ran _ shows-none;
      run = ran;
      kept = tt;
    }
