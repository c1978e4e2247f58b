use Rattle.std.proofs.Common.{length, ap, ◌∙◌, arith}
use Rattle.model.specs.Course.{told_course}
use Rattle.model.specs.History.{listed}
use Rattle.packed.proofs.Counted.{answers, buffer-is, read_back}
use Rattle.packed.proofs.packing.pack.Goals as goal

pub returns : goal.returns
returns g c =
    let course = listed (g.R.Register.contents c.args.register.now) in
    let e = c.in_ok-count.ensures in
    let same = c.write.ensures.contents ∙ e.left.contents in
    let written = buffer-is course c.in_ok-count.count e.answer c.args.buffer.now e.left.restarted c.write.ensures.buffer in
    record {
      left = record { contents = c.restart.ensures.contents ∙ same; restarted = c.restart.ensures.coming ∙ ap (λ p. told_course (listed p)) same };
      answer = answers course c.in_ok-count.count e.answer (length c.args.buffer.now) (omega (arith, c.if-buffer-size.false));
      buffer = written;
      back = read_back course c.in_ok-count.count e.answer (g.met.R.Register.ranged c.args.register.now) (g.met.R.Register.falling c.args.register.now) _ written;
    }
