use Rattle.std.proofs.Common.{◌<◌, length, Err, sym, refl, ap, ◌∙◌, arith}
use Rattle.std.proofs.lemmas.Result.{err_from_is_err_and}
use Rattle.std.proofs.lemmas.Bool.{eqb-false}
use Rattle.model.specs.Course.{answered, tail}
use Rattle.packed.proofs.Steps.{next-fault, next-unit}
use Rattle.packed.proofs.registers.walk.PackedRegister.next.Goals as goal

pub returns-in_err-unit : goal.returns-in_err-unit
returns-in_err-unit c =
    let p = err_from_is_err_and c.from_residual.result c.from_residual.ensures.1 in
    let s = c.args.self.now in
    let some : 0 < length s.rest.now = omega (arith, eqb-false _ _ (sym c.if-is_empty.ensures)) in
    let step = next-fault s.index s.latest _ s.rest.now _ _ some c.min.ensures c.split_at.ensures.front c.split_at.ensures.back _ c.in_err-unit.ensures in
    record {
      contents = refl;
      units = ap (λ d. d.units) step ∙ sym (ap (λ d. tail d.units) step);
      ending = refl;
      answer = p.1 ∙ ap Err p.2 ∙ sym (ap (λ d. answered d.units d.ending) step);
    }

pub returns : goal.returns
returns c =
    let s = c.args.self.now in
    let some : 0 < length s.rest.now = omega (arith, eqb-false _ _ (sym c.if-is_empty.ensures)) in
    let step = next-unit s.index s.latest _ s.rest.now _ _ some c.min.ensures c.split_at.ensures.front c.split_at.ensures.back _ _ c.saturating_add-self.ensures c.in_ok-unit.ensures in
    record {
      contents = refl;
      units = sym (ap (λ d. tail d.units) step);
      ending = sym (ap (λ d. d.ending) step);
      answer = sym (ap (λ d. answered d.units d.ending) step);
    }
