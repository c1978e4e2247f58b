use Rattle.std.proofs.Common.{Ok, ap, ◌∙◌}
use Rattle.model.specs.Packed.{packed_unit, record_fault}
use Rattle.model.specs.Units.{told}
use Rattle.packed.proofs.ReadAs.{read-refused, read-taken}
use Rattle.packed.specs.Reading.{read_as}
use Rattle.packed.proofs.records.read.Goals as goal

pub returns-in_err-check : goal.returns-in_err-check
returns-in_err-check c =
    let checked = c.check.ensures ∙ ap (λ bs. read_as (record_fault c.args.index c.args.latest bs) tt) c.in-Some.ensures in
    read-refused _ tt _ c.check.result _ _ checked c.in_err-check.was c.from_residual.ensures.1

pub returns : goal.returns
returns c =
    let checked = c.check.ensures ∙ ap (λ bs. read_as (record_fault c.args.index c.args.latest bs) tt) c.in-Some.ensures in
    ap Ok (c.unit.ensures ∙ ap (λ bs. told (packed_unit bs)) c.in-Some.ensures) ∙ read-taken _ tt _ c.check.result _ checked c.in_ok-check.was
