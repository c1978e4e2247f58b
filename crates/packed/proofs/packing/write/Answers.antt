use Rattle.std.proofs.Common.{◌∙◌, arith}
use Rattle.packed.proofs.Writing.{writing-next}
use Rattle.packed.proofs.packing.write.Goals as goal

pub loop-unit-preserved : goal.loop-unit-preserved
loop-unit-preserved g c =
    let i = c.loop-unit.invariant in
    let e = c.in-Some.ensures in (
      e.contents ∙ i.0,
      writing-next _ _ _ c.in-Some.unit c.loop-unit.at _ c.loop-unit.buffer _ _ e.answer e.units (omega (arith, i.1.room, c.requires, c.loop-unit.auto.buffer)) (omega arith) i.1 c.write_record.ensures,
    )
