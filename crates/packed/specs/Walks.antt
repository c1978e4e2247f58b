-- What a packed register is as a register.
use Rattle.model.specs.declared.units.PowerUnit.{PowerUnit}
use Rattle.model.specs.Course.{Course, told_course}
use Rattle.model.specs.History.{Composition, foreign}
use Rattle.model.specs.Packed.{packed_course, packed_from}
use Rattle.model.specs.Records.{pieces_of}
use Rattle.packed.specs.declared.registers.Packed.{Packed}

-- Its list is that of its bytes, and nothing else is known of it.
abbrev pub contents : Packed → Composition
contents p = foreign (packed_course p.bytes.now)

-- The units of the records that the walk has not read.
abbrev pub coming : Packed → Course PowerUnit
coming p = told_course (packed_from p.index p.latest (pieces_of p.rest.now))
