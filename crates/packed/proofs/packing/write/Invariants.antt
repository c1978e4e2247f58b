use Rattle.std.proofs.Common.{◌≡◌, length}
use Rattle.packed.proofs.Writing.{Writing}
use Rattle.packed.proofs.packing.write.Given as goal

abbrev pub invariant-loop-unit : goal.invariant-loop-unit
invariant-loop-unit g l =
    let r = g.R.Register in
    (r.contents l.register ≡ r.contents l.initial.register)
    × Writing (r.coming l.initial.register).units (r.coming l.register).units l.at l.buffer l.initial.buffer

abbrev pub decreases-loop-unit : goal.decreases-loop-unit
decreases-loop-unit g l = length (g.R.Register.coming l.register).units
