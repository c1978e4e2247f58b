use Rattle.std.proofs.Common.{◌-◌, ◌≤◌}
use Rattle.reckon.proofs.fill.Given as goal

abbrev pub invariant-loop-filled : goal.invariant-loop-filled
invariant-loop-filled g l = l.filled ≤ 32

abbrev pub decreases-loop-filled : goal.decreases-loop-filled
decreases-loop-filled g l = 32 - l.filled
