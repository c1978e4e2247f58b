use Rattle.std.proofs.Common.{◌≡◌, ℕ, ◌<◌, true, slice_index}
use Rattle.model.specs.LoadYears.{is_load}
use Rattle.load.proofs.groups.entries.all_loads.Given as goal

abbrev pub invariant-loop-i : goal.invariant-loop-i
invariant-loop-i l = (k : ℕ) → k < l.i → is_load (slice_index l.numbers k) ≡ true
