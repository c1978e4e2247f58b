-- The tests of a unit's kind, for a unit as it is told.
use Rattle.std.specs.Prelude.{ℕ, ◌+◌, Bool, not, ◌&&◌, nat_lt}
use Rattle.model.specs.Classes.{is_home, is_registered}
use Rattle.model.specs.declared.units.PowerUnit.{PowerUnit}
use Rattle.build.specs.declared.kinds.Kind.{Kind}
use Rattle.build.specs.declared.kinds.Kind.TheVariants.{Unregistered, Registered, Old}

-- old: the start day plus 100,000 is below the reference day
abbrev pub long_ago : ℕ → PowerUnit → Bool
long_ago reference u = nat_lt (u.day + 100000) reference

abbrev pub belongs : Kind → ℕ → PowerUnit → Bool
belongs Unregistered reference u = is_home u.class && not (is_registered u.class)
belongs Registered reference u = is_registered u.class
belongs Old reference u = (is_home u.class && not (is_registered u.class)) && long_ago reference u
