-- What a margin method means: a share for each unit, and the exact margin as the mean of the units' intensities weighted by their shares.
use Rattle.std.specs.Prelude.{◌≡◌, ℕ, ◌<◌, List, [], ◌∷◌, length, Ok, Err, Result}
use Rattle.model.specs.declared.faults.Fault.{Fault}
use Rattle.model.specs.declared.faults.Layer.TheVariants.{Method}
use Rattle.model.specs.declared.faults.MethodFault.{MethodFault}
use Rattle.model.specs.Course.{Course, if_walked}
use Rattle.model.specs.Fraction.{Frac, ratio, plus, times, over}
use Rattle.model.specs.Units.{Listed}

-- A list is refused, or each of its units has a share in the margin.
pub data Verdict : Type 0 where
  refused : Fault → Verdict
  shares : List Frac → Verdict

abbrev pub total : List Frac → Frac
total [] = ratio 0 1
total (s ∷ ss) = plus s (total ss)

-- exact emission / generation
abbrev pub intensity : Listed → Frac
intensity u = over u.emission (ratio u.generation 1)

-- each share times its unit's intensity, added up
abbrev pub weighted : List Frac → List Listed → Frac
weighted [] us = ratio 0 1
weighted (s ∷ ss) [] = ratio 0 1
weighted (s ∷ ss) (u ∷ us) = plus (times s (intensity u)) (weighted ss us)

-- The exact margin.
abbrev pub exact : List Frac → List Listed → Frac
exact ss us = over (weighted ss us) (total ss)

-- As many shares as units, each with a value (none is below zero), and not all of them zero.
pub record Fair (ss : List Frac) (us : List Listed) : Type 0 where
  pub each : length ss ≡ length us
  pub real : 0 < (total ss).den
  pub some : 0 < (total ss).num

-- What a method makes of any course: over one that ends in a fault or is too long, that fault.
abbrev pub judged : (List Listed → Verdict) → Course Listed → Verdict
judged meaning c = if_walked Method c (meaning c.units) refused

-- The very fault, or an answer of which P holds.
abbrev pub Meets : Verdict → (ℕ → Type 0) → Result ℕ MethodFault → Type 0
Meets (refused f) P r = r ≡ Err (record { fault = f })
Meets (shares ss) P (Ok a) = P a
Meets (shares ss) P (Err f) = ⊥
