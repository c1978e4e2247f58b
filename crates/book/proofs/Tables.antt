-- A unit's table of burns, one burn written.
use Rattle.std.proofs.Common.{◌≡◌, ℕ, ◌+◌, ◌*◌, ◌<◌, ◌≤◌, false, List, length, get_or, take, set, sum_by, ap, inl, inr, arith}
use Rattle.std.proofs.lemmas.Bool.{cases_eq}
use Rattle.std.proofs.lemmas.List.{get_or-set_other, get_or-set_same, take_more_set}
use Rattle.std.proofs.lemmas.List.Sums.{sum_by_push}
use Rattle.std.proofs.lemmas.Bool.Decides.{nat_tests}
use Rattle.model.specs.declared.units.Burn.{Burn}
use Rattle.model.specs.Plain.{exceeds}
use Rattle.model.specs.Units.{Standing, burned}

-- what holds of the burn that is written, and of all others, holds at every place
pub at_set : (P : Burn → Type 0) (bs : List Burn) (n : ℕ) (b d : Burn) → n < length bs → P b → ((k : ℕ) → P (get_or bs k d)) → (k : ℕ) → P (get_or (set bs n b) k d)
at_set P bs n b d l here others k =
    elim (cases_eq k n) [
      | inl e ↦ rw (e, get_or-set_same bs n b d l) here
      | inr e ↦ rw (get_or-set_other bs n k b d e) (others k)
    ]

-- a burn that does not exceed the limit leaves the sum below it
pub capped-more : (u : Standing) (bs : List Burn) (n : ℕ) (b : Burn) → n < length bs → u.burns ≡ take n bs → exceeds u b ≡ false → u.entry.efficiency ≡ 0 → sum_by burned (take (n + 1) (set bs n b)) ≤ 10000000000 * u.entry.generation
capped-more u bs n b l is low none =
    let s = sum_by_push burned (take n bs) b in
    let t = ap (sum_by burned) is in
    rw (take_more_set bs n b l) (grind (arith, nat_tests, s, t, low, none))
