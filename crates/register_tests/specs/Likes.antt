-- Lists of like units.
use Rattle.std.specs.Prelude.{◌≡◌, ℕ, zero, suc, ◌-◌, ◌≤◌, true, ◌∷◌, replicate, refl}
use Rattle.std.proofs.Common.{arith}
use Rattle.std.proofs.lemmas.List.Elements.{All-replicate, recursion_from_All}
use Rattle.std.specs.List.{AllByRecursion}
use Rattle.model.specs.Calendar.{is_day}
use Rattle.model.specs.Units.{Falling, InRange, Listed}
use Rattle.register_tests.specs.Fleets.{fleet_unit}

-- what holds of one holds of all
pub all-like : {A : Type 0} (P : A → Type 0) (n : ℕ) (x : A) → P x → AllByRecursion P (replicate n x)
all-like P n x h = recursion_from_All P (replicate n x) (All-replicate P n x h)

pub like-falls : (n : ℕ) (u : Listed) → Falling (replicate n u)
like-falls zero u = tt
like-falls (suc n) u = (all-like (λ v. v.day ≤ u.day) n u (omega arith), like-falls n u)

-- one more to come
pub like-more : {A : Type 0} (n : ℕ) (x : A) → 1 ≤ n → replicate n x ≡ x ∷ replicate (n - 1) x
like-more zero x h = absurd (omega arith)
like-more (suc n) x h = let e : suc n - 1 ≡ n = omega arith in rw e refl

pub unit-ranged : (code day : ℕ) → 1 ≤ code → code ≤ 65535 → is_day day ≡ true → InRange (fleet_unit code day)
unit-ranged code day coded short valid =
    record {
      coded = coded;
      short = short;
      dated = valid;
      some = omega arith;
      most = omega arith;
      emits = record { real = omega arith; cap = omega arith };
      defaults = tt;
    }
