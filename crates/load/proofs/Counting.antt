-- Low-cost hours counted by two loops.
use Rattle.std.proofs.Common.{◌≡◌, ℕ, ◌+◌, ◌-◌, ◌^◌, ◌<◌, ◌≤◌, min, true, false, List, length, get_or, take, sum_by, ap, arith}
use Rattle.std.proofs.lemmas.List.{take_all}
use Rattle.std.proofs.lemmas.List.Sums.{sum_by_more, sum_by-take-le}
use Rattle.std.proofs.lemmas.Bool.{le-ltb, lt-ltb}
use Rattle.model.specs.LoadYears.{counts}

-- Below K the saturated sum is the sum.
module _ (loads : List ℕ) (own k i below more : ℕ) (within : i < length loads) (is : below ≡ sum_by (λ l. min l own) (take i loads)) (step : more ≡ min (below + min (get_or loads i 0) own) (2 ^ 64 - 1)) where
  pub below_more : k < 2 ^ 64 → more < k → more ≡ sum_by (λ l. min l own) (take (i + 1) loads)
  below_more fits low = omega (arith, sum_by_more (λ l. min l own) loads i 0 within)

  pub reached : k ≤ more → counts loads k own ≡ false
  reached high = le-ltb _ k (omega (arith, sum_by_more (λ l. min l own) loads i 0 within, sum_by-take-le (λ l. min l own) loads (i + 1)))

pub never-reached : (loads : List ℕ) (own k i below : ℕ) → length loads ≤ i → below ≡ sum_by (λ l. min l own) (take i loads) → below < k → counts loads k own ≡ true
never-reached loads own k i below all is low = lt-ltb _ k (omega (arith, ap (sum_by (λ l. min l own)) (take_all i loads all)))
