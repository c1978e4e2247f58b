-- The walk's fold gives the sums of the groups.
use Rattle.std.proofs.Common.{◌≡◌, ℕ, ◌+◌, ◌≤◌, cond, not, List, [], ◌∷◌, map, length, take, Ok, Err, fold, sum_by, filter, Result, refl, ◌∙◌, arith}
use Rattle.std.proofs.lemmas.List.Filters.{sum_by-filter_both}
use Rattle.std.proofs.lemmas.List.Sums.{sum_by-cons}
use Rattle.model.specs.Classes.{is_low_cost}
use Rattle.model.specs.Course.{Course, if_walked}
use Rattle.model.specs.Methods.{low_cost, other_than_low_cost}
use Rattle.model.specs.Rounding.{rounded}
use Rattle.model.specs.Units.{Listed, told}
use Rattle.model.specs.declared.faults.Layer.TheVariants.{Method}
use Rattle.model.specs.declared.faults.RegisterFault.{RegisterFault}
use Rattle.model.specs.declared.units.PowerUnit.{PowerUnit}
use Rattle.model.proofs.Sums.{sum_kept}
use Rattle.register.proofs.Walking.{walk-folds}
use Rattle.method.specs.Groups.{Small, group_sums, nothing, stepped, sums_of}
use Rattle.method.specs.declared.groups.GroupSums.{GroupSums}

-- each number of the fold adds up a weight of the units
folded-sum : (part : GroupSums → ℕ) (w : PowerUnit → ℕ) → ((s : GroupSums) (u : PowerUnit) → part (stepped s u) ≡ part s + w u)
    → (us : List Listed) (s : GroupSums) → part (fold stepped s (map told us)) ≡ part s + sum_by (λ u. w (told u)) us
folded-sum part w h [] s = omega arith
folded-sum part w h (u ∷ us) s =
    omega (arith, folded-sum part w h us (stepped s (told u)), h s (told u), sum_by-cons (λ v. w (told v)) u us)

pair_is : {a b c d : ℕ} → a ≡ c → b ≡ d → ◌≡◌ {A = ℕ × ℕ} (a, b) (c, d)
pair_is p q = λ i. (p i, q i)

module _ (us : List Listed) where
  low-cost-sums : (fold stepped nothing (map told us)).low_cost ≡ sums_of (filter low_cost us)
  low-cost-sums =
      pair_is
      (folded-sum (λ s. s.low_cost.0) (λ u. cond (is_low_cost u.class) u.grams 0) (λ s u. refl) us nothing ∙ omega (arith, sum_kept (λ u. rounded u.emission) low_cost us))
      (folded-sum (λ s. s.low_cost.1) (λ u. cond (is_low_cost u.class) u.generation 0) (λ s u. refl) us nothing ∙ omega (arith, sum_kept (λ u. u.generation) low_cost us))

  other-sums : (fold stepped nothing (map told us)).other ≡ sums_of (filter other_than_low_cost us)
  other-sums =
      pair_is
      (folded-sum (λ s. s.other.0) (λ u. cond (not (is_low_cost u.class)) u.grams 0) (λ s u. refl) us nothing ∙ omega (arith, sum_kept (λ u. rounded u.emission) other_than_low_cost us))
      (folded-sum (λ s. s.other.1) (λ u. cond (not (is_low_cost u.class)) u.generation 0) (λ s u. refl) us nothing ∙ omega (arith, sum_kept (λ u. u.generation) other_than_low_cost us))

-- what the walk's answer and its fold come to
module _ (c : Course Listed) (n : ℕ) (s : GroupSums)
    (walked : Ok n ≡ if_walked {B = Result ℕ RegisterFault} Method c (Ok (length c.units)) (λ f. Err (record { fault = f })))
    (is : s ≡ fold stepped nothing (take 4000 (map told c.units))) where
  abbrev parts : GroupSums → (ℕ × ℕ) × (ℕ × ℕ)
  parts x = (x.low_cost, x.other)

  walks : (Ok (parts s) ≡ if_walked {B = Result ((ℕ × ℕ) × (ℕ × ℕ)) RegisterFault} Method c (Ok (group_sums c.units)) (λ f. Err (record { fault = f }))) × (n ≤ 4000)
  walks = walk-folds Method (λ f. record { fault = f }) (λ f. record { fault = f }) stepped nothing s parts c n (group_sums c.units) walked is (λ i. (low-cost-sums c.units i, other-sums c.units i))

  pub sums-answer : Ok (s.low_cost, s.other) ≡ if_walked {B = Result ((ℕ × ℕ) × (ℕ × ℕ)) RegisterFault} Method c (Ok (group_sums c.units)) (λ f. Err (record { fault = f }))
  sums-answer = walks.0

  pub sums-small : Small s n → s.low_cost.1 + s.other.1 ≤ 400000000000
  sums-small f = omega (arith, f.generation, walks.1)

-- both groups together are all units
pub both-groups : (us : List Listed) (w : Listed → ℕ) → sum_by w (filter low_cost us) + sum_by w (filter other_than_low_cost us) ≡ sum_by w us
both-groups us w = sum_by-filter_both low_cost other_than_low_cost (λ _. refl) w us
