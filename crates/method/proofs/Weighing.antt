-- What the simple adjusted method computes from the sums of the groups and the loads of a year is what it means.
use Rattle.std.proofs.Common.{◌≡◌, ℕ, ◌+◌, ◌-◌, ◌*◌, ◌<◌, ◌≤◌, Bool, true, false, cond, eqb, ltb, List, length, IfSome, Some, None, Ok, Err, sum_by, filter, Option, Result, unwrap_or, sym, refl, ap, ◌∙◌, arith}
use Rattle.std.proofs.lemmas.List.Sums.{count_by-le-length}
use Rattle.std.proofs.lemmas.Bool.{le-ltb, lt-ltb}
use Rattle.model.specs.Course.{Course, if_walked}
use Rattle.model.specs.Fraction.{ratio}
use Rattle.model.specs.LoadYears.{Hour, counts, loads_from, low_cost_hours, read_year}
use Rattle.model.specs.Methods.{method_fault, other_than_low_cost, unless_fault}
use Rattle.model.specs.Operating.{adjusted_answer, adjusted_margin, adjusted_meaning, adjusted_verdict, hours_below, low_cost_generation, low_cost_mean}
use Rattle.model.specs.Rounding.{rounded}
use Rattle.model.specs.Shares.{Meets, judged}
use Rattle.model.specs.Units.{Listed}
use Rattle.model.specs.declared.faults.Layer.TheVariants.{Method}
use Rattle.model.specs.declared.faults.LoadFault.{LoadFault}
use Rattle.model.specs.declared.faults.MethodFault.{MethodFault}
use Rattle.model.specs.declared.faults.RegisterFault.{RegisterFault}
use Rattle.model.specs.declared.faults.Rule.TheVariants.{LowCostAboveLoad, NoShare}
use Rattle.load.proofs.InOrder.{length-loads, read-refused, read_whole}
use Rattle.method.specs.Groups.{group_sums, mean_of}
use Rattle.method.proofs.Meeting.{low-cost-sums, mean-some, meets-none, other-sums}
use Rattle.method.proofs.Verdicts.{judged-walked}

-- a mixture of two figures stays below their limit
pub mixture-small : (n h a b : ℕ) → h ≤ n → a ≤ 10000000 → b ≤ 10000000 → (n - h) * a + h * b ≤ 10000000 * n
mixture-small n h a b few small low = grind arith

-- the value of a mean that may be none
value_of : (b : Bool) (x : ℕ) → unwrap_or (cond b None (Some x)) 0 ≡ cond b 0 x
value_of true x = refl
value_of false x = refl

pub value-small : (o : Option ℕ) → IfSome o (λ a. a ≤ 10000000) → unwrap_or o 0 ≤ 10000000
value-small None h = omega arith
value-small (Some a) h = h

-- there are no more low-cost hours than hours
pub hours-few : (hours : ℕ) (year : ℕ → Hour) (loads : List ℕ) (k : ℕ) → Ok loads ≡ read_year year hours → low_cost_hours loads k ≤ hours
hours-few hours year loads k read =
    omega (arith, count_by-le-length (counts loads k) loads, ap length (read_whole year hours loads read).1, length-loads year hours 0)

module _ (hours : ℕ) (year : ℕ → Hour) (c : Course Listed) (v : (ℕ × ℕ) × (ℕ × ℕ))
    (walked : Ok v ≡ if_walked {B = Result ((ℕ × ℕ) × (ℕ × ℕ)) RegisterFault} Method c (Ok (group_sums c.units)) (λ f. Err (record { fault = f }))) where
  abbrev us : List Listed
  us = c.units

  adjusted : judged (adjusted_meaning hours year) c ≡ adjusted_meaning hours year us
  adjusted = (judged-walked (adjusted_meaning hours year) c (group_sums us) v walked).0

  -- the fault of an hour
  pub adjusted-hours : (P : ℕ → Type 0) (x : LoadFault) (y : MethodFault) → y.fault ≡ x.fault → Err x ≡ read_year year hours → Meets (judged (adjusted_meaning hours year) c) P (Err y)
  unfolding adjusted_meaning
  adjusted-hours P x y same h = rw (adjusted, read-refused year hours x h) (ap (λ f. Err (record { fault = f })) same)

  module _ (loads : List ℕ) (read : Ok loads ≡ read_year year hours) where
    whole : loads ≡ loads_from year 0 hours
    whole = (read_whole year hours loads read).1

    -- what is left to judge, by the loads as they were read
    by-loads : judged (adjusted_meaning hours year) c ≡ adjusted_verdict hours loads us
    unfolding adjusted_meaning
    by-loads = adjusted ∙ ap (λ f. unless_fault f (adjusted_verdict hours (loads_from year 0 hours) us)) (read_whole year hours loads read).0 ∙ ap (λ ls. adjusted_verdict hours ls us) (sym whole)

    generates : v.0.1 ≡ low_cost_generation us
    generates = ap (λ (x : ℕ × ℕ). x.1) (low-cost-sums c v walked)

    pub adjusted-above : (P : ℕ → Type 0) (y : MethodFault) → sum_by (λ l. l) loads < v.0.1 → y ≡ record { fault = method_fault LowCostAboveLoad 0 } → Meets (judged (adjusted_meaning hours year) c) P (Err y)
    adjusted-above P y above is = rw (by-loads, lt-ltb (sum_by (λ l. l) loads) (low_cost_generation us) (rw generates at above)) (ap Err is)

    module _ (covered : v.0.1 ≤ sum_by (λ l. l) loads) where
      not-above : ltb (sum_by (λ l. l) loads) (low_cost_generation us) ≡ false
      not-above = le-ltb (sum_by (λ l. l) loads) (low_cost_generation us) (rw generates at covered)

      pub adjusted-none : (P : ℕ → Type 0) (y : MethodFault) → None ≡ mean_of v.1 → y ≡ record { fault = method_fault NoShare 0 } → Meets (judged (adjusted_meaning hours year) c) P (Err y)
      adjusted-none P y h is = rw (by-loads, not-above) (meets-none (filter other_than_low_cost us) _ v.1 (ap (λ (x : ℕ × ℕ). x.1) (other-sums c v walked)) P y h is)

      pub adjusted-some : (h a b r : ℕ) → Some a ≡ mean_of v.1 → h ≡ low_cost_hours loads v.0.1 → b ≡ unwrap_or (mean_of v.0) 0 → r ≡ rounded (ratio ((hours - h) * a + h * b) hours)
          → Meets (judged (adjusted_meaning hours year) c) (λ x. x ≡ adjusted_answer hours year us) (Ok r)
      unfolding adjusted_answer
      adjusted-some h a b r others below lows is =
          let k = mean-some (filter other_than_low_cost us) v.1 a (other-sums c v walked) others in
          let hs : h ≡ hours_below loads us = below ∙ ap (low_cost_hours loads) generates in
          let bs : b ≡ low_cost_mean us = lows ∙ value_of (eqb v.0.1 0) (rounded (ratio v.0.0 v.0.1)) ∙ ap (λ (x : ℕ × ℕ). cond (eqb x.1 0) 0 (rounded (ratio x.0 x.1))) (low-cost-sums c v walked) in
          rw (by-loads, not-above, k.0)
          (is ∙ (λ i. rounded (ratio ((hours - hs i) * k.1 i + hs i * bs i) hours)) ∙ ap (λ ls. adjusted_margin hours ls us) whole)
