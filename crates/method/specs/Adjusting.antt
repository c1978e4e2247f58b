-- The simple adjusted method: its shares, and its distance from the exact margin.
use Rattle.std.specs.Prelude.{◌≡◌, ℕ, ◌-◌, ◌*◌, ◌<◌, ◌≤◌, Bool, true, false, cond, List, [], ◌∷◌, map, sum_by, filter, ◌==◌, nat_lt}
use Rattle.std.proofs.Common.{inl, inr, ap, ◌∙◌, arith}
use Rattle.std.proofs.Math.Path.{refl}
use Rattle.std.proofs.ByRecursion.{all_kept_by}
use Rattle.std.proofs.lemmas.List.{nil_from_length}
use Rattle.std.proofs.lemmas.List.Sums.{count_by-le-length}
use Rattle.std.proofs.lemmas.Bool.{cases_Bool, cases_eq, eq-eqb, ne_eqb}
use Rattle.std.specs.List.{AllByRecursion}
use Rattle.model.specs.Fraction.{Frac, Within, over, ratio, times}
use Rattle.model.specs.LoadYears.{Hour, counts, first_fault, loads_from, low_cost_hours}
use Rattle.model.specs.Methods.{adjusted_share, generation, low_cost, other_than_low_cost}
use Rattle.model.specs.Operating.{adjusted_answer, adjusted_meaning, hours_below, low_cost_generation, low_cost_mean, other_generation}
use Rattle.model.specs.Shares.{Fair, Verdict, exact, refused, shares, weighted}
use Rattle.model.specs.Units.{InRange, Listed, Ranged}
use Rattle.model.specs.declared.faults.Fault.{Fault}
use Rattle.model.proofs.Distances.{within_more, within-rounded}
use Rattle.model.proofs.Joining.{generates-more}
use Rattle.model.proofs.LowCost.{low-cost-hours-grow}
use Rattle.model.proofs.Members.{length-generation}
use Rattle.model.proofs.Rounding.{rounded-whole}
use Rattle.load.proofs.InOrder.{length-loads}
use Rattle.method.specs.Means.{grams-near, group-near, share, some-shares, unfaulted}
use Rattle.method.specs.Mixing.{mixed-fair, mixed-near}

-- ---- the low-cost units, of which there may be none

-- K, or 1 in its place where it is 0
abbrev or_one : ℕ → ℕ
or_one k = cond (k == 0) 1 k

one-some : (k : ℕ) → 0 < or_one k
one-some k = elim (cases_eq k 0) [ inl z ↦ rw (eq-eqb k 0 z) (omega arith) | inr n ↦ rw (ne_eqb k 0 n) (omega (arith, n)) ]

no-low-cost : (us : List Listed) → Ranged us → low_cost_generation us ≡ 0 → AllByRecursion (λ u. low_cost u ≡ false) us
no-low-cost [] h none = tt
no-low-cost (u ∷ us) h none =
    elim (cases_Bool (low_cost u)) [
      | inl e ↦ let k = rw e at none in absurd (omega (arith, k, generates-more u (filter low_cost us), h.0.some))
      | inr e ↦ (e, no-low-cost us h.1 (rw e at none))
    ]

module _ (hours h m : ℕ) where
  share-alike : (k l : ℕ) (us : List Listed) → AllByRecursion (λ u. low_cost u ≡ false) us → map (adjusted_share hours h k m) us ≡ map (adjusted_share hours h l m) us
  share-alike k l [] none = refl
  share-alike k l (u ∷ us) none =
      let rest = share-alike k l us none.1 in
      rw none.0 (ap (λ ss. times (ratio (hours - h) hours) (ratio u.generation m) ∷ ss) rest)

  -- without low-cost units it does not matter what stands below their weight
  shares-one : (us : List Listed) → Ranged us → map (adjusted_share hours h (low_cost_generation us) m) us ≡ map (adjusted_share hours h (or_one (low_cost_generation us)) m) us
  shares-one us ranged =
      elim (cases_eq (low_cost_generation us) 0) [
        | inl z ↦ share-alike (low_cost_generation us) (or_one (low_cost_generation us)) us (no-low-cost us ranged z)
        | inr n ↦ rw (ne_eqb (low_cost_generation us) 0 n) refl
      ]

low-cost-near : (us : List Listed) → Ranged us → Within (ratio 2 2) (low_cost_mean us) (over (weighted (map (share low_cost) us) us) (ratio (or_one (low_cost_generation us)) 1))
low-cost-near us ranged =
    let ks = filter low_cost us in
    let whole = weighted (map (share low_cost) us) us in
    let near = grams-near low_cost us ranged in
    elim (cases_eq (generation ks) 0) [
      | inl z ↦
          let none : ks ≡ [] = nil_from_length ks (omega (arith, z, length-generation ks (all_kept_by low_cost InRange us ranged))) in
          let zero : Within (ratio 0 2) 0 whole = rw none at near in
          rw (eq-eqb (generation ks) 0 z)
          (within_more 2 1 2 2 0 (over whole (ratio 1 1)) (omega arith) (omega arith) (rw (rounded-whole 0) at (within-rounded 0 0 1 whole (omega arith) zero)))
      | inr n ↦ rw (ne_eqb (generation ks) 0 n) (group-near low_cost us (omega (arith, n)) ranged)
    ]

-- ---- the whole list

-- a list that is not refused has shares
below-shares : (b : Bool) (f : Fault) (v : Verdict) (ss : List Frac) → cond b (refused f) v ≡ shares ss → v ≡ shares ss
below-shares true f v ss e = cc
below-shares false f v ss e = e

module _ (hours : ℕ) (some : 0 < hours) (year : ℕ → Hour) (us : List Listed) (ss : List Frac) (ranged : Ranged us) (e : adjusted_meaning hours year us ≡ shares ss) where
  abbrev loads : List ℕ
  loads = loads_from year 0 hours

  abbrev h : ℕ
  h = hours_below loads us

  abbrev k : ℕ
  k = low_cost_generation us

  abbrev m : ℕ
  m = other_generation us

  found : (ss ≡ map (adjusted_share hours h k m) us) × (0 < m)
  unfolding adjusted_meaning
  found = some-shares m _ ss _ (below-shares (nat_lt (sum_by (λ l. l) loads) k) _ _ ss (unfaulted (first_fault year 0 hours) _ ss e))

  shares-are : ss ≡ map (adjusted_share hours h (or_one k) m) us
  shares-are = found.0 ∙ shares-one hours h m us ranged

  few : h ≤ hours
  few = omega (arith, count_by-le-length (counts loads k) loads, length-loads year hours 0)

  -- where nothing stands below their weight, the low-cost units have none
  weightless : h * k ≡ h * or_one k
  weightless =
      elim (cases_eq k 0) [
        | inl z ↦ let none : h ≡ 0 = ap (low_cost_hours loads) z ∙ low-cost-hours-grow.none loads in rw none (omega arith)
        | inr n ↦ rw (ne_eqb k 0 n) refl
      ]

  pub adjusted-fair : Fair ss us
  adjusted-fair = rw shares-are (mixed-fair low_cost (hours - h) h hours m (or_one k) us ranged found.1 (one-some k) some refl weightless (omega (arith, few)))

  pub adjusted-near : (a : ℕ) → a ≡ adjusted_answer hours year us → Within (ratio 3 2) a (exact ss us)
  unfolding adjusted_answer
  adjusted-near a is =
      rw (is, shares-are)
      (mixed-near low_cost (hours - h) h hours m (or_one k) us ranged found.1 (one-some k) some refl weightless (omega (arith, few)) _ _
      (group-near other_than_low_cost us found.1 ranged) (low-cost-near us ranged))
