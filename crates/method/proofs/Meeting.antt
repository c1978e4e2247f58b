-- What a method computes from the sums of a group is what it means.
use Rattle.std.proofs.Common.{◌≡◌, ℕ, ◌+◌, Bool, true, false, cond, eqb, List, map, Some, None, Ok, Err, filter, Result, refl, ap, ◌∙◌, ok_or, inl, inr}
use Rattle.std.proofs.lemmas.Bool.{cases_Bool}
use Rattle.model.specs.Course.{Course, if_walked}
use Rattle.model.specs.Fraction.{Frac, ratio}
use Rattle.model.specs.Methods.{average_answer, average_meaning, generated, generation, low_cost, mean, method_fault, other_than_low_cost, simple_answer}
use Rattle.model.specs.Operating.{simple_meaning, simple_share, years_fault}
use Rattle.model.specs.Rounding.{rounded}
use Rattle.model.specs.Shares.{Meets, judged, refused, shares}
use Rattle.model.specs.Units.{Listed}
use Rattle.model.specs.declared.faults.Layer.TheVariants.{Method}
use Rattle.model.specs.declared.faults.MethodFault.{MethodFault}
use Rattle.model.specs.declared.faults.RegisterFault.{RegisterFault}
use Rattle.model.specs.declared.faults.Rule.TheVariants.{NoShare}
use Rattle.model.specs.declared.records.YearlyPair.{YearlyPair}
use Rattle.method.specs.Groups.{group_sums, mean_of, sums_of}
use Rattle.method.specs.Pairs.{years_answer}
use Rattle.method.proofs.Grouping.{both-groups}
use Rattle.method.proofs.Tallies.{not-refused, refused-by}
use Rattle.method.proofs.Verdicts.{judged-walked}

some_is : {A : Type 0} (b : Bool) (x a : A) → Some a ≡ cond b None (Some x) → (b ≡ false) × (a ≡ x)
some_is true x a h = (cc, cc)
some_is false x a h = (refl, cc)

none_is : {A : Type 0} (b : Bool) (x : A) → None ≡ cond b None (Some x) → b ≡ true
none_is true x h = refl
none_is false x h = cc

-- the mean of the units ks, from their sums s
pub mean-some : (ks : List Listed) (s : ℕ × ℕ) (a : ℕ) → s ≡ sums_of ks → Some a ≡ mean_of s → (eqb (generation ks) 0 ≡ false) × (a ≡ mean ks)
mean-some ks s a sums h =
    let k = some_is (eqb s.1 0) (rounded (ratio s.0 s.1)) a h in
    (rw (ap (λ (x : ℕ × ℕ). x.1) sums) at k.0, k.1 ∙ ap (λ (x : ℕ × ℕ). rounded (ratio x.0 x.1)) sums)

-- a method that refuses where they generate nothing, and answers their mean where they do
module _ (ks : List Listed) (ss : List Frac) (s : ℕ × ℕ) where
  pub meets-none : s.1 ≡ generation ks → (P : ℕ → Type 0) (y : MethodFault) → None ≡ mean_of s → y ≡ record { fault = method_fault NoShare 0 } → Meets (cond (eqb (generation ks) 0) (refused (method_fault NoShare 0)) (shares ss)) P (Err y)
  meets-none generates P y h is =
      let none : eqb (generation ks) 0 ≡ true = rw generates at (none_is (eqb s.1 0) (rounded (ratio s.0 s.1)) h) in
      rw none (ap Err is)

  pub meets-some : (a : ℕ) → s ≡ sums_of ks → Some a ≡ mean_of s → Meets (cond (eqb (generation ks) 0) (refused (method_fault NoShare 0)) (shares ss)) (λ x. x ≡ mean ks) (Ok a)
  meets-some a sums h = let k = mean-some ks s a sums h in rw k.0 k.1

  meets-mean : s ≡ sums_of ks → (r : Result ℕ MethodFault) → r ≡ ok_or (mean_of s) (record { fault = method_fault NoShare 0 }) → Meets (cond (eqb (generation ks) 0) (refused (method_fault NoShare 0)) (shares ss)) (λ x. x ≡ mean ks) r
  meets-mean sums r is =
      rw (is, sums)
      (elim (cases_Bool (eqb (generation ks) 0)) [ inl e ↦ rw e refl | inr e ↦ rw e refl ])

-- ---- after a walk that came to its end, with the sums v of the groups

module _ (c : Course Listed) (v : (ℕ × ℕ) × (ℕ × ℕ))
    (walked : Ok v ≡ if_walked {B = Result ((ℕ × ℕ) × (ℕ × ℕ)) RegisterFault} Method c (Ok (group_sums c.units)) (λ f. Err (record { fault = f }))) where
  abbrev us : List Listed
  us = c.units

  sums-are : v ≡ group_sums us
  sums-are = (judged-walked average_meaning c (group_sums us) v walked).1

  pub low-cost-sums : v.0 ≡ sums_of (filter low_cost us)
  low-cost-sums = ap (λ (x : (ℕ × ℕ) × (ℕ × ℕ)). x.0) sums-are

  pub other-sums : v.1 ≡ sums_of (filter other_than_low_cost us)
  other-sums = ap (λ (x : (ℕ × ℕ) × (ℕ × ℕ)). x.1) sums-are

  -- both groups together
  all-sums : ◌≡◌ {A = ℕ × ℕ} (v.0.0 + v.1.0, v.0.1 + v.1.1) (sums_of us)
  all-sums =
      let e = both-groups us (λ u. rounded u.emission) in
      let g = both-groups us (λ u. u.generation) in
      rw sums-are (λ i. (e i, g i))

  averaged : judged average_meaning c ≡ average_meaning us
  averaged = (judged-walked average_meaning c (group_sums us) v walked).0

  pub average-none : (n : ℕ) (P : ℕ → Type 0) (y : MethodFault) → None ≡ mean_of (n, v.0.1 + v.1.1) → y ≡ record { fault = method_fault NoShare 0 } → Meets (judged average_meaning c) P (Err y)
  average-none n P y h is = rw averaged (meets-none us (map generated us) (n, v.0.1 + v.1.1) (ap (λ (x : ℕ × ℕ). x.1) all-sums) P y h is)

  pub average-some : (a : ℕ) → Some a ≡ mean_of (v.0.0 + v.1.0, v.0.1 + v.1.1) → Meets (judged average_meaning c) (λ x. x ≡ average_answer us) (Ok a)
  average-some a h = rw averaged (meets-some us (map generated us) _ a all-sums h)

  pub average-meets : (r : Result ℕ MethodFault) → r ≡ ok_or (mean_of (v.0.0 + v.1.0, v.0.1 + v.1.1)) (record { fault = method_fault NoShare 0 }) → Meets (judged average_meaning c) (λ x. x ≡ average_answer us) r
  average-meets r is = rw averaged (meets-mean us (map generated us) (v.0.0 + v.1.0, v.0.1 + v.1.1) all-sums r is)

  module _ (ps : List YearlyPair) where
    simplified : judged (simple_meaning ps) c ≡ simple_meaning ps us
    simplified = (judged-walked (simple_meaning ps) c (group_sums us) v walked).0

    -- the fault of the pairs
    pub simple-years : (P : ℕ → Type 0) (y : MethodFault) → Err y ≡ years_answer ps → Meets (judged (simple_meaning ps) c) P (Err y)
    simple-years P y h = rw (simplified, refused-by (years_fault ps) y tt h) refl

    module _ (passes : Ok tt ≡ years_answer ps) where
      no-fault : years_fault ps ≡ None
      no-fault = not-refused (years_fault ps) tt passes

      pub simple-none : (P : ℕ → Type 0) (y : MethodFault) → None ≡ mean_of v.1 → y ≡ record { fault = method_fault NoShare 0 } → Meets (judged (simple_meaning ps) c) P (Err y)
      simple-none P y h is = rw (simplified, no-fault) (meets-none (filter other_than_low_cost us) (map simple_share us) v.1 (ap (λ (x : ℕ × ℕ). x.1) other-sums) P y h is)

      pub simple-some : (a : ℕ) → Some a ≡ mean_of v.1 → Meets (judged (simple_meaning ps) c) (λ x. x ≡ simple_answer us) (Ok a)
      simple-some a h = rw (simplified, no-fault) (meets-some (filter other_than_low_cost us) (map simple_share us) v.1 a other-sums h)
