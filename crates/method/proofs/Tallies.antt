-- The yearly pairs: what a pair that stands has passed, and why there is always room.
use Rattle.std.proofs.Common.{◌≡◌, ℕ, zero, suc, ◌+◌, ◌<◌, ◌≤◌, Bool, true, false, cond, not, eqb, List, [], ◌∷◌, ◌++◌, length, get_or, Some, None, Ok, Err, sum_by, count_by, Option, refl, inl, inr, arith}
use Rattle.std.specs.List.{AllByRecursion, AllPass, list_any}
use Rattle.std.proofs.ByRecursion.{All-get_or}
use Rattle.std.proofs.lemmas.List.{length_push}
use Rattle.std.proofs.lemmas.List.Elements.{All-head, All-tail}
use Rattle.std.proofs.lemmas.Grind.{elements}
use Rattle.std.proofs.lemmas.List.Sums.{sum_by-le, sum_by_push}
use Rattle.std.proofs.lemmas.Bool.{cases_Bool, eqb-true, ltb-false}
use Rattle.std.proofs.lemmas.Bool.Decides.{nat_tests}
use Rattle.model.specs.declared.faults.Fault.{Fault}
use Rattle.model.specs.declared.faults.MethodFault.{MethodFault}
use Rattle.model.specs.declared.faults.Rule.TheVariants.{MethodClosed, Missing}
use Rattle.model.specs.declared.records.YearlyPair.{YearlyPair}
use Rattle.model.specs.Faults.{first_of, unless_refused}
use Rattle.model.specs.Methods.{closed, method_fault}
use Rattle.model.specs.Operating.{is_year, pair_answer, pair_fault, pair_in_range, pairs_after, years_fault}
use Rattle.model.specs.Plain.{any}
use Rattle.model.proofs.Firsts.{count-cons}

pub record Ranged (p : YearlyPair) : Type 0 where
  pub year : p.year ≤ 4
  pub all : p.all ≤ 4000000
  pub lower : p.low_cost ≤ p.all

in-range : (p : YearlyPair) → pair_in_range p ≡ true → Ranged p
in-range p e = record { year = grind (arith, nat_tests); all = grind (arith, nat_tests); lower = grind (arith, nat_tests) }

pub range_at : (ps : List YearlyPair) (i : ℕ) (d : YearlyPair) → i < length ps → AllByRecursion (λ p. pair_in_range p ≡ true) ps → Ranged (get_or ps i d)
range_at ps i d l h = in-range (get_or ps i d) (All-get_or (λ p. pair_in_range p ≡ true) ps i d l h)

-- whether some element passes, by a search and by a count
pub any_is : {A : Type 0} (p : A → Bool) (xs : List A) → list_any p xs ≡ any p xs
any_is p [] = refl
any_is p (x ∷ xs) = grind (arith, nat_tests, any_is p xs, count-cons p x xs)

-- ---- a pair that is not refused

pub record Passed (ps : List YearlyPair) (p : YearlyPair) : Type 0 where
  pub none : pair_fault ps p ≡ None
  pub ranged : pair_in_range p ≡ true
  pub apart : count_by (is_year p.year) ps ≡ 0

pub not-refused : {A : Type 0} (f : Option Fault) (x : A) → Ok x ≡ unless_refused {E = MethodFault} (λ e. record { fault = e }) f x → f ≡ None
not-refused None x h = refl
not-refused (Some f) x h = cc

pub refused-by : {A : Type 0} (f : Option Fault) (y : MethodFault) (x : A) → Err y ≡ unless_refused {E = MethodFault} (λ e. record { fault = e }) f x → f ≡ Some y.fault
refused-by None y x h = cc
refused-by (Some f) y x h = cc

both-passed : (fits stands : Bool) (f g : Fault) → Ok (tt {0}) ≡ unless_refused {A = Unit {0}} {E = MethodFault} (λ e. record { fault = e }) (first_of ((not fits, f) ∷ (stands, g) ∷ [])) (tt {0}) → (fits ≡ true) × (stands ≡ false)
both-passed true true f g h = (refl, cc)
both-passed true false f g h = (refl, refl)
both-passed false stands f g h = (cc, cc)

pub passed : (ps : List YearlyPair) (p : YearlyPair) → Ok tt ≡ pair_answer ps p → Passed ps p
passed ps p h =
    let k = both-passed (pair_in_range p) (any (is_year p.year) ps) _ _ h in
    record { none = not-refused (pair_fault ps p) tt h; ranged = k.0; apart = omega (arith, ltb-false 0 (count_by (is_year p.year) ps) k.1) }

-- one that is refused leaves the pairs
pub pairs-stay : (ps : List YearlyPair) (p : YearlyPair) (y : MethodFault) → Err y ≡ pair_answer ps p → ps ≡ pairs_after ps p
pairs-stay ps p y h = rw (refused-by (pair_fault ps p) y tt h) refl

-- ---- five years, no two pairs of one year

abbrev pub Apart : List YearlyPair → Type 0
Apart ps = (y : ℕ) → count_by (is_year y) ps ≤ 1

abbrev years : List YearlyPair → ℕ
years ps = count_by (is_year 0) ps + count_by (is_year 1) ps + count_by (is_year 2) ps + count_by (is_year 3) ps + count_by (is_year 4) ps

one-year : (y : ℕ) → y ≤ 4 → cond (eqb y 0) 1 0 + cond (eqb y 1) 1 0 + cond (eqb y 2) 1 0 + cond (eqb y 3) 1 0 + cond (eqb y 4) 1 0 ≡ 1
one-year y l = grind (arith, nat_tests)

all-years : (ps : List YearlyPair) → AllPass pair_in_range ps → length ps ≡ years ps
all-years [] h = refl
all-years (p ∷ ps) h =
    omega (arith, all-years ps (All-tail (λ q. pair_in_range q ≡ true) p ps h), one-year p.year (in-range p (All-head (λ q. pair_in_range q ≡ true) p ps h)).year, count-cons (is_year 0) p ps, count-cons (is_year 1) p ps, count-cons (is_year 2) p ps, count-cons (is_year 3) p ps, count-cons (is_year 4) p ps)

-- Five pairs at most stand.
few : (ps : List YearlyPair) → AllPass pair_in_range ps → Apart ps → length ps ≤ 5
few ps ranged apart = omega (arith, all-years ps ranged, apart 0, apart 1, apart 2, apart 3, apart 4)

pub sums-few : (ps : List YearlyPair) → AllPass pair_in_range ps → Apart ps → (sum_by (λ p. p.low_cost) ps ≤ 20000000) × (sum_by (λ p. p.all) ps ≤ 20000000)
sums-few ps ranged apart =
    let l = few ps ranged apart in
    let all = sum_by-le (λ (p : YearlyPair). p.all) 4000000 ps (λ k d i. (in-range (get_or ps k d) (ranged k d i)).all) in
    let low = sum_by-le (λ (p : YearlyPair). p.low_cost) 4000000 ps (λ k d i. let r = in-range (get_or ps k d) (ranged k d i) in omega (arith, r.all, r.lower)) in
    (omega arith, omega arith)

-- ---- with one pair more

module _ (ps : List YearlyPair) (p : YearlyPair) where
  pub ranged-more : pair_in_range p ≡ true → AllPass pair_in_range ps → AllPass pair_in_range (ps ++ p ∷ [])
  ranged-more here ranged = grind (arith, elements, here)

  pub apart_more : count_by (is_year p.year) ps ≡ 0 → Apart ps → Apart (ps ++ p ∷ [])
  apart_more none apart y =
      let s = sum_by_push (λ q. cond (is_year y q) 1 0) ps p in
      elim (cases_Bool (is_year y p)) [
        | inl e ↦ let z = rw (eqb-true p.year y e) at none in grind (arith, s, e, z)
        | inr e ↦ grind (arith, s, e, apart y)
      ]

  -- one that is not refused finds a free place
  pub room : Passed ps p → AllPass pair_in_range ps → Apart ps → length ps < 5
  room h ranged apart = omega (arith, few (ps ++ p ∷ []) (ranged-more h.ranged ranged) (apart_more h.apart apart), length_push ps p)

-- ---- what refuses the method by its pairs

abbrev Stands : List YearlyPair → ℕ → Type 0
Stands ps y = any (is_year y) ps ≡ true

-- the first year that is missing
pub year-missing : (ps : List YearlyPair) (y : ℕ) → y < 5 → ((k : ℕ) → k < y → Stands ps k) → any (is_year y) ps ≡ false → years_fault ps ≡ Some (method_fault Missing y)
year-missing ps zero l before here = rw here refl
year-missing ps (suc zero) l before here = rw (before 0 (omega arith), here) refl
year-missing ps (suc (suc zero)) l before here = rw (before 0 (omega arith), before 1 (omega arith), here) refl
year-missing ps (suc (suc (suc zero))) l before here = rw (before 0 (omega arith), before 1 (omega arith), before 2 (omega arith), here) refl
year-missing ps (suc (suc (suc (suc zero)))) l before here = rw (before 0 (omega arith), before 1 (omega arith), before 2 (omega arith), before 3 (omega arith), here) refl
year-missing ps (suc (suc (suc (suc (suc n))))) l before here = absurd (omega arith)

module _ (ps : List YearlyPair) (all : (k : ℕ) → k < 5 → Stands ps k) where
  pub years-closed : closed ps ≡ true → years_fault ps ≡ Some (method_fault MethodClosed 0)
  years-closed e = rw (all 0 (omega arith), all 1 (omega arith), all 2 (omega arith), all 3 (omega arith), all 4 (omega arith), e) refl

  pub years-open : closed ps ≡ false → years_fault ps ≡ None
  years-open e = rw (all 0 (omega arith), all 1 (omega arith), all 2 (omega arith), all 3 (omega arith), all 4 (omega arith), e) refl
