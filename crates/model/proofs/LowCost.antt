-- The laws of loads and of low-cost hours.
use Rattle.std.proofs.Common.{◌≡◌, ℕ, zero, suc, ◌+◌, ◌<◌, ◌≤◌, min, Bool, false, cond, List, [], ◌∷◌, length, get_or, sum_by, count_by, refl, inl, inr, arith}
use Rattle.std.specs.List.{AllByRecursion}
use Rattle.std.proofs.ByRecursion.{All-weaker}
use Rattle.std.proofs.lemmas.List.Sums.{count_by-le-length, sum_by-cons}
use Rattle.std.proofs.lemmas.Bool.{cases_lt, le-leb, le-ltb, leb-true, lt-ltb, ltb-true}
use Rattle.std.proofs.lemmas.Bool.Decides.{nat_tests}
use Rattle.model.specs.LoadYears.{LoadLaws, LowCostHoursGrow, LowerCountFirst, most_load, NotEveryHourCounts, counts, is_load}
use Rattle.model.proofs.Firsts.{count-cons}

pub load-laws : LoadLaws
unfolding is_load
load-laws = record {
  cap = λ n h. leb-true n most_load h;
  sum = λ m n h k small. le-leb (m + n) most_load small;
}

-- ---- sums by two weights

sum_mono : {A : Type 0} (f g : A → ℕ) → ((x : A) → f x ≤ g x) → (xs : List A) → sum_by f xs ≤ sum_by g xs
sum_mono f g le [] = omega arith
sum_mono f g le (x ∷ xs) = omega (arith, sum_by-cons f x xs, sum_by-cons g x xs, le x, sum_mono f g le xs)

sum-none : {A : Type 0} (f : A → ℕ) → ((x : A) → f x ≡ 0) → (xs : List A) → sum_by f xs ≡ 0
sum-none f none [] = refl
sum-none f none (x ∷ xs) = omega (arith, sum_by-cons f x xs, none x, sum-none f none xs)

pub lower-count-first : LowerCountFirst
lower-count-first loads k l m le h =
    lt-ltb _ k (omega (arith, sum_mono (λ x. min x l) (λ x. min x m) (λ x. omega arith) loads, ltb-true _ k h))

counts-more : (loads : List ℕ) (j k own : ℕ) → j ≤ k → cond (counts loads j own) 1 0 ≤ cond (counts loads k own) 1 0
counts-more loads j k own le = grind (arith, nat_tests)

pub low-cost-hours-grow : LowCostHoursGrow
low-cost-hours-grow = record {
  more = λ loads j k le. sum_mono (λ own. cond (counts loads j own) 1 0) (λ own. cond (counts loads k own) 1 0) (λ own. counts-more loads j k own le) loads;
  none = λ loads. sum-none (λ own. cond (counts loads 0 own) 1 0) (λ own. rw (le-ltb (sum_by (λ l. min l own) loads) 0 (omega arith)) refl) loads;
}

-- ---- the highest load

highest : (x : ℕ) (xs : List ℕ) → (i : ℕ) × (i < length (x ∷ xs)) × AllByRecursion (λ l. l ≤ get_or (x ∷ xs) i 0) (x ∷ xs)
highest x [] = (0, omega arith, (omega arith, tt))
highest x (y ∷ ys) =
    let m = highest y ys in
    elim (cases_lt (get_or (y ∷ ys) m.0 0) x) [
      | inl less ↦ (0, omega arith, (omega arith, All-weaker _ (λ l. l ≤ x) (λ l h. omega arith) (y ∷ ys) m.2))
      | inr more ↦ (suc m.0, omega (arith, m.1), (more, m.2))
    ]

sum-capped : (m : ℕ) (xs : List ℕ) → AllByRecursion (λ l. l ≤ m) xs → sum_by (λ l. min l m) xs ≡ sum_by (λ l. l) xs
sum-capped m [] all = refl
sum-capped m (x ∷ xs) all = omega (arith, sum_by-cons (λ l. min l m) x xs, sum_by-cons (λ l. l) x xs, all.0, sum-capped m xs all.1)

count-misses : {A : Type 0} (p : A → Bool) (d : A) (xs : List A) (i : ℕ) → i < length xs → p (get_or xs i d) ≡ false → count_by p xs < length xs
count-misses p d [] i l f = absurd (omega arith)
count-misses p d (x ∷ xs) zero l f = grind (arith, count-cons p x xs, f, count_by-le-length p xs)
count-misses p d (x ∷ xs) (suc i) l f = grind (arith, count-cons p x xs, count-misses p d xs i (omega arith) f)

pub not-every-hour-counts : NotEveryHourCounts
not-every-hour-counts [] k some le = absurd (omega arith)
not-every-hour-counts (x ∷ xs) k some le =
    let m = highest x xs in
    count-misses (counts (x ∷ xs) k) 0 (x ∷ xs) m.0 m.1 (le-ltb _ k (omega (arith, sum-capped (get_or (x ∷ xs) m.0 0) (x ∷ xs) m.2)))
