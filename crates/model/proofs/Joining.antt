-- How many units join one after another: the sample run and the joins are fronts that stop as soon as there are enough.
use Rattle.std.proofs.Common.{◌≡◌, ℕ, zero, suc, ◌+◌, ◌<◌, ◌≤◌, Bool, true, false, cond, ◌&&◌, leb, List, [], ◌∷◌, length, take, refl, inl, inr, le_antisymm, one-add, arith}
use Rattle.std.proofs.lemmas.List.{take_all}
use Rattle.std.proofs.lemmas.List.Sums.{sum_by-cons}
use Rattle.std.proofs.lemmas.Bool.{and_cases, and_parts, cases_lt, leb-false, leb-true}
use Rattle.model.specs.Cohort.{Joined, SampleRun, Sufficient, join_count, joining, reaches, sample_count, target, unregistered}
use Rattle.model.specs.Methods.{generation}
use Rattle.model.specs.Units.{Listed}

pub generates-more : (u : Listed) (us : List Listed) → generation (u ∷ us) ≡ u.generation + generation us
generates-more u us = sum_by-cons (λ (v : Listed). v.generation) u us

pub joining-within : (enough : ℕ → ℕ → Bool) (n g : ℕ) (us : List Listed) → joining enough n g us ≤ length us
joining-within enough n g [] = omega arith
joining-within enough n g (u ∷ us) =
    let later = joining-within enough (n + 1) (g + u.generation) us in
    elim (enough n g) as (λ b. cond b 0 (1 + joining enough (n + 1) (g + u.generation) us) ≤ length (u ∷ us)) [ true ↦ omega arith | false ↦ omega arith ]

pub joining-alike : (e f : ℕ → ℕ → Bool) → ((n g : ℕ) → e n g ≡ f n g) → (n g : ℕ) (us : List Listed) → joining e n g us ≡ joining f n g us
joining-alike e f same n g [] = refl
joining-alike e f same n g (u ∷ us) = rw (same n g, joining-alike e f same (n + 1) (g + u.generation) us)

module _ (enough : ℕ → ℕ → Bool) where
  -- k units join n that generate g: before, it was never enough, and then it is, or no others are left
  record Stops (n g : ℕ) (us : List Listed) (k : ℕ) : Type 0 where
    pub before : (j : ℕ) → j < k → enough (n + j) (g + generation (take j us)) ≡ false
    pub then : k < length us → enough (n + k) (g + generation (take k us)) ≡ true

  none_more : (n g : ℕ) (b : Bool) → enough n g ≡ b → enough (n + 0) (g + 0) ≡ b
  none_more n g b h = let x : n + 0 ≡ n = omega arith in let y : g + 0 ≡ g = omega arith in cc

  stops-none : (n g : ℕ) (us : List Listed) → (0 < length us → enough n g ≡ true) → Stops n g us 0
  stops-none n g us h = record { before = λ j l. absurd (omega arith); then = λ l. none_more n g true (h l) }

  before_more : (f : ℕ → Bool) (k : ℕ) → f 0 ≡ false → ((j : ℕ) → j < k → f (suc j) ≡ false) → (j : ℕ) → j < suc k → f j ≡ false
  before_more f k z h zero l = z
  before_more f k z h (suc j) l = h j (omega arith)

  stops-more : (n g : ℕ) (u : Listed) (us : List Listed) (k : ℕ) → enough n g ≡ false → Stops (n + 1) (g + u.generation) us k → Stops n g (u ∷ us) (suc k)
  stops-more n g u us k short w =
      let shift : (j : ℕ) (b : Bool) → enough (n + 1 + j) (g + u.generation + generation (take j us)) ≡ b → enough (n + suc j) (g + generation (u ∷ take j us)) ≡ b =
      λ j b e.
      let x : n + 1 + j ≡ n + suc j = omega arith in
      let y : g + u.generation + generation (take j us) ≡ g + generation (u ∷ take j us) = omega (arith, generates-more u (take j us)) in
      cc in
      record {
        before = before_more (λ j. enough (n + j) (g + generation (take j (u ∷ us)))) k (none_more n g false short) (λ j l. shift j false (w.before j l));
        then = λ l. shift k true (w.then (omega arith));
      }

  stops-one : (n g : ℕ) (u : Listed) (us : List Listed) (k : ℕ) → Stops (n + 1) (g + u.generation) us k → (b : Bool) → enough n g ≡ b → Stops n g (u ∷ us) (cond b 0 (1 + k))
  stops-one n g u us k w true h = stops-none n g (u ∷ us) (λ _. h)
  stops-one n g u us k w false h = rw one-add (stops-more n g u us k h w)

  stops : (us : List Listed) (n g : ℕ) → Stops n g us (joining enough n g us)
  stops [] n g = stops-none n g [] (λ l. absurd (omega arith))
  stops (u ∷ us) n g = stops-one n g u us _ (stops us (n + 1) (g + u.generation)) (enough n g) refl

plus_none : (n : ℕ) → 0 + n ≡ n
plus_none n = omega arith

pub join-count : (t g : ℕ) (others : List Listed) → Joined t g others (join_count t g others)
join-count t g others =
    let enough : ℕ → ℕ → Bool = λ n h. reaches t (g + h) in
    let w = stops enough others 0 0 in
    record {
      within = joining-within enough 0 0 others;
      while = λ j l. leb-false _ _ (simp plus_none at (w.before j l));
      stopped = λ l. leb-true _ _ (simp plus_none at (w.then l));
    }

module _ (us : List Listed) where
  abbrev five : ℕ → ℕ → Bool
  five n g = leb 5 n && reaches (target us) g

  abbrev least : ℕ
  least = sample_count us

  within : least ≤ length (unregistered us)
  within = joining-within five 0 0 (unregistered us)

  suffices : Sufficient us least
  suffices =
      elim (cases_lt least (length (unregistered us))) [
        | inl less ↦
            let both = and_parts _ _ (simp plus_none at ((stops five (unregistered us) 0 0).then less)) in
            let many = leb-true 5 least both.0 in
            record { within = within; five = omega arith; fifth = leb-true _ _ both.1 }
        | inr all ↦ record { within = within; five = omega arith; fifth = rw (take_all least (unregistered us) all) (omega arith) }
      ]

  pub sample-count : SampleRun us least
  sample-count =
      record {
        enough = suffices;
        shortest =
            λ j h.
            elim (cases_lt j least) [
              | inl less ↦
                  elim (and_cases (leb 5 j) (reaches (target us) (generation (take j (unregistered us)))) (simp plus_none at ((stops five (unregistered us) 0 0).before j less))) [
                    | inl few ↦ absurd (omega (arith, leb-false 5 j few, h.five, within))
                    | inr low ↦ absurd (omega (arith, leb-false _ _ low, h.fifth))
                  ]
              | inr more ↦ more
            ];
      }

-- ---- only one number of units is the sample run, and only one joins

pub sample-once : (us : List Listed) (k j : ℕ) → SampleRun us k → SampleRun us j → j ≡ k
sample-once us k j p q = le_antisymm (q.shortest k p.enough) (p.shortest j q.enough)

join-below : (t g : ℕ) (others : List Listed) (n m : ℕ) → Joined t g others n → Joined t g others m → n ≤ m
join-below t g others n m p q = elim (cases_lt m n) [ inl less ↦ absurd (omega (arith, p.while m less, q.stopped (omega (arith, p.within)))) | inr more ↦ more ]

pub join-once : (t g : ℕ) (others : List Listed) (n m : ℕ) → Joined t g others n → Joined t g others m → n ≡ m
join-once t g others n m p q = le_antisymm (join-below t g others n m p q) (join-below t g others m n q p)
