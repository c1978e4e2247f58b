-- Filters and fronts of lists, and a unit taken out of the middle.
use Rattle.std.proofs.Common.{◌≡◌, ℕ, zero, suc, ◌-◌, ◌<◌, ◌≤◌, Bool, true, false, cond, not, ◌&&◌, List, [], ◌∷◌, ◌++◌, length, take, filter, refl, ap, arith}
use Rattle.std.proofs.lemmas.List.Filters.{length-filter_both}
use Rattle.std.proofs.lemmas.List.Sorted.{IsPermutation-cons, IsPermutation-refl, IsPermutation-swap, IsPermutation-trans}
use Rattle.std.specs.List.Sorted.{IsPermutation}

module _ {X : Type 0} where
  pub kept-few : (p : X → Bool) (xs : List X) → length (filter p xs) ≤ length xs
  kept-few p xs = omega (arith, length-filter_both p (λ x. not (p x)) (λ _. refl) xs)

  pub kept-twice : (p q : X → Bool) (xs : List X) → filter p (filter q xs) ≡ filter (λ x. q x && p x) xs
  kept-twice p q [] = refl
  kept-twice p q (x ∷ xs) =
      let e = kept-twice p q xs in
      elim (q x) as (λ b. filter p (cond b (x ∷ filter q xs) (filter q xs)) ≡ cond (b && p x) (x ∷ filter (λ x. q x && p x) xs) (filter (λ x. q x && p x) xs)) [
        | true ↦ ap (λ l. cond (p x) (x ∷ l) l) e
        | false ↦ e
      ]

  pub kept-alike : (p q : X → Bool) → ((x : X) → p x ≡ q x) → (xs : List X) → filter p xs ≡ filter q xs
  kept-alike p q same [] = refl
  kept-alike p q same (x ∷ xs) = rw (same x, kept-alike p q same xs)

  -- what is kept of a front is a front of what is kept
  pub front_kept : (p : X → Bool) (xs : List X) (k : ℕ) → filter p (take k xs) ≡ take (length (filter p (take k xs))) (filter p xs)
  front_kept p xs zero = refl
  front_kept p [] (suc k) = refl
  front_kept p (x ∷ xs) (suc k) =
      let e = front_kept p xs k in
      elim (p x) as (λ b. cond b (x ∷ filter p (take k xs)) (filter p (take k xs)) ≡ take (length (cond b (x ∷ filter p (take k xs)) (filter p (take k xs)))) (cond b (x ∷ filter p xs) (filter p xs))) [
        | true ↦ ap (λ l. x ∷ l) e
        | false ↦ e
      ]

  pub take-some : (n : ℕ) (x : X) (xs : List X) → 0 < n → take n (x ∷ xs) ≡ x ∷ take (n - 1) xs
  take-some zero x xs h = absurd (omega arith)
  take-some (suc n) x xs h = let e : suc n - 1 ≡ n = omega arith in rw e

  pub take_none : (n : ℕ) (x : X) (xs : List X) → n ≤ 0 → take n (x ∷ xs) ≡ take n xs
  take_none zero x xs h = refl
  take_none (suc n) x xs h = absurd (omega arith)

  pub shuffled-middle : (xs ys : List X) (x : X) → IsPermutation (xs ++ (x ∷ ys)) (x ∷ (xs ++ ys))
  shuffled-middle [] ys x = IsPermutation-refl (x ∷ ys)
  shuffled-middle (z ∷ xs) ys x =
      IsPermutation-trans _ (z ∷ (x ∷ (xs ++ ys))) _ (IsPermutation-cons z _ _ (shuffled-middle xs ys x))
      (IsPermutation-swap (z ∷ (x ∷ (xs ++ ys))) (x ∷ (z ∷ (xs ++ ys))) 0 1 (omega arith) (omega arith) refl)
