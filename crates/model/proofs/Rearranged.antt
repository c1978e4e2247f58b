-- A rearrangement, by weights: whatever the elements weigh, both lists weigh the same.
use Rattle.std.proofs.Common.{◌≡◌, ℕ, ◌<◌, Bool, true, cond, List, [], ◌∷◌, ◌++◌, map, length, take, drop, sum_by, count_by, filter, sym, refl, ap, ◌∙◌, inl, inr, arith}
use Rattle.std.specs.List.{insert}
use Rattle.std.specs.List.Sorted.{IsPermutation}
use Rattle.std.proofs.lemmas.List.{nil_from_length}
use Rattle.std.proofs.lemmas.List.Sorted.{IsPermutation-refl, IsPermutation-cons, IsPermutation-swap, IsPermutation-trans, sum_by-IsPermutation}
use Rattle.std.proofs.lemmas.List.Sums.{sum_by-cons, sum_by-append, sum_by_push, sum_by-take-drop}
use Rattle.std.proofs.lemmas.Bool.{cases_Bool}

abbrev pub Same : {A : Type 0} → List A → List A → Type 0
Same {A} xs ys = (w : A → ℕ) → sum_by w xs ≡ sum_by w ys

pub same-sym : {A : Type 0} (xs ys : List A) → Same xs ys → Same ys xs
same-sym xs ys s w = sym (s w)

pub same-from-shuffled : {A : Type 0} (xs ys : List A) → IsPermutation xs ys → Same xs ys
same-from-shuffled xs ys h w = sym (sum_by-IsPermutation w xs ys h)

sum_ones : {A : Type 0} (xs : List A) → sum_by (λ _. 1) xs ≡ length xs
sum_ones [] = refl
sum_ones (x ∷ xs) = omega (arith, sum_by-cons (λ _. 1) x xs, sum_ones xs)

pub length-same : {A : Type 0} (p q : List A) → Same p q → length p ≡ length q
length-same p q s = omega (arith, s (λ _. 1), sum_ones p, sum_ones q)

sum_kept : {A : Type 0} (w : A → ℕ) (t : A → Bool) (xs : List A) → sum_by w (filter t xs) ≡ sum_by (λ x. cond (t x) (w x) 0) xs
sum_kept w t [] = refl
sum_kept w t (x ∷ xs) =
    let m = sum_kept w t xs in
    let s = sum_by-cons (λ y. cond (t y) (w y) 0) x xs in
    let q = sum_by-cons w x (filter t xs) in
    elim (cases_Bool (t x)) [ inl e ↦ grind (arith, m, s, q, e) | inr e ↦ grind (arith, m, s, q, e) ]

pub same_kept : {A : Type 0} (t : A → Bool) (p q : List A) → Same p q → Same (filter t p) (filter t q)
same_kept t p q s w = sum_kept w t p ∙ s (λ x. cond (t x) (w x) 0) ∙ sym (sum_kept w t q)

pub sum-map : {A : Type 0} (w : A → ℕ) (f : A → A) (xs : List A) → sum_by w (map f xs) ≡ sum_by (λ x. w (f x)) xs
sum-map w f [] = refl
sum-map w f (x ∷ xs) = omega (arith, sum_by-cons w (f x) (map f xs), sum_by-cons (λ y. w (f y)) x xs, sum-map w f xs)

pub same_map : {A : Type 0} (f : A → A) (p q : List A) → Same p q → Same (map f p) (map f q)
same_map f p q s w = sum-map w f p ∙ s (λ x. w (f x)) ∙ sym (sum-map w f q)

pub same-push : {A : Type 0} (p q : List A) (x : A) → Same p q → Same (p ++ x ∷ []) (q ++ x ∷ [])
same-push p q x s w = omega (arith, s w, sum_by_push w p x, sum_by_push w q x)

pub same-inserted : {A : Type 0} (xs : List A) (i : ℕ) (e : A) → Same (xs ++ e ∷ []) (insert xs i e)
same-inserted xs i e w =
    omega (arith, sum_by_push w xs e, sum_by-append w (take i xs) (e ∷ drop i xs), sum_by-cons w e (drop i xs), sum_by-take-drop w xs i)

-- ---- where a test tells two elements apart, weights tell a list's elements

pub record Tells (A : Type 0) : Type 0 where
  pub alike : A → A → Bool
  pub itself : (x : A) → alike x x ≡ true
  pub one : (x y : A) → alike x y ≡ true → y ≡ x

-- where x is counted it stands
pub parted : {A : Type 0} (t : Tells A) (x : A) (ys : List A) → 0 < count_by (t.alike x) ys → (a : List A) × (b : List A) × (ys ≡ a ++ x ∷ b)
parted t x [] h = absurd (omega arith)
parted t x (y ∷ ys) h =
    elim (cases_Bool (t.alike x y)) [
      | inl e ↦ ([], ys, ap (λ z. z ∷ ys) (t.one x y e))
      | inr e ↦
          let s = sum_by-cons (λ z. cond (t.alike x z) 1 0) y ys in
          let p = parted t x ys (grind (arith, s, e, h)) in
          (y ∷ p.0, p.1, ap (λ zs. y ∷ zs) p.2)
    ]

pub counted : {A : Type 0} (t : Tells A) (x : A) (xs ys : List A) → Same (x ∷ xs) ys → 0 < count_by (t.alike x) ys
counted t x xs ys s =
    let c = sum_by-cons (λ z. cond (t.alike x z) 1 0) x xs in
    grind (arith, c, s (λ z. cond (t.alike x z) 1 0), t.itself x)

pub to_front : {A : Type 0} (x : A) (a b : List A) → IsPermutation (x ∷ (a ++ b)) (a ++ x ∷ b)
to_front x [] b = IsPermutation-refl (x ∷ b)
to_front x (y ∷ a) b =
    IsPermutation-trans (x ∷ y ∷ (a ++ b)) (y ∷ x ∷ (a ++ b)) (y ∷ (a ++ x ∷ b))
    (IsPermutation-swap (x ∷ y ∷ (a ++ b)) (y ∷ x ∷ (a ++ b)) 0 1 (omega arith) (omega arith) refl)
    (IsPermutation-cons y (x ∷ (a ++ b)) (a ++ x ∷ b) (to_front x a b))

pub shuffled-from-same : {A : Type 0} (t : Tells A) (xs ys : List A) → Same xs ys → IsPermutation xs ys
shuffled-from-same t [] ys s = rw (nil_from_length ys (sym (length-same [] ys s))) (IsPermutation-refl [])
shuffled-from-same t (x ∷ xs) ys s =
    let p = parted t x ys (counted t x xs ys s) in
    let a = p.0 in
    let b = p.1 in
    let rest : Same xs (a ++ b) = λ w. omega (arith, s w, ap (sum_by w) p.2, sum_by-cons w x xs, sum_by-append w a (x ∷ b), sum_by-cons w x b, sum_by-append w a b) in
    rw p.2 (IsPermutation-trans (x ∷ xs) (x ∷ (a ++ b)) (a ++ x ∷ b) (IsPermutation-cons x xs (a ++ b) (shuffled-from-same t xs (a ++ b) rest)) (to_front x a b))
