-- The first element that passes a test.
use Rattle.std.proofs.Common.{◌≡◌, ℕ, zero, suc, ◌+◌, ◌<◌, ◌≤◌, Bool, true, false, cond, List, [], ◌∷◌, ◌++◌, length, get_or, take, sum_by, count_by, sym, refl, ap, ◌∙◌, inl, inr, arith}
use Rattle.std.proofs.lemmas.List.Sums.{sum_by-append, sum_by-cons, get_or-le-sum_by}
use Rattle.std.proofs.lemmas.Bool.{cases_Bool, cases_eq}
use Rattle.model.specs.Plain.{first_by}
use Rattle.model.proofs.Rearranged.{Same, Tells, counted, parted}

-- what a count says of a first element
pub count-cons : {A : Type 0} (p : A → Bool) (x : A) (xs : List A) → count_by p (x ∷ xs) ≡ cond (p x) 1 0 + count_by p xs
count-cons p x xs = sum_by-cons (λ y. cond (p y) 1 0) x xs

pub none-head : {A : Type 0} (p : A → Bool) (x : A) (xs : List A) → count_by p (x ∷ xs) ≡ 0 → (p x ≡ false) × (count_by p xs ≡ 0)
none-head p x xs h =
    let s = count-cons p x xs in
    elim (cases_Bool (p x)) [ inl e ↦ absurd (grind (arith, s, e, h)) | inr e ↦ (e, grind (arith, s, e, h)) ]

-- where a later element passes, and one at most does, the first does not
pub once-head : {A : Type 0} (p : A → Bool) (x d : A) (xs : List A) (i : ℕ) → count_by p (x ∷ xs) ≤ 1 → i < length xs → p (get_or xs i d) ≡ true → (p x ≡ false) × (count_by p xs ≤ 1)
once-head p x d xs i h l t =
    let s = count-cons p x xs in
    let k = get_or-le-sum_by (λ y. cond (p y) 1 0) xs i d l in
    elim (cases_Bool (p x)) [ inl e ↦ absurd (grind (arith, s, k, e, t, h)) | inr e ↦ (e, grind (arith, s, e, h)) ]

pub first-at : {A : Type 0} (p : A → Bool) (d : A) (xs : List A) (i : ℕ) → i < length xs → p (get_or xs i d) ≡ true → count_by p (take i xs) ≡ 0 → first_by p d xs ≡ get_or xs i d
first-at p d [] i l t none = absurd (omega arith)
first-at p d (x ∷ xs) zero l t none = rw t
first-at p d (x ∷ xs) (suc i) l t none = let h = none-head p x (take i xs) none in rw h.0 (first-at p d xs i (omega arith) t h.1)

pub first-none : {A : Type 0} (p : A → Bool) (d : A) (xs : List A) → count_by p xs ≡ 0 → first_by p d xs ≡ d
first-none p d [] h = refl
first-none p d (x ∷ xs) h = let k = none-head p x xs h in rw k.0 (first-none p d xs k.1)

-- where some element passes, the first that does stands in the list
first_found : {A : Type 0} (p : A → Bool) (d : A) (xs : List A) → 0 < count_by p xs → (a : List A) × (b : List A) × (xs ≡ a ++ first_by p d xs ∷ b) × (p (first_by p d xs) ≡ true)
first_found p d [] h = absurd (omega arith)
first_found p d (x ∷ xs) h =
    let s = count-cons p x xs in
    elim (cases_Bool (p x)) [
      | inl e ↦ rw e ([], xs, refl, e)
      | inr e ↦
          let m = first_found p d xs (grind (arith, s, e, h)) in
          rw e (x ∷ m.0, m.1, ap (λ ys. x ∷ ys) m.2, m.3)
    ]

-- what passes alone is the first that passes
first_alone : {A : Type 0} (p : A → Bool) (d : A) (a : List A) (x : A) (b : List A) → p x ≡ true → count_by p (a ++ x ∷ b) ≤ 1 → first_by p d (a ++ x ∷ b) ≡ x
first_alone p d [] x b t h = rw t
first_alone p d (y ∷ a) x b t h =
    let s = count-cons p y (a ++ x ∷ b) in
    let k = sum_by-append (λ z. cond (p z) 1 0) a (x ∷ b) in
    let j = count-cons p x b in
    elim (cases_Bool (p y)) [
      | inl e ↦ absurd (grind (arith, s, k, j, e, t, h))
      | inr e ↦ rw e (first_alone p d a x b t (grind (arith, s, e, h)))
    ]

first-parted : {A : Type 0} (p : A → Bool) (d : A) (ys a : List A) (x : A) (b : List A) → ys ≡ a ++ x ∷ b → p x ≡ true → count_by p ys ≤ 1 → first_by p d ys ≡ x
first-parted p d ys a x b is t h = rw is (first_alone p d a x b t (rw is at h))

-- a rearrangement has the same first, where one at most passes
pub first-same : {A : Type 0} (tells : Tells A) (p : A → Bool) (d : A) (xs ys : List A) → Same xs ys → count_by p xs ≤ 1 → first_by p d xs ≡ first_by p d ys
first-same tells p d xs ys s once =
    let c : count_by p xs ≡ count_by p ys = s (λ x. cond (p x) 1 0) in
    elim (cases_eq (count_by p xs) 0) [
      | inl e ↦ first-none p d xs e ∙ sym (first-none p d ys (sym c ∙ e))
      | inr e ↦
          let f = first_found p d xs (omega arith) in
          let x = first_by p d xs in
          let a = f.0 in
          let b = f.1 in
          let front : Same (x ∷ (a ++ b)) ys = λ w. omega (arith, s w, ap (sum_by w) f.2, sum_by-cons w x (a ++ b), sum_by-append w a (x ∷ b), sum_by-cons w x b, sum_by-append w a b) in
          let g = parted tells x ys (counted tells x (a ++ b) ys front) in
          sym (first-parted p d ys g.0 x g.1 g.2 f.3 (omega arith))
    ]
