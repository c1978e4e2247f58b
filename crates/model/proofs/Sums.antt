-- Sums over parts of a list.
use Rattle.std.proofs.Common.{◌≡◌, ℕ, Bool, cond, List, [], ◌∷◌, sum_by, filter, refl, inl, inr, arith}
use Rattle.std.proofs.lemmas.List.Sums.{sum_by-cons}
use Rattle.std.proofs.lemmas.Bool.{cases_Bool}

-- what is kept adds up as what is not kept counts nothing
pub sum_kept : {A : Type 0} (w : A → ℕ) (t : A → Bool) (xs : List A) → sum_by w (filter t xs) ≡ sum_by (λ x. cond (t x) (w x) 0) xs
sum_kept w t [] = refl
sum_kept w t (x ∷ xs) =
    let m = sum_kept w t xs in
    let s = sum_by-cons (λ y. cond (t y) (w y) 0) x xs in
    let q = sum_by-cons w x (filter t xs) in
    elim (cases_Bool (t x)) [ inl e ↦ grind (arith, m, s, q, e) | inr e ↦ grind (arith, m, s, q, e) ]
