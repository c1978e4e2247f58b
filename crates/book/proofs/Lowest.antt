-- The lowest carbon factor is the least of the factors.
use Rattle.std.proofs.Common.{◌≡◌, ℕ, min, List, [], ◌∷◌, ◌++◌, map, refl, ap, Some, ◌∙◌, arith}
use Rattle.std.specs.List.{fold, reduce}
use Rattle.model.specs.declared.units.Burn.{Burn}
use Rattle.model.specs.Units.{lowest}
use Rattle.book.specs.Burns.{lowest_of}

abbrev factor : Burn → ℕ
factor b = b.fuel.carbon_factor

fold-min : (m n : ℕ) (bs : List Burn) → fold min (min m n) (map factor bs) ≡ min m (fold min n (map factor bs))
fold-min m n [] = refl
fold-min m n (b ∷ bs) = let h = fold-min m (min n (factor b)) bs in ap (λ k. fold min k (map factor bs)) (omega arith) ∙ h

lowest-fold : (b : Burn) (bs : List Burn) → fold min (factor b) (map factor bs) ≡ lowest b bs
lowest-fold b [] = refl
lowest-fold b (d ∷ bs) = fold-min (factor b) (factor d) bs ∙ ap (min (factor b)) (lowest-fold d bs)

pub lowest-least : (bs : List Burn) → reduce min (map factor bs) ≡ lowest_of bs
lowest-least [] = refl
lowest-least (b ∷ bs) = ap Some (lowest-fold b bs)

-- with one burn more
pub lowest-push : (b : Burn) (bs : List Burn) (d : Burn) → lowest b (bs ++ d ∷ []) ≡ min (lowest b bs) d.fuel.carbon_factor
lowest-push b [] d = refl
lowest-push b (a ∷ bs) d = let p = lowest-push a bs d in omega (arith, p)
