-- A record of 32 bytes is its letter, its second byte and the thirty after it.
use Rattle.std.proofs.Common.{◌≡◌, ℕ, ◌-◌, List, [], ◌∷◌, length, get_or, take, drop, sym, ap, arith}
use Rattle.std.proofs.lemmas.List.{take_all}

-- the bytes after the first two, as the slice pattern reads them
abbrev pub fields_of : List ℕ → List ℕ
fields_of bs = take (length bs - 2) (drop 2 bs)

pub parts : (bs : List ℕ) (k : ℕ) → length (fields_of bs) ≡ 30 → get_or bs 0 0 ≡ k → (k ∷ get_or bs 1 0 ∷ fields_of bs ≡ bs) × (length bs ≡ 32)
parts [] k h e = absurd (omega (arith, h))
parts (a ∷ []) k h e = absurd (omega (arith, h))
parts (a ∷ b ∷ fs) k h e =
    let all : take (length (a ∷ b ∷ fs) - 2) fs ≡ fs = take_all (length (a ∷ b ∷ fs) - 2) fs (omega arith) in
    ((λ i. sym e i ∷ b ∷ all i), omega (arith, h, ap length all))
