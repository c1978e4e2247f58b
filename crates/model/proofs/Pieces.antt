-- A stream cut into pieces of 32 bytes: the first piece, and those after it.
use Rattle.std.proofs.Common.{◌≡◌, ℕ, ◌+◌, ◌/◌, ◌<◌, min, List, [], ◌∷◌, length, take, drop, sym, ap, ◌∙◌, inl, inr, add-one, arith}
use Rattle.std.proofs.lemmas.List.{drop_all, length-drop, take_all}
use Rattle.std.proofs.lemmas.Bool.{cases_lt}
use Rattle.model.specs.Records.{pieces_of}

pub pieces_none : (bs : List ℕ) → length bs ≡ 0 → pieces_of bs ≡ []
pieces_none bs h = let none : (length bs + 31) / 32 ≡ 0 = omega arith in rw none

pub pieces_more : (bs : List ℕ) → 0 < length bs → pieces_of bs ≡ take 32 bs ∷ pieces_of (drop 32 bs)
pieces_more bs h =
    let more : (length bs + 31) / 32 ≡ (length (drop 32 bs) + 31) / 32 + 1 = omega (arith, length-drop 32 bs) in
    rw (more, add-one)

-- a list cut at 32, or at its end where that comes first
pub cut : (bs : List ℕ) (n : ℕ) → n ≡ min (length bs) 32 → (take n bs ≡ take 32 bs) × (drop n bs ≡ drop 32 bs)
cut bs n e =
    elim (cases_lt (length bs) 32) [
      | inl short ↦ (
        take_all n bs (omega arith) ∙ sym (take_all 32 bs (omega arith)),
        drop_all n bs (omega arith) ∙ sym (drop_all 32 bs (omega arith)),
      )
      | inr long ↦ let full : n ≡ 32 = omega arith in (ap (λ k. take k bs) full, ap (λ k. drop k bs) full)
    ]
