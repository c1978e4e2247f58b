-- A stream cut into its pieces, one after another.
use Rattle.std.proofs.Common.{◌≡◌, ℕ, zero, suc, ◌+◌, ◌/◌, ◌<◌, min, List, ◌∷◌, ◌++◌, length, take, drop, sym, refl, ap, ◌∙◌, arith}
use Rattle.std.proofs.Math.Seq.{drop-append_seam, take-append_seam}
use Rattle.model.specs.Records.{pieces, pieces_of}
use Rattle.model.proofs.Pieces.{cut, pieces_more}

-- as many pieces as it takes to hold the stream
length-pieces : (n : ℕ) (bs : List ℕ) → length (pieces n bs) ≡ n
length-pieces zero bs = refl
length-pieces (suc n) bs = ap suc (length-pieces n (drop 32 bs))

pub piece-count : (bs : List ℕ) → length (pieces_of bs) ≡ (length bs + 31) / 32
piece-count bs = length-pieces ((length bs + 31) / 32) bs

-- the first piece, and those of what is left
pub first-piece : (bs piece later : List ℕ) → bs ≡ piece ++ later → length piece ≡ min 32 (length bs) → 0 < length bs → pieces_of bs ≡ piece ∷ pieces_of later
first-piece bs piece later e long some =
    let c = cut bs (length piece) (omega (arith, long)) in
    let front : take 32 bs ≡ piece = sym c.0 ∙ (ap (take (length piece)) e ∙ take-append_seam piece later) in
    let back : drop 32 bs ≡ later = sym c.1 ∙ (ap (drop (length piece)) e ∙ drop-append_seam piece later) in
    pieces_more bs some ∙ (λ i. front i ∷ pieces_of (back i))
