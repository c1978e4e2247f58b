-- Bytes read one by one from a place on.
use Rattle.std.proofs.Common.{◌≡◌, ℕ, zero, suc, ◌+◌, List, ◌∷◌, length, drop, subst, sym, ap, ◌∙◌, arith}
use Rattle.std.proofs.lemmas.List.{drop_all, drop_more}
use Rattle.std.specs.Array.{IsFromFnResultFrom}
use Rattle.std.specs.Fn.{Called, Mut}
use Rattle.model.specs.Records.{byte, bytes_from}

-- calls that each read the byte at their number, and leave their closure as it is
module _ {F : Type 0} (g : Mut F (ℕ × Unit {0}) ℕ) (bs : List ℕ) (at : ℕ) (f : F) (reads : (i y : ℕ) (q : F) → Called g f (i, tt) y q → (y ≡ byte bs (at + i)) × (q ≡ f)) where
  read-from : (n i a : ℕ) (ys : List ℕ) → a ≡ at + i → length ys ≡ i + n → IsFromFnResultFrom g f ys i n → drop i ys ≡ bytes_from bs a n
  read-from zero i a ys place long each = drop_all i ys (omega (arith, long))
  read-from (suc n) i a ys place long (q, y, here, call, later) =
      let r = reads i y q call in
      let rest = read-from n (i + 1) (a + 1) ys (omega (arith, place)) (omega (arith, long)) (subst (λ p. IsFromFnResultFrom g p ys (i + 1) n) r.1 later) in
      drop_more ys i y (omega (arith, long)) ∙ (λ k. (here.0 ∙ r.0 ∙ ap (byte bs) (sym place)) k ∷ rest k)

  pub read-all : (n : ℕ) (ys : List ℕ) → length ys ≡ n → IsFromFnResultFrom g f ys 0 n → ys ≡ bytes_from bs at n
  read-all n ys long each = read-from n 0 at ys (omega arith) (omega (arith, long)) each
