-- A letter that is no kind's.
use Rattle.std.proofs.Common.{◌≡◌, ℕ, List, None, refl}
use Rattle.std.proofs.lemmas.Bool.{ne_eqb}
use Rattle.model.specs.Records.{of_kind}

pub no-kind : (bs : List ℕ) (k : ℕ) → (k ≡ 70 → ⊥) → (k ≡ 85 → ⊥) → (k ≡ 66 → ⊥) → (k ≡ 83 → ⊥) → (k ≡ 72 → ⊥) → (k ≡ 89 → ⊥) → (k ≡ 81 → ⊥) → None ≡ of_kind k bs
no-kind bs k f u b s h y q = rw (ne_eqb k 70 f, ne_eqb k 85 u, ne_eqb k 66 b, ne_eqb k 83 s, ne_eqb k 72 h, ne_eqb k 89 y, ne_eqb k 81 q) refl
