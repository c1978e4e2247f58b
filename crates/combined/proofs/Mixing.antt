-- Two margins, weighted and rounded once.
use Rattle.std.proofs.Common.{◌≡◌, ℕ, ◌+◌, ◌*◌, ◌^◌, ◌<◌, ◌≤◌, arith}
use Rattle.model.specs.Fraction.{Frac, Within, ratio}
use Rattle.model.specs.Promise.{mixed}
use Rattle.model.specs.Rounding.{rounded}
use Rattle.model.proofs.Distances.{within-plus, within-rounded, within-times}

-- The bound, for any figure om within d/2 of any fraction f.
pub mixed-near : (w v d om bm : ℕ) (f e : Frac) → Within (ratio d 2) om f → Within (ratio 2 2) bm e
    → Within (ratio (w * d + v * 2 + 100) 200) (rounded (ratio (w * om + v * bm) 100)) (mixed w f v e)
mixed-near w v d om bm f e p q =
    within-rounded (w * d + v * 2) (w * om + v * bm) 100 _ (omega arith)
    (within-plus 2 (w * d) (v * 2) (w * om) (v * bm) _ _ (within-times 2 d w om f p) (within-times 2 2 v bm e q))

pub mixed-small : (w v a b : ℕ) → w + v ≡ 100 → a < 2 ^ 32 → b < 2 ^ 32 → w * a + v * b ≤ 4294967295 * 100
mixed-small w v a b h p q = grind arith
