-- Units that pass a test share by their generation, and the others have no part: the mean of whole grams over those that pass lies
-- within 1 g/MWh of the exact margin.
use Rattle.std.specs.Prelude.{◌≡◌, ℕ, ◌+◌, ◌*◌, ◌<◌, Bool, true, false, cond, List, [], ◌∷◌, map, length, Some, None, filter, Option, ◌==◌, refl}
use Rattle.std.proofs.Common.{inl, inr, ap, mul-le-mul_left, mul-pos, zero-add, one-add, arith}
use Rattle.std.proofs.lemmas.List.{length-map}
use Rattle.std.proofs.ByRecursion.{all_kept_by}
use Rattle.std.proofs.lemmas.List.Sums.{sum_by-cons}
use Rattle.std.proofs.lemmas.Bool.{cases_eq, eq-eqb, ne_eqb}
use Rattle.model.specs.Fraction.{Frac, Within, over, plus, ratio, times}
use Rattle.model.specs.Methods.{average_answer, average_meaning, generated, generation, grams, mean, other_than_low_cost, simple_answer, unless_fault, zero_share}
use Rattle.model.specs.Operating.{simple_meaning, simple_share, years_fault}
use Rattle.model.specs.Rounding.{rounded}
use Rattle.model.specs.Shares.{Fair, Verdict, exact, intensity, refused, shares, total, weighted}
use Rattle.model.specs.Units.{InRange, Listed, Ranged}
use Rattle.model.specs.declared.faults.Fault.{Fault}
use Rattle.model.specs.declared.records.YearlyPair.{YearlyPair}
use Rattle.model.proofs.Distances.{within_more, within-plus, within-rounded}
use Rattle.model.proofs.Joining.{generates-more}
use Rattle.model.proofs.Members.{length-generation}
use Rattle.model.proofs.Rounding.{rounded-near}

ratio-same : (a b c d : ℕ) → a ≡ b → c ≡ d → ratio a c ≡ ratio b d
ratio-same a b c d p q = cc

-- the sum over one unit more, with the definition's words
grams-cons : (u : Listed) (us : List Listed) → grams (u ∷ us) ≡ rounded u.emission + grams us
grams-cons u us = sum_by-cons (λ v. rounded v.emission) u us

-- generation times intensity is the emission, which was rounded
unit-near : (u : Listed) → InRange u → Within (ratio 1 2) (rounded u.emission) (times (generated u) (intensity u))
unit-near u h =
    let near = rounded-near u.emission h.emits.real in
    record {
      real = omega (arith, mul-pos h.emits.real h.some);
      below = omega (arith, mul-le-mul_left u.generation near.below);
      above = omega (arith, mul-le-mul_left u.generation near.above);
    }

none-near : (u : Listed) → InRange u → Within (ratio 0 2) 0 (times zero_share (intensity u))
none-near u h = record { real = omega (arith, mul-pos h.emits.real h.some); below = omega arith; above = omega arith }

-- one unit more, before those that were kept
module _ (u : Listed) (ks : List Listed) where
  total-more : (b : Bool) (f : Frac) → f ≡ ratio (generation ks) 1 → plus (cond b (generated u) zero_share) f ≡ ratio (generation (cond b (u ∷ ks) ks)) 1
  total-more true f e = rw e (ratio-same _ _ _ _ (omega (arith, generates-more u ks)) (omega arith))
  total-more false f e = rw e (ratio-same _ _ _ _ (omega arith) (omega arith))

  grams-more : (b : Bool) (f : Frac) → InRange u → Within (ratio (length ks) 2) (grams ks) f
      → Within (ratio (length (cond b (u ∷ ks) ks)) 2) (grams (cond b (u ∷ ks) ks)) (plus (times (cond b (generated u) zero_share) (intensity u)) f)
  grams-more true f h near = rw (grams-cons u ks) (rw one-add at (within-plus 2 1 (length ks) _ _ (times (generated u) (intensity u)) f (unit-near u h) near))
  grams-more false f h near = rw (zero-add (length ks), zero-add (grams ks)) at (within-plus 2 0 (length ks) 0 (grams ks) (times zero_share (intensity u)) f (none-near u h) near)

module _ (passes : Listed → Bool) where
  abbrev pub share : Listed → Frac
  share u = cond (passes u) (generated u) zero_share

  pub total-shares : (us : List Listed) → total (map share us) ≡ ratio (generation (filter passes us)) 1
  total-shares [] = refl
  total-shares (u ∷ us) = total-more u (filter passes us) (passes u) (total (map share us)) (total-shares us)

  pub grams-near : (us : List Listed) → Ranged us → Within (ratio (length (filter passes us)) 2) (grams (filter passes us)) (weighted (map share us) us)
  grams-near [] h = record { real = omega arith; below = omega arith; above = omega arith }
  grams-near (u ∷ us) h = grams-more u (filter passes us) (passes u) (weighted (map share us) us) h.0 (grams-near us h.1)

  module _ (us : List Listed) (pos : 0 < generation (filter passes us)) where
    abbrev ks : List Listed
    ks = filter passes us

    pub group-near : Ranged us → Within (ratio 2 2) (mean ks) (over (weighted (map share us) us) (ratio (generation ks) 1))
    group-near h =
        let few = length-generation ks (all_kept_by passes InRange us h) in
        within_more (2 * generation ks) (length ks + generation ks) 2 2 _ _ (omega arith) (omega arith)
        (within-rounded (length ks) (grams ks) (generation ks) (weighted (map share us) us) pos (grams-near us h))

    pub mean-near : Ranged us → Within (ratio 2 2) (mean ks) (exact (map share us) us)
    mean-near h = rw (total-shares us) (group-near h)

    pub mean-fair : Fair (map share us) us
    mean-fair = record { each = length-map us share; real = rw (total-shares us) (omega arith); some = rw (total-shares us) (omega arith) }

-- a list with shares has generation
pub some-shares : (n : ℕ) (f : Fault) (ss rs : List Frac) → cond (n == 0) (refused f) (shares rs) ≡ shares ss → (ss ≡ rs) × (0 < n)
some-shares n f ss rs e =
    elim (cases_eq n 0) [
      | inl z ↦ let k : ◌≡◌ {A = ℕ} 0 1 = let t = rw (eq-eqb n 0 z) at e in cc in absurd (omega arith)
      | inr p ↦ let t = rw (ne_eqb n 0 p) at e in (cc, omega (arith, p))
    ]

-- ---- average: every unit passes

abbrev every : Listed → Bool
every u = true

kept-every : (us : List Listed) → filter every us ≡ us
kept-every [] = refl
kept-every (u ∷ us) = ap (λ ks. u ∷ ks) (kept-every us)

module _ (us : List Listed) (ss : List Frac) (e : average_meaning us ≡ shares ss) where
  averaged : (ss ≡ map generated us) × (0 < generation (filter every us))
  averaged = let p = some-shares (generation us) _ ss (map generated us) e in (p.0, rw (kept-every us) p.1)

  pub average-near : (a : ℕ) → Ranged us → a ≡ average_answer us → Within (ratio 2 2) a (exact ss us)
  average-near a h is = rw (is, averaged.0) (rw (kept-every us) at (mean-near every us averaged.1 h))

  pub average-fair : Fair ss us
  average-fair = rw averaged.0 (mean-fair every us averaged.1)

-- ---- simple: those that are not low-cost pass

-- a fault of the pairs leaves no shares
pub unfaulted : (f : Option Fault) (v : Verdict) (ss : List Frac) → unless_fault f v ≡ shares ss → v ≡ shares ss
unfaulted None v ss e = e
unfaulted (Some f) v ss e = cc

module _ (ps : List YearlyPair) (us : List Listed) (ss : List Frac) (e : simple_meaning ps us ≡ shares ss) where
  simplified : (ss ≡ map simple_share us) × (0 < generation (filter other_than_low_cost us))
  simplified = some-shares (generation (filter other_than_low_cost us)) _ ss (map simple_share us) (unfaulted (years_fault ps) _ ss e)

  pub simple-near : (a : ℕ) → Ranged us → a ≡ simple_answer us → Within (ratio 2 2) a (exact ss us)
  simple-near a h is = rw (is, simplified.0) (mean-near other_than_low_cost us simplified.1 h)

  pub simple-fair : Fair ss us
  simple-fair = rw simplified.0 (mean-fair other_than_low_cost us simplified.1)
