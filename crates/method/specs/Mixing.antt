-- Two groups of units, each with its weight in the margin: the mixture of their means, rounded, lies within 1.5 g/MWh of the exact margin.
use Rattle.std.specs.Prelude.{◌≡◌, ℕ, ◌+◌, ◌*◌, ◌<◌, Bool, true, false, cond, not, List, [], ◌∷◌, map, filter, refl}
use Rattle.std.proofs.Common.{sym, ap, mul-pos, arith}
use Rattle.std.proofs.lemmas.List.{length-map}
use Rattle.model.specs.Fraction.{Frac, Same, Within, over, plus, ratio, times}
use Rattle.model.specs.Methods.{generated, generation, zero_share}
use Rattle.model.specs.Rounding.{rounded}
use Rattle.model.specs.Shares.{Fair, exact, intensity, total, weighted}
use Rattle.model.specs.Units.{InRange, Listed, Ranged}
use Rattle.model.proofs.Distances.{within_more, within-plus, within-rounded, within-times}
use Rattle.model.proofs.Values.{same_over, same-plus, same-times, same-trans, within_same}
use Rattle.method.specs.Means.{grams-near, share, total-shares}

-- x times a number
abbrev part : Frac → ℕ → Frac
part x g = ratio (x.num * g) x.den

-- a term without a value
zero_more : (z e : Frac) → z.num ≡ 0 → Same e (plus z e)
zero_more z e none = omega (arith, ap (λ n. n * (e.den * e.den)) none)

pull-first : (x t f e : Frac) → Same (plus (times x t) (plus (times x f) e)) (plus (times x (plus t f)) e)
pull-first x t f e = omega arith

pull-second : (x t f e : Frac) → Same (plus (times x t) (plus e (times x f))) (plus e (times x (plus t f)))
pull-second x t f e = omega arith

-- one term r more: x times t for the first group, or y times t for the second, and nothing for the other
module _ (x y s f e t z r : Frac) (rx : 0 < x.den) (ry : 0 < y.den) (rf : 0 < f.den) (re : 0 < e.den) (rt : 0 < t.den)
    (none : z.num ≡ 0) (h : Same s (plus (times x f) (times y e))) where
  abbrev both : Frac
  both = plus (times x f) (times y e)

  both-real : 0 < both.den
  both-real = mul-pos (mul-pos rx rf) (mul-pos ry re)

  first_more : Same r (times x t) → Same (plus r s) (plus (times x (plus t f)) (times y (plus z e)))
  first_more is =
      same-trans _ (plus (times x t) both) _ (mul-pos (mul-pos rx rt) both-real) (same-plus r (times x t) s both is h)
      (same-trans _ (plus (times x (plus t f)) (times y e)) _ (mul-pos (mul-pos rx (mul-pos rt rf)) (mul-pos ry re)) (pull-first x t f (times y e))
      (same-plus (times x (plus t f)) _ (times y e) (times y (plus z e)) refl (same-times y y e (plus z e) refl (zero_more z e none))))

  second_more : Same r (times y t) → Same (plus r s) (plus (times x (plus z f)) (times y (plus t e)))
  second_more is =
      same-trans _ (plus (times y t) both) _ (mul-pos (mul-pos ry rt) both-real) (same-plus r (times y t) s both is h)
      (same-trans _ (plus (times x f) (times y (plus t e))) _ (mul-pos (mul-pos rx rf) (mul-pos ry (mul-pos rt re))) (pull-second y t e (times x f))
      (same-plus (times x f) (times x (plus z f)) (times y (plus t e)) _ (same-times x x f (plus z f) refl (zero_more z f none)) refl))

abbrev rest : (Listed → Bool) → Listed → Bool
rest p u = not (p u)

-- Units that pass the test share by y times their generation, and the others by x times.
abbrev pub mixed : (Listed → Bool) → Frac → Frac → Listed → Frac
mixed p x y u = cond (p u) (part y u.generation) (part x u.generation)

module _ (x y : Frac) (rx : 0 < x.den) (ry : 0 < y.den) where
  module _ (u : Listed) (real : 0 < (intensity u).den) (s f e : Frac) (rf : 0 < f.den) (re : 0 < e.den) (h : Same s (plus (times x f) (times y e))) where
    abbrev i : Frac
    i = intensity u

    abbrev g : ℕ
    g = u.generation

    weighted-more : (b : Bool) → Same (plus (times (cond b (part y g) (part x g)) i) s) (plus (times x (plus (times (cond (not b) (generated u) zero_share) i) f)) (times y (plus (times (cond b (generated u) zero_share) i) e)))
    weighted-more true = second_more x y s f e (times (generated u) i) (times zero_share i) (times (part y g) i) rx ry rf re (omega (arith, real)) (omega arith) h (omega arith)
    weighted-more false = first_more x y s f e (times (generated u) i) (times zero_share i) (times (part x g) i) rx ry rf re (omega (arith, real)) (omega arith) h (omega arith)

    total-more : (b : Bool) → Same (plus (cond b (part y g) (part x g)) s) (plus (times x (plus (cond (not b) (generated u) zero_share) f)) (times y (plus (cond b (generated u) zero_share) e)))
    total-more true = second_more x y s f e (generated u) zero_share (part y g) rx ry rf re (omega arith) refl h (omega arith)
    total-more false = first_more x y s f e (generated u) zero_share (part x g) rx ry rf re (omega arith) refl h (omega arith)

  module _ (p : Listed → Bool) where
    intensity-real : (u : Listed) → InRange u → 0 < (intensity u).den
    intensity-real u h = mul-pos h.emits.real h.some

    one-real : (g : ℕ) (b : Bool) → 0 < (cond b (part y g) (part x g)).den
    one-real g true = ry
    one-real g false = rx

    weighted-real : (us : List Listed) → Ranged us → 0 < (weighted (map (mixed p x y) us) us).den
    weighted-real [] h = omega arith
    weighted-real (u ∷ us) h = mul-pos (mul-pos (one-real u.generation (p u)) (intensity-real u h.0)) (weighted-real us h.1)

    total-real : (us : List Listed) → 0 < (total (map (mixed p x y) us)).den
    total-real [] = omega arith
    total-real (u ∷ us) = mul-pos (one-real u.generation (p u)) (total-real us)

    shares-real : (t : Listed → Bool) (us : List Listed) → 0 < (total (map (share t) us)).den
    shares-real t us = rw (total-shares t us) (omega arith)

    weighted-mixed : (us : List Listed) → Ranged us → Same (weighted (map (mixed p x y) us) us) (plus (times x (weighted (map (share (rest p)) us) us)) (times y (weighted (map (share p) us) us)))
    weighted-mixed [] h = omega arith
    weighted-mixed (u ∷ us) h = weighted-more u (intensity-real u h.0) _ _ _ (grams-near (rest p) us h.1).real (grams-near p us h.1).real (weighted-mixed us h.1) (p u)

    total-mixed : (us : List Listed) → Ranged us → Same (total (map (mixed p x y) us)) (plus (times x (total (map (share (rest p)) us))) (times y (total (map (share p) us))))
    total-mixed [] h = omega arith
    total-mixed (u ∷ us) h = total-more u (intensity-real u h.0) _ _ _ (shares-real (rest p) us) (shares-real p us) (total-mixed us h.1) (p u)

-- ---- the groups have the weights v and w of n

module _ (v w n a b g k : ℕ) (first : v * g ≡ v * a) (second : w * k ≡ w * b) (whole : v + w ≡ n) where
  parts_whole : Same (plus (times (ratio v (n * a)) (ratio g 1)) (times (ratio w (n * b)) (ratio k 1))) (ratio 1 1)
  parts_whole = omega (arith, ap (λ z. z * (n * b)) first, ap (λ z. z * (n * a)) second, ap (λ z. z * (a * b * n)) whole)

mix-same : (v w n a b : ℕ) (f e : Frac)
    → Same (over (plus (times (ratio v (n * a)) f) (times (ratio w (n * b)) e)) (ratio 1 1))
    (over (plus (times (ratio v 1) (over f (ratio a 1))) (times (ratio w 1) (over e (ratio b 1)))) (ratio n 1))
mix-same v w n a b f e = omega arith

-- Each group's generation stands below its weight; a group without a weight may have any number there.
module _ (p : Listed → Bool) (v w n a b : ℕ) (us : List Listed) (h : Ranged us) (ra : 0 < a) (rb : 0 < b) (rn : 0 < n)
    (first : v * generation (filter (rest p) us) ≡ v * a) (second : w * generation (filter p us) ≡ w * b) (whole : v + w ≡ n) where
  abbrev x : Frac
  x = ratio v (n * a)

  abbrev y : Frac
  y = ratio w (n * b)

  abbrev rx : 0 < n * a
  rx = mul-pos rn ra

  abbrev ry : 0 < n * b
  ry = mul-pos rn rb

  abbrev ss : List Frac
  ss = map (mixed p x y) us

  abbrev firsts : Frac
  firsts = weighted (map (share (rest p)) us) us

  abbrev seconds : Frac
  seconds = weighted (map (share p) us) us

  -- the shares are parts of one whole
  totals : Same (total ss) (ratio 1 1)
  totals =
      same-trans _ (plus (times x (total (map (share (rest p)) us))) (times y (total (map (share p) us)))) _
      (mul-pos (mul-pos rx (shares-real x y rx ry p (rest p) us)) (mul-pos ry (shares-real x y rx ry p p us)))
      (total-mixed x y rx ry p us h)
      (rw (total-shares (rest p) us, total-shares p us) (parts_whole v w n a b _ _ first second whole))

  total-some : 0 < (total ss).num
  total-some = omega (arith, totals, total-real x y rx ry p us)

  -- the exact margin is the mixture of the groups' exact means
  exact-mixed : Same (over (plus (times (ratio v 1) (over firsts (ratio a 1))) (times (ratio w 1) (over seconds (ratio b 1)))) (ratio n 1)) (exact ss us)
  exact-mixed =
      sym
      (same-trans _ (over (plus (times x firsts) (times y seconds)) (ratio 1 1)) _
      (mul-pos (mul-pos (mul-pos rx (grams-near (rest p) us h).real) (mul-pos ry (grams-near p us h).real)) (omega arith))
      (same_over (weighted ss us) (plus (times x firsts) (times y seconds)) (total ss) (ratio 1 1) (weighted-mixed x y rx ry p us h) totals)
      (mix-same v w n a b firsts seconds))

  pub mixed-fair : Fair ss us
  mixed-fair = record { each = length-map us (mixed p x y); real = total-real x y rx ry p us; some = total-some }

  pub mixed-near : (c d : ℕ) → Within (ratio 2 2) c (over firsts (ratio a 1)) → Within (ratio 2 2) d (over seconds (ratio b 1)) → Within (ratio 3 2) (rounded (ratio (v * c + w * d) n)) (exact ss us)
  mixed-near c d hc hd =
      within_same (ratio 3 2) _ _ (exact ss us) (mul-pos (weighted-real x y rx ry p us h) total-some) exact-mixed
      (within_more (2 * n) (v * 2 + w * 2 + n) 2 3 _ _ (omega arith) (omega arith)
      (within-rounded (v * 2 + w * 2) _ n _ rn
      (within-plus 2 (v * 2) (w * 2) _ _ (times (ratio v 1) (over firsts (ratio a 1))) (times (ratio w 1) (over seconds (ratio b 1)))
      (within-times 2 2 v c _ hc) (within-times 2 2 w d _ hd))))
