-- Fractions of one value: the operations and distances do not tell them apart.
use Rattle.std.proofs.Common.{ℕ, ◌*◌, ◌<◌, sym, ap, mul-le-mul_right, le_antisymm, le_of_mul-le-mul_right, arith}
use Rattle.model.specs.Fraction.{Frac, plus, times, over, Same, Within}

pub same-trans : (f m e : Frac) → 0 < m.den → Same f m → Same m e → Same f e
same-trans f m e pos p q =
    let p' = ap (λ x. x * e.den) p in
    let q' = ap (λ x. x * f.den) q in
    le_antisymm (le_of_mul-le-mul_right {k = m.den} (omega arith) pos) (le_of_mul-le-mul_right {k = m.den} (omega arith) pos)

pub same-plus : (f f' e e' : Frac) → Same f f' → Same e e' → Same (plus f e) (plus f' e')
same-plus f f' e e' p q = omega (arith, ap (λ x. x * (e.den * e'.den)) p, ap (λ x. x * (f.den * f'.den)) q)

pub same-times : (f f' e e' : Frac) → Same f f' → Same e e' → Same (times f e) (times f' e')
same-times f f' e e' p q = omega (arith, ap (λ x. x * (e.num * e'.den)) p, ap (λ x. x * (f'.num * f.den)) q)

pub same_over : (f f' e e' : Frac) → Same f f' → Same e e' → Same (over f e) (over f' e')
same_over f f' e e' p q = omega (arith, ap (λ x. x * (e.den * e'.num)) p, ap (λ x. x * (f'.num * f.den)) (sym q))

pub same-assoc : (f e h : Frac) → Same (plus (plus f e) h) (plus f (plus e h))
same-assoc f e h = omega arith

pub same-swap : (f e h : Frac) → Same (plus f (plus e h)) (plus e (plus f h))
same-swap f e h = omega arith

pub same-times-plus : (w f e : Frac) → Same (plus (times w f) (times w e)) (times w (plus f e))
same-times-plus w f e = omega arith

pub within_same : (t : Frac) (a : ℕ) (f e : Frac) → 0 < e.den → Same f e → Within t a f → Within t a e
within_same t a f e pos p w =
    let n = ap (λ x. t.den * x) p in
    record {
      real = pos;
      below = le_of_mul-le-mul_right {k = f.den} (omega (arith, mul-le-mul_right e.den w.below)) w.real;
      above = le_of_mul-le-mul_right {k = f.den} (omega (arith, mul-le-mul_right e.den w.above)) w.real;
    }
