-- What a register lists is what its history tells, and every register has a history.
use mathlib.Core.Logic.{∥∥₁_elim, ∥∥₁_map, ∥∥₁_prop}
use Rattle.std.proofs.Common.{sym, refl, ap, ◌∙◌}
use Rattle.model.specs.History.{Alive, Carried, Composition, OneCourse, SomeHistory, Told, elsewhere, foreign, import, imports, join, joined, journal, listed, year_book}
use Rattle.model.specs.Plain.{after, book_course}
use Rattle.model.proofs.Orders.{one-order}
use Rattle.model.proofs.Rearranged.{same-from-shuffled}

pub carried : Carried
unfolding Told
carried (elsewhere c) p l = ap listed l
carried (journal es) p l = (l.0.units, l.2.units, l.2.ordered, ap listed l.1)
carried (joined h k) p l = (listed l.0, listed l.1, carried h l.0 l.3, carried k l.1 l.4, ap listed l.2)
carried (imports h i) p l = (listed l.0, carried h l.0 l.2, ap listed l.1)

pub some-history : (p : Composition) → Alive p → SomeHistory p
some-history (foreign c) a = ∣ (elsewhere c, refl) ∣₁
some-history (year_book p) a = ∥∥₁_map a (λ s. (journal s.0, (p, refl, s.1)))
some-history (join p q) a =
    ∥∥₁_elim (some-history p a.0) ∥∥₁_prop
    (λ s. ∥∥₁_map (some-history q a.1) (λ t. (joined s.0 t.0, (p, q, refl, s.1, t.1))))
some-history (import p i) a = ∥∥₁_map (some-history p a) (λ s. (imports s.0 i, (p, refl, s.1)))

-- A history pins the course: two orders of the same units are one.
pub one-course : OneCourse
unfolding Told
one-course (elsewhere _) c d p q = p ∙ sym q
one-course (journal es) c d p q =
    let s = one-order p.0 q.0 p.2 q.2 (λ w. sym (same-from-shuffled (after es).units p.0 p.1 w) ∙ same-from-shuffled (after es).units q.0 q.1 w) in
    p.3 ∙ ap book_course s ∙ sym q.3
one-course (joined h k) c d p q =
    let a = one-course h p.0 q.0 p.2 q.2 in
    let b = one-course k p.1 q.1 p.3 q.3 in
    p.4 ∙ rw (a, b) (sym q.4)
one-course (imports h i) c d p q =
    let a = one-course h p.0 q.0 p.1 q.1 in
    p.2 ∙ rw a (sym q.2)
