-- A year book's contents beside the plain book's, event after event.
use Rattle.std.proofs.Common.{◌≡◌, ℕ, ◌<◌, ◌≤◌, Bool, true, cond, not, List, [], ◌∷◌, ◌++◌, map, length, get_or, set, is_ok, Ok, Err, fold, count_by, Result, sym, refl, ap, ◌∙◌, inl, inr, arith}
use mathlib.Core.Logic.{∥∥₁_map}
use Rattle.std.specs.List.{insert, remove}
use Rattle.std.proofs.lemmas.List.Filters.{sum_by-filter_both}
use Rattle.std.proofs.lemmas.List.Sorted.{IsPermutation-refl}
use Rattle.std.proofs.lemmas.List.Sums.{sum_by_push, fold_push}
use Rattle.std.proofs.lemmas.Bool.{cases_Bool, cond_both}
use Rattle.std.proofs.lemmas.Bool.Decides.{nat_tests}
use Rattle.model.specs.declared.events.Event.{Event}
use Rattle.model.specs.declared.events.Event.TheVariants.{EnterFuel, EnterUnit, EnterBurn, Strike, Restart, Next, Packing, Question}
use Rattle.model.specs.declared.faults.BookFault.{BookFault}
use Rattle.model.specs.declared.units.BurnEntry.{BurnEntry}
use Rattle.model.specs.declared.units.Fuel.{Fuel}
use Rattle.model.specs.declared.units.UnitEntry.{UnitEntry}
use Rattle.model.specs.Plain.{Before, Contents, Ordered, Reached, Shows, after, burn_of, changed, empty, is_unit, no_unit, step, unit_of, verdict, with_burn}
use Rattle.model.specs.Units.{Standing}
use Rattle.model.proofs.Alike.{tells-units}
use Rattle.model.proofs.Firsts.{count-cons, first-same}
use Rattle.model.proofs.Orders.{burn-keeps, burned-set, kept-removed, one-order, ordered-inserted, ordered-kept, ordered-map}
use Rattle.model.proofs.Verdicts.{ok-accepted, passed-unit}
use Rattle.model.proofs.Rearranged.{Same, length-same, same-from-shuffled, same-inserted, same_kept, same_map, same-push, shuffled-from-same}

-- With the event v the contents p become q, whatever journal led to p.
abbrev pub Lives : Event → Contents → Contents → Type 0
Lives v p q = (es : List Event) → Shows es p → Shows (es ++ v ∷ []) q

-- no code stands twice
abbrev pub Apart : List Standing → Type 0
Apart us = (c : ℕ) → count_by (is_unit c) us ≤ 1

-- ---- what the plain book says depends on what it holds alone, not on the order of its units

pub record Like (p q : Contents) : Type 0 where
  pub fuels : p.fuels ≡ q.fuels
  pub units : Same p.units q.units
  pub apart : Apart p.units

unit-like : (p q : Contents) (c : ℕ) → Like p q → unit_of c p.units ≡ unit_of c q.units
unit-like p q c s = first-same tells-units (is_unit c) no_unit p.units q.units s.units (s.apart c)

stands-like : (p q : Contents) (c : ℕ) → Like p q → count_by (is_unit c) p.units ≡ count_by (is_unit c) q.units
stands-like p q c s = s.units (λ x. cond (is_unit c x) 1 0)

pub verdict-like : (p q : Contents) (v : Event) → Like p q → verdict p v ≡ verdict q v
verdict-like p q (EnterFuel f) s = rw s.fuels refl
verdict-like p q (EnterUnit e) s = rw (stands-like p q e.code s, length-same p.units q.units s.units) refl
verdict-like p q (EnterBurn e) s = rw (s.fuels, unit-like p q e.unit s, stands-like p q e.unit s) refl
verdict-like p q (Strike c) s = rw (stands-like p q c s) refl
verdict-like p q Restart s = refl
verdict-like p q Next s = refl
verdict-like p q Packing s = refl
verdict-like p q Question s = refl

-- ---- no code comes to stand twice

-- a change that leaves the entries leaves the codes
count_map : (c : ℕ) (f : Standing → Standing) → ((u : Standing) → (f u).entry ≡ u.entry) → (us : List Standing) → count_by (is_unit c) (map f us) ≡ count_by (is_unit c) us
count_map c f keeps [] = refl
count_map c f keeps (u ∷ us) = count-cons (is_unit c) (f u) (map f us) ∙ rw (keeps u, count_map c f keeps us) (sym (count-cons (is_unit c) u us))

changed-apart : (p : Contents) (v : Event) → is_ok (verdict p v) ≡ true → Apart p.units → Apart (changed p v).units
changed-apart p (EnterFuel f) ok a c = a c
changed-apart p (EnterUnit e) ok a c =
    let s = sum_by_push (λ u. cond (is_unit c u) 1 0) p.units (record { entry = e; burns = [] }) in
    let n = (passed-unit p e ok).apart in
    let h = a c in
    grind (arith, nat_tests, s, n, h)
changed-apart p (EnterBurn e) ok a c = rw (count_map c (with_burn e.unit (burn_of p e)) (burn-keeps e.unit (burn_of p e)) p.units) (a c)
changed-apart p (Strike k) ok a c =
    let t : Standing → Bool = λ u. not (is_unit k u) in
    omega (arith, a c, sum_by-filter_both t (λ u. not (t u)) (λ _. refl) (λ u. cond (is_unit c u) 1 0) p.units)
changed-apart p Restart ok a c = a c
changed-apart p Next ok a c = a c
changed-apart p Packing ok a c = a c
changed-apart p Question ok a c = a c

changed-like : (p q : Contents) (v : Event) → is_ok (verdict p v) ≡ true → Like p q → Like (changed p v) (changed q v)
changed-like p q (EnterFuel f) ok s = record { fuels = ap (λ fs. fs ++ f ∷ []) s.fuels; units = s.units; apart = s.apart }
changed-like p q (EnterUnit e) ok s =
    record { fuels = s.fuels; units = same-push p.units q.units (record { entry = e; burns = [] }) s.units; apart = changed-apart p (EnterUnit e) ok s.apart }
changed-like p q (EnterBurn e) ok s =
    record {
      fuels = s.fuels;
      units = rw s.fuels (same_map (with_burn e.unit (burn_of q e)) p.units q.units s.units);
      apart = changed-apart p (EnterBurn e) ok s.apart;
    }
changed-like p q (Strike c) ok s =
    record { fuels = s.fuels; units = same_kept (λ u. not (is_unit c u)) p.units q.units s.units; apart = changed-apart p (Strike c) ok s.apart }
changed-like p q Restart ok s = s
changed-like p q Next ok s = s
changed-like p q Packing ok s = s
changed-like p q Question ok s = s

step-like : (p q : Contents) (v : Event) → Like p q → Like (step p v) (step q v)
step-like p q v s =
    let same = ap is_ok (verdict-like p q v s) in
    elim (cases_Bool (is_ok (verdict p v))) [
      | inl e ↦ rw (sym same ∙ e, e) (changed-like p q v e s)
      | inr e ↦ rw (sym same ∙ e, e) s
    ]

-- ---- what each change keeps, a journal keeps

pub run-keeps : (I : Contents → Type 0) → ((p : Contents) (v : Event) → is_ok (verdict p v) ≡ true → I p → I (changed p v)) → (es : List Event) (p : Contents) → I p → I (fold step p es)
run-keeps I keeps [] p i = i
run-keeps I keeps (v ∷ es) p i =
    run-keeps I keeps es (step p v) (cond_both (is_ok (verdict p v)) (changed p v) p I (λ ok. keeps p v ok i) (λ _. i))

plain-apart : (es : List Event) → Apart (after es).units
plain-apart es = run-keeps (λ p. Apart p.units) changed-apart es empty (λ c. omega arith)

pub like : (es : List Event) (p : Contents) → Shows es p → Like (after es) p
like es p a = record { fuels = sym a.fuels; units = same-from-shuffled (after es).units p.units a.units; apart = plain-apart es }

pub shown-apart : (es : List Event) (p : Contents) → Shows es p → Apart p.units
shown-apart es p a c = omega (arith, (like es p a).units (λ u. cond (is_unit c u) 1 0), plain-apart es c)

-- ---- one event more

-- q is p with its units in order
pub record InOrder (p q : Contents) : Type 0 where
  pub fuels : p.fuels ≡ q.fuels
  pub units : Same p.units q.units
  pub ordered : Ordered q.units

-- where the event's change is made on p, and in order, the journal's book follows
carry : (v : Event) (p q : Contents) → (Apart p.units → Ordered p.units → InOrder (step p v) q) → Lives v p q
carry v p q moves es a =
    let m = moves (shown-apart es p a) a.ordered in
    let t = step-like (after es) p v (like es p a) in
    let e = fold_push step empty es v in
    record {
      fuels = rw e (sym (t.fuels ∙ m.fuels));
      units = rw e (shuffled-from-same tells-units (step (after es) v).units q.units (λ w. t.units w ∙ m.units w));
      ordered = m.ordered;
    }

-- The answer by the contents is the plain book's.
pub told : (v : Event) (p : Contents) (r : Result (Unit {0}) BookFault) → r ≡ verdict p v → (es : List Event) → Shows es p → r ≡ verdict (after es) v
told v p r is es a = is ∙ sym (verdict-like (after es) p v (like es p a))

-- a refusal changes nothing
pub lives-refused : (v : Event) (p : Contents) (f : BookFault) → Err f ≡ verdict p v → Lives v p p
lives-refused v p f is = carry v p p (λ _ o. rw (sym is) record { fuels = refl; units = λ w. refl; ordered = o })

-- An event that is never refused and changes nothing.
pub record Quiet (v : Event) : Type 0 where
  pub accepted : (p : Contents) → Ok tt ≡ verdict p v
  pub kept : (p : Contents) → changed p v ≡ p

pub quiet-restart : Quiet Restart
quiet-restart = record { accepted = λ _. refl; kept = λ _. refl }

pub quiet_next : Quiet Next
quiet_next = record { accepted = λ _. refl; kept = λ _. refl }

pub quiet-packing : Quiet Packing
quiet-packing = record { accepted = λ _. refl; kept = λ _. refl }

pub quiet-question : Quiet Question
quiet-question = record { accepted = λ _. refl; kept = λ _. refl }

pub lives-quiet : (v : Event) → Quiet v → (p : Contents) → Lives v p p
lives-quiet v quiet p =
    carry v p p
    (λ _ o. rw (ok-accepted (verdict p v) (quiet.accepted p), quiet.kept p) record { fuels = refl; units = λ w. refl; ordered = o })

pub lives-fuel : (p : Contents) (fs : List Fuel) (f : Fuel) → Ok tt ≡ verdict p (EnterFuel f) → fs ≡ p.fuels ++ f ∷ [] → Lives (EnterFuel f) p (record { fuels = fs; units = p.units })
lives-fuel p fs f is made =
    carry (EnterFuel f) p (record { fuels = fs; units = p.units })
    (λ _ o. rw (ok-accepted (verdict p (EnterFuel f)) is) record { fuels = sym made; units = λ w. refl; ordered = o })

-- the unit goes to the first place that is not newer
pub lives-unit : (p : Contents) (us : List Standing) (i : ℕ) (e : UnitEntry) → Ok tt ≡ verdict p (EnterUnit e) → us ≡ insert p.units i (record { entry = e; burns = [] }) → ((k : ℕ) → k < i → Before (get_or p.units k no_unit) (record { entry = e; burns = [] })) → (i < length p.units → Before (get_or p.units i no_unit) (record { entry = e; burns = [] }) → ⊥) → i ≤ length p.units → Lives (EnterUnit e) p (record { fuels = p.fuels; units = us })
lives-unit p us i e is made newer stops le =
    let u : Standing = record { entry = e; burns = [] } in
    let ok = ok-accepted (verdict p (EnterUnit e)) is in
    rw made
    (carry (EnterUnit e) p (record { fuels = p.fuels; units = insert p.units i u })
    (λ _ o. rw ok record { fuels = refl; units = same-inserted p.units i u; ordered = ordered-inserted p.units i u o newer stops le (passed-unit p e ok).apart }))

-- the one unit of the code burns more
pub lives-burn : (p : Contents) (us : List Standing) (i : ℕ) (e : BurnEntry) → Ok tt ≡ verdict p (EnterBurn e) → i < length p.units → is_unit e.unit (get_or p.units i no_unit) ≡ true → us ≡ set p.units i (record { entry = (get_or p.units i no_unit).entry; burns = (get_or p.units i no_unit).burns ++ burn_of p e ∷ [] }) → Lives (EnterBurn e) p (record { fuels = p.fuels; units = us })
lives-burn p us i e is l at made =
    let b = burn_of p e in
    let ok = ok-accepted (verdict p (EnterBurn e)) is in
    carry (EnterBurn e) p (record { fuels = p.fuels; units = us })
    (λ apart o.
    let k = made ∙ sym (burned-set e.unit b p.units i l at (apart e.unit)) in
    rw (ok, k) record { fuels = refl; units = λ w. refl; ordered = ordered-map (with_burn e.unit b) (burn-keeps e.unit b) p.units o })

-- the one unit of the code goes
pub lives-strike : (p : Contents) (us : List Standing) (i c : ℕ) → Ok tt ≡ verdict p (Strike c) → i < length p.units → is_unit c (get_or p.units i no_unit) ≡ true → us ≡ remove p.units i → Lives (Strike c) p (record { fuels = p.fuels; units = us })
lives-strike p us i c is l at made =
    let ok = ok-accepted (verdict p (Strike c)) is in
    carry (Strike c) p (record { fuels = p.fuels; units = us })
    (λ apart o.
    let k = made ∙ sym (kept-removed c p.units i l at (apart c)) in
    rw (ok, k) record { fuels = refl; units = λ w. refl; ordered = ordered-kept (λ u. not (is_unit c u)) p.units o })

pub shows-none : Shows [] empty
shows-none = record { fuels = refl; units = IsPermutation-refl []; ordered = tt }

pub reached-none : Reached empty
reached-none = ∣ ([], shows-none) ∣₁

pub reached-more : (v : Event) (p q : Contents) → Lives v p q → Reached p → Reached q
reached-more v p q lives reached = ∥∥₁_map reached (λ s. (s.0 ++ v ∷ [], lives s.0 s.1))

-- A journal pins the contents.
pub one-contents : (es : List Event) (p q : Contents) → Shows es p → Shows es q → p ≡ q
one-contents es p q a b =
    let u = one-order p.units q.units a.ordered b.ordered (λ w. sym ((like es p a).units w) ∙ (like es q b).units w) in
    let f = a.fuels ∙ sym b.fuels in
    λ i. record { fuels = f i; units = u i }
