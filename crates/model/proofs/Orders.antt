-- The order of a year book's list, and what an entry, a burn and a strike do to it.
use Rattle.std.proofs.Common.{◌≡◌, ℕ, zero, suc, ◌<◌, ◌≤◌, Bool, true, false, cond, not, List, [], ◌∷◌, ◌++◌, map, length, get_or, take, drop, set, count_by, filter, sym, refl, ap, ◌∙◌, inl, inr, arith}
use Rattle.std.specs.List.{insert, remove, AllByRecursion}
use Rattle.std.proofs.lemmas.List.{nil_from_length}
use Rattle.std.proofs.ByRecursion.{All-append, All-drop, all_kept_by, All-map, All-take, All-weaker}
use Rattle.std.proofs.lemmas.List.Sums.{sum_by-cons}
use Rattle.std.proofs.lemmas.Bool.{both_ways, cases_Bool, eqb-false}
use Rattle.model.specs.declared.units.Burn.{Burn}
use Rattle.model.specs.Plain.{Before, Ordered, is_unit, no_unit, with_burn}
use Rattle.model.specs.Units.{Standing}
use Rattle.model.proofs.Alike.{tells-units}
use Rattle.model.proofs.Firsts.{count-cons, none-head, once-head}
use Rattle.model.proofs.Rearranged.{Same, counted, length-same, parted, same-sym}

before-trans : (x y z : Standing) → Before x y → Before y z → Before x z
before-trans x y z p q = (omega arith, λ e. let a : x.entry.day ≡ y.entry.day = omega arith in let b : y.entry.day ≡ z.entry.day = omega arith in omega (arith, p.1 a, q.1 b))

before-other : (x u : Standing) → (x.entry.code ≡ u.entry.code → ⊥) → (Before x u → ⊥) → Before u x
before-other x u apart not_yet = grind arith

-- a code that is not counted is not the head's
other-head : (c : ℕ) (x : Standing) (xs : List Standing) → count_by (is_unit c) (x ∷ xs) ≡ 0 → (x.entry.code ≡ c → ⊥) × (count_by (is_unit c) xs ≡ 0)
other-head c x xs h = let p = none-head (is_unit c) x xs h in (eqb-false x.entry.code c p.0, p.1)

-- the list up to i stands before u, and what is at i does not
pub ordered-inserted : (xs : List Standing) (i : ℕ) (u : Standing) → Ordered xs → ((k : ℕ) → k < i → Before (get_or xs k no_unit) u) → (i < length xs → Before (get_or xs i no_unit) u → ⊥) → i ≤ length xs → count_by (is_unit u.entry.code) xs ≡ 0 → Ordered (insert xs i u)
ordered-inserted [] zero u o newer stops le h = (tt, tt)
ordered-inserted [] (suc i) u o newer stops le h = (tt, tt)
ordered-inserted (x ∷ xs) zero u o newer stops le h =
    let b : Before u x = before-other x u (other-head u.entry.code x xs h).0 (stops (omega arith)) in
    ((b, All-weaker (Before x) (Before u) (λ y. before-trans u x y b) xs o.0), o)
ordered-inserted (x ∷ xs) (suc i) u o newer stops le h = (
  All-append (Before x) (take i xs) (u ∷ drop i xs) (All-take (Before x) i xs o.0) (newer 0 (omega arith), All-drop (Before x) i xs o.0),
  ordered-inserted xs i u o.1 (λ k l. newer (suc k) (omega arith)) (λ l. stops (omega arith)) (omega arith) (other-head u.entry.code x xs h).1,
)

pub ordered-kept : (p : Standing → Bool) (xs : List Standing) → Ordered xs → Ordered (filter p xs)
ordered-kept p [] o = tt
ordered-kept p (x ∷ xs) o =
    let more = ordered-kept p xs o.1 in
    elim (p x) as (λ b. Ordered (cond b (x ∷ filter p xs) (filter p xs))) [ true ↦ (all_kept_by p (Before x) xs o.0, more) | false ↦ more ]

-- the order is that of the entries alone
pub ordered-map : (f : Standing → Standing) → ((x : Standing) → (f x).entry ≡ x.entry) → (xs : List Standing) → Ordered xs → Ordered (map f xs)
ordered-map f keeps [] o = tt
ordered-map f keeps (x ∷ xs) o = (
  All-map (Before (f x)) f xs (All-weaker (Before x) (λ y. Before (f x) (f y)) (λ y b. rw (keeps x, keeps y) b) xs o.0),
  ordered-map f keeps xs o.1,
)

-- ---- one unit struck, one unit changed

abbrev other : ℕ → Standing → Bool
other c x = not (is_unit c x)

-- where no unit has the code, all are kept
kept-all : (c : ℕ) (xs : List Standing) → count_by (is_unit c) xs ≡ 0 → filter (other c) xs ≡ xs
kept-all c [] h = refl
kept-all c (x ∷ xs) h = let p = none-head (is_unit c) x xs h in rw p.0 (ap (λ ys. x ∷ ys) (kept-all c xs p.1))

-- the one unit of the code, at i, is all that is struck
pub kept-removed : (c : ℕ) (xs : List Standing) (i : ℕ) → i < length xs → is_unit c (get_or xs i no_unit) ≡ true → count_by (is_unit c) xs ≤ 1 → filter (other c) xs ≡ remove xs i
kept-removed c [] i l is once = absurd (omega arith)
kept-removed c (x ∷ xs) zero l is once = rw is (kept-all c xs (grind (arith, count-cons (is_unit c) x xs, is, once)))
kept-removed c (x ∷ xs) (suc i) l is once =
    let p = once-head (is_unit c) x no_unit xs i once (omega arith) is in
    rw p.0 (ap (λ ys. x ∷ ys) (kept-removed c xs i (omega arith) is p.1))

pub burn-keeps : (c : ℕ) (b : Burn) (u : Standing) → (with_burn c b u).entry ≡ u.entry
burn-keeps c b u = elim (is_unit c u) as (λ t. (cond t (record { entry = u.entry; burns = u.burns ++ b ∷ [] }) u).entry ≡ u.entry) [ true ↦ refl | false ↦ refl ]

-- where no unit has the code, none is changed
burned-none : (c : ℕ) (b : Burn) (xs : List Standing) → count_by (is_unit c) xs ≡ 0 → map (with_burn c b) xs ≡ xs
burned-none c b [] h = refl
burned-none c b (x ∷ xs) h = let p = none-head (is_unit c) x xs h in rw p.0 (ap (λ ys. x ∷ ys) (burned-none c b xs p.1))

-- the one unit of the code, at i, is all that is changed
pub burned-set : (c : ℕ) (b : Burn) (xs : List Standing) (i : ℕ) → i < length xs → is_unit c (get_or xs i no_unit) ≡ true → count_by (is_unit c) xs ≤ 1 → map (with_burn c b) xs ≡ set xs i (record { entry = (get_or xs i no_unit).entry; burns = (get_or xs i no_unit).burns ++ b ∷ [] })
burned-set c b [] i l is once = absurd (omega arith)
burned-set c b (x ∷ xs) zero l is once =
    rw is (ap (λ ys. record { entry = x.entry; burns = x.burns ++ b ∷ [] } ∷ ys) (burned-none c b xs (grind (arith, count-cons (is_unit c) x xs, is, once))))
burned-set c b (x ∷ xs) (suc i) l is once =
    let p = once-head (is_unit c) x no_unit xs i once (omega arith) is in
    rw p.0 (ap (λ ys. x ∷ ys) (burned-set c b xs i (omega arith) is p.1))

-- ---- a list in order is known by what it holds

all-at : {A : Type 0} (P : A → Type 0) (a b : List A) (x : A) → AllByRecursion P (a ++ x ∷ b) → P x
all-at P [] b x h = h.0
all-at P (y ∷ a) b x h = all-at P a b x h.1

-- what stands in y's list, and is not y, stands behind y
behind : (x y : Standing) (xs ys : List Standing) → Same (x ∷ xs) (y ∷ ys) → Ordered (y ∷ ys) → tells-units.alike x y ≡ false → Before y x
behind x y xs ys s o e =
    let c = counted tells-units x xs (y ∷ ys) s in
    let p = parted tells-units x ys (grind (arith, count-cons (tells-units.alike x) y ys, e, c)) in
    all-at (Before y) p.0 p.1 x (rw p.2 at o.0)

pub one-order : (xs ys : List Standing) → Ordered xs → Ordered ys → Same xs ys → xs ≡ ys
one-order [] ys o q s = sym (nil_from_length ys (sym (length-same [] ys s)))
one-order (x ∷ xs) [] o q s = absurd (omega (arith, length-same (x ∷ xs) [] s))
one-order (x ∷ xs) (y ∷ ys) o q s =
    elim (cases_Bool (tells-units.alike x y)) [
      | inl e ↦
          let h = tells-units.one x y e in
          let rest : Same xs ys = λ w. omega (arith, s w, sum_by-cons w x xs, sum_by-cons w y ys, ap w h) in
          rw h (ap (λ zs. x ∷ zs) (one-order xs ys o.1 q.1 rest))
      | inr e ↦
          elim (cases_Bool (tells-units.alike y x)) [
            | inl f ↦ let z : true ≡ false = sym (tells-units.itself x) ∙ ap (tells-units.alike x) (tells-units.one y x f) ∙ e in absurd (both_ways true z refl)
            | inr f ↦
                let b = behind x y xs ys s q e in
                let c = behind y x ys xs (same-sym (x ∷ xs) (y ∷ ys) s) o f in
                absurd (grind (arith, b, c))
          ]
    ]
