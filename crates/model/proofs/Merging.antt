-- What holds of a merge, by one rule that follows its steps.
use Rattle.std.proofs.Common.{◌≡◌, ℕ, ◌≤◌, true, false, leb, List, [], ◌∷◌, ◌++◌, map, sym, refl, ap, ◌∙◌, append-nil, arith}
use Rattle.std.proofs.ByRecursion.{All-weaker}
use Rattle.std.proofs.lemmas.List.Sorted.{IsPermutation-cons, IsPermutation-refl, IsPermutation-sym, IsPermutation-trans}
use Rattle.std.proofs.lemmas.Bool.{cond_both, cond-false, cond-true, leb-false, leb-true}
use Rattle.std.specs.List.Sorted.{IsPermutation}
use Rattle.std.specs.List.{AllByRecursion}
use Rattle.model.specs.Course.{Course, Ending, faulty, proper, told_course}
use Rattle.model.specs.Merge.{MergeRearranges, before, ends_through, merged, merged_course, only_first, only_second}
use Rattle.model.specs.Units.{Falling, Listed, told}
use Rattle.model.specs.declared.faults.Side.TheVariants.{First}
use Rattle.model.specs.declared.units.PowerUnit.{PowerUnit}
use Rattle.model.proofs.Rearranged.{to_front}

module _ {A : Type 0} (day : A → ℕ) (e f : Ending) (R : List A → List A → Course A → Type 0)
    (second : (ys : List A) → R [] ys (only_second e ys f))
    (first : (x : A) (xs : List A) → R (x ∷ xs) [] (only_first (x ∷ xs) e f))
    (take-first : (x y : A) (xs ys : List A) (c : Course A) → leb (day y) (day x) ≡ true → R xs (y ∷ ys) c → R (x ∷ xs) (y ∷ ys) (before x c))
    (take_second : (x y : A) (xs ys : List A) (c : Course A) → leb (day y) (day x) ≡ false → R (x ∷ xs) ys c → R (x ∷ xs) (y ∷ ys) (before y c))
  where
    onto-follows : (x : A) (xs : List A) → ((zs : List A) → R xs zs (merged day xs e zs f)) → (ys : List A) → R (x ∷ xs) ys (merged day (x ∷ xs) e ys f)
    onto-follows x xs more [] = first x xs
    onto-follows x xs more (y ∷ ys) =
        cond_both (leb (day y) (day x)) _ _ (R (x ∷ xs) (y ∷ ys)) (λ t. take-first x y xs ys _ t (more (y ∷ ys))) (λ t. take_second x y xs ys _ t (onto-follows x xs more ys))

    -- a relation that each step of the merge keeps holds of the merge
    pub merged-follows : (xs ys : List A) → R xs ys (merged day xs e ys f)
    merged-follows [] ys = second ys
    merged-follows (x ∷ xs) ys = onto-follows x xs (merged-follows xs) ys

-- ---- what holds of each unit of both sides holds of each unit of the merge

module _ {A : Type 0} (P : A → Type 0) where
  all-second : (e f : Ending) (ys : List A) → AllByRecursion P ys → AllByRecursion P (only_second e ys f).units
  all-second proper f ys q = q
  all-second (faulty _) f ys q = tt

  all_first : (e f : Ending) (xs : List A) → AllByRecursion P xs → AllByRecursion P (only_first xs e f).units
  all_first e proper xs p = p
  all_first e (faulty _) xs p = tt

  pub all-merged : (day : A → ℕ) (c d : Course A) → AllByRecursion P c.units → AllByRecursion P d.units → AllByRecursion P (merged_course day c d).units
  all-merged day c d =
      merged-follows day c.ending d.ending (λ xs ys m. AllByRecursion P xs → AllByRecursion P ys → AllByRecursion P m.units)
      (λ ys _ q. all-second c.ending d.ending ys q)
      (λ x xs p _. all_first c.ending d.ending (x ∷ xs) p)
      (λ x y xs ys m t ih p q. (p.0, ih p.1 q))
      (λ x y xs ys m t ih p q. (q.0, ih p q.1))
      c.units d.units

-- ---- the merge of two falling lists falls

abbrev UpTo : ℕ → List Listed → Type 0
UpTo d us = AllByRecursion (λ v. v.day ≤ d) us

up-to-more : (d e : ℕ) (us : List Listed) → d ≤ e → UpTo d us → UpTo e us
up-to-more d e us h p = All-weaker (λ (v : Listed). v.day ≤ d) (λ v. v.day ≤ e) (λ v k. omega (arith, h, k)) us p

-- falling, and no newer than each day that neither side is newer than
abbrev Falls : List Listed → List Listed → Course Listed → Type 0
Falls xs ys m = Falling xs → Falling ys → Falling m.units × ((d : ℕ) → UpTo d xs → UpTo d ys → UpTo d m.units)

falls-second : (e f : Ending) (ys : List Listed) → Falls [] ys (only_second e ys f)
falls-second proper f ys _ q = (q, λ d _ b. b)
falls-second (faulty _) f ys _ q = (tt, λ d _ _. tt)

falls-first : (e f : Ending) (x : Listed) (xs : List Listed) → Falls (x ∷ xs) [] (only_first (x ∷ xs) e f)
falls-first e proper x xs p _ = (p, λ d a _. a)
falls-first e (faulty _) x xs p _ = (tt, λ d _ _. tt)

pub falling-merged : (c d : Course Listed) → Falling c.units → Falling d.units → Falling (merged_course (λ u. u.day) c d).units
falling-merged c d p q =
    (merged-follows (λ u. u.day) c.ending d.ending Falls
    (falls-second c.ending d.ending)
    (falls-first c.ending d.ending)
    (λ x y xs ys m t ih p q.
    let r = ih p.1 q in
    let k = leb-true y.day x.day t in
    ((r.1 x.day p.0 (k, up-to-more y.day x.day ys k q.0), r.0), λ d a b. (a.0, r.1 d a.1 b)))
    (λ x y xs ys m t ih p q.
    let r = ih p q.1 in
    let k : x.day ≤ y.day = omega (arith, leb-false y.day x.day t) in
    ((r.1 y.day (k, up-to-more x.day y.day xs k p.0) q.0, r.0), λ d a b. (b.0, r.1 d a b.1)))
    c.units d.units p q).0

-- ---- to tell keeps the day, so to tell a merge is to merge what is told

told-second : (e f : Ending) (ys : List Listed) → told_course (only_second e ys f) ≡ only_second e (map told ys) f
told-second proper f ys = refl
told-second (faulty _) f ys = refl

told-first : (e f : Ending) (xs : List Listed) → told_course (only_first xs e f) ≡ only_first (map told xs) e f
told-first e proper xs = refl
told-first e (faulty _) xs = refl

pub told-merged : (c d : Course Listed) → told_course (merged_course (λ u. u.day) c d) ≡ merged_course (λ (u : PowerUnit). u.day) (told_course c) (told_course d)
told-merged c d =
    merged-follows (λ u. u.day) c.ending d.ending (λ xs ys m. told_course m ≡ merged (λ (u : PowerUnit). u.day) (map told xs) c.ending (map told ys) d.ending)
    (told-second c.ending d.ending)
    (λ x xs. told-first c.ending d.ending (x ∷ xs))
    (λ x y xs ys m t ih. ap (before (told x)) ih ∙ sym (cond-true _ _ _ t))
    (λ x y xs ys m t ih. ap (before (told y)) ih ∙ sym (cond-false _ _ _ t))
    c.units d.units

pub joined-restarted : {c' d' : Course PowerUnit} (c d : Course Listed) → c' ≡ told_course c → d' ≡ told_course d → merged_course (λ u. u.day) c' d' ≡ told_course (merged_course (λ u. u.day) c d)
joined-restarted c d p q = rw (p, q) (sym (told-merged c d))

-- a side without its other is itself
pub merged-alone : {A : Type 0} (day : A → ℕ) (xs : List A) (e : Ending) → merged day xs e [] proper ≡ record { units = xs; ending = ends_through First e }
merged-alone day [] proper = refl
merged-alone day [] (faulty _) = refl
merged-alone day (x ∷ xs) e = refl

-- ---- the merge of two properly ended lists is a rearrangement of both

pub merge-rearranges : MergeRearranges
merge-rearranges =
    merged-follows (λ u. u.day) proper proper (λ xs ys m. IsPermutation (xs ++ ys) m.units)
    (λ ys. IsPermutation-refl ys)
    (λ x xs. rw append-nil (IsPermutation-refl (x ∷ xs)))
    (λ x y xs ys m t ih. IsPermutation-cons x (xs ++ y ∷ ys) m.units ih)
    (λ x y xs ys m t ih.
    IsPermutation-trans ((x ∷ xs) ++ y ∷ ys) (y ∷ ((x ∷ xs) ++ ys)) (y ∷ m.units)
    (IsPermutation-sym (y ∷ ((x ∷ xs) ++ ys)) ((x ∷ xs) ++ y ∷ ys) (to_front y (x ∷ xs) ys))
    (IsPermutation-cons y ((x ∷ xs) ++ ys) m.units ih))
