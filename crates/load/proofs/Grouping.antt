-- Groups of six hours: what refuses one, and the year with one more, by the groups that stand and by the year.
use Rattle.std.proofs.Common.{◌≡◌, ℕ, zero, suc, ◌*◌, ◌/◌, ◌%◌, ◌<◌, Bool, true, false, cond, not, ◌&&◌, eqb, ltb, List, [], ◌∷◌, ◌++◌, get_or, Some, None, count_by, Option, Result, sym, refl, ap, ◌∙◌, inl, inr, arith}
use mathlib.Core.Logic.{∥∥₁_map}
use mathlib.Core.Path.{fun_ext}
use Rattle.std.proofs.lemmas.List.Sums.{fold_push}
use Rattle.std.proofs.lemmas.Bool.{and_from, and_parts, and_right, cases_Bool, cases_lt, cond-false, cond-true, eqb-false, eqb-true, le-ltb, lt-ltb, ltb-false, ne_eqb}
use Rattle.model.specs.declared.faults.Fault.{Fault}
use Rattle.model.specs.declared.faults.LoadFault.{LoadFault}
use Rattle.model.specs.declared.records.LoadGroup.{LoadGroup}
use Rattle.model.specs.Faults.{first_of, stands_after, unless_refused}
use Rattle.model.specs.Plain.{any}
use Rattle.model.specs.LoadYears.{Hour, ReachedYear, all_loads, group_answer, group_fault, group_year, groups_after, groups_taken, has_load, is_load, load, refused_group, with_group, year_after, year_group_answer, year_group_fault}
use Rattle.model.proofs.Firsts.{count-cons, none-head}

-- ---- the six loads

-- past the end of the list stands 0, which is a load
pub all-loads-at : (ns : List ℕ) (i : ℕ) → all_loads ns ≡ true → is_load (get_or ns i 0) ≡ true
unfolding is_load
all-loads-at [] i e = refl
all-loads-at (n ∷ ns) zero e = (and_parts (is_load n) (all_loads ns) e).0
all-loads-at (n ∷ ns) (suc i) e = all-loads-at ns i (and_parts (is_load n) (all_loads ns) e).1

-- ---- a group stands where its first hour has a load

pub first-hour : (n : ℕ) → 6 * n / 6 ≡ n
first-hour n = omega arith

module _ (hours : ℕ) where
  -- the hour is one of the group's
  abbrev pub of_group : LoadGroup → ℕ → Bool
  of_group g h = ltb h hours && eqb g.group (h / 6)

  pub with-its : (year : ℕ → Hour) (g : LoadGroup) (h : ℕ) → of_group g h ≡ true → with_group hours year g h ≡ load (get_or g.loads (h % 6) 0)
  with-its year g h is = cond-true (of_group g h) _ _ is

  pub with-other : (year : ℕ → Hour) (g : LoadGroup) (h : ℕ) → of_group g h ≡ false → with_group hours year g h ≡ year h
  with-other year g h is = cond-false (of_group g h) _ _ is

  abbrev numbered : ℕ → LoadGroup → Bool
  numbered n s = eqb s.group n

  stands-in : (gs : List LoadGroup) (n : ℕ) → 6 * n < hours → any (numbered n) gs ≡ has_load (group_year hours gs (6 * n))
  stands-in [] n l = refl
  stands-in (g ∷ gs) n l =
      let count = count-cons (numbered n) g gs in
      let same : eqb g.group (6 * n / 6) ≡ eqb g.group n = ap (eqb g.group) (first-hour n) in
      elim (cases_Bool (numbered n g)) [
        | inl e ↦
            lt-ltb 0 (count_by (numbered n) (g ∷ gs)) (grind (arith, count, e))
            ∙ ap has_load (sym (with-its (group_year hours gs) g (6 * n) (and_from _ _ (lt-ltb (6 * n) hours l) (same ∙ e))))
        | inr e ↦
            ap (ltb 0) (grind (arith, count, e))
            ∙ stands-in gs n l
            ∙ ap has_load (sym (with-other (group_year hours gs) g (6 * n) (and_right _ _ (same ∙ e))))
      ]

  -- a number out of range is refused whether it stands or not
  refused-same : (g : LoadGroup) (s t : Bool) → (g.group < hours / 6 → s ≡ t) → refused_group hours g s ≡ refused_group hours g t
  refused-same g s t same =
      elim (cases_lt g.group (hours / 6)) [
        | inl l ↦ ap (refused_group hours g) (same l)
        | inr l ↦ rw (le-ltb g.group (hours / 6) l) refl
      ]

  pub same-fault : (gs : List LoadGroup) (g : LoadGroup) → group_fault hours gs g ≡ year_group_fault hours (group_year hours gs) g
  same-fault gs g = refused-same g _ _ (λ l. stands-in gs g.group (omega arith))

  -- ---- one group more

  -- no two groups have an hour in common
  one-group : (s g : LoadGroup) (h : ℕ) → eqb s.group g.group ≡ false → of_group s h ≡ true → of_group g h ≡ false
  one-group s g h apart is =
      let at = eqb-true s.group (h / 6) (and_parts (ltb h hours) _ is).1 in
      and_right (ltb h hours) _ (ne_eqb g.group (h / 6) (λ e. eqb-false s.group g.group apart (omega arith)))

  year-push : (gs : List LoadGroup) (g : LoadGroup) → count_by (numbered g.group) gs ≡ 0 → (h : ℕ) → group_year hours (gs ++ g ∷ []) h ≡ with_group hours (group_year hours gs) g h
  year-push [] g none h = refl
  year-push (s ∷ gs) g none h =
      let parts = none-head (numbered g.group) s gs none in
      elim (cases_Bool (of_group s h)) [
        | inl is ↦
            with-its (group_year hours (gs ++ g ∷ [])) s h is
            ∙ sym (with-other (group_year hours (s ∷ gs)) g h (one-group s g h parts.0 is) ∙ with-its (group_year hours gs) s h is)
        | inr is ↦
            with-other (group_year hours (gs ++ g ∷ [])) s h is
            ∙ year-push gs g parts.1 h
            ∙ ap (cond (of_group g h) (load (get_or g.loads (h % 6) 0))) (sym (with-other (group_year hours gs) s h is))
      ]

  standing-refused : (b : Bool) (f k : Fault) → first_of ((not b, f) ∷ (true, k) ∷ []) ≡ None → ⊥
  standing-refused true f k e = cc
  standing-refused false f k e = cc

  -- a group that is not refused does not stand
  accepted-new : (gs : List LoadGroup) (g : LoadGroup) → group_fault hours gs g ≡ None → count_by (numbered g.group) gs ≡ 0
  accepted-new gs g e =
      elim (cases_Bool (any (numbered g.group) gs)) [
        | inl stands ↦ absurd (standing-refused (ltb g.group (hours / 6) && all_loads g.loads) _ _ (rw stands at e))
        | inr new ↦ omega (arith, ltb-false 0 (count_by (numbered g.group) gs) new)
      ]

  after-by : (o : Option Fault) (gs : List LoadGroup) (g : LoadGroup) → (o ≡ None → count_by (numbered g.group) gs ≡ 0) → stands_after o (with_group hours (group_year hours gs) g) (group_year hours gs) ≡ group_year hours (stands_after o (gs ++ g ∷ []) gs)
  after-by None gs g new = fun_ext (λ h. sym (year-push gs g (new refl) h))
  after-by (Some f) gs g new = refl

  -- ---- what the year says, by any groups that led to it

  pub living : (g : LoadGroup) (before after : ℕ → Hour) → after ≡ year_after hours before g → (gs : List LoadGroup) → before ≡ group_year hours gs → after ≡ group_year hours (groups_after hours gs g)
  living g before after made gs is =
      made
      ∙ ap (λ year. year_after hours year g) is
      ∙ ap (λ o. stands_after o (with_group hours (group_year hours gs) g) (group_year hours gs)) (sym (same-fault gs g))
      ∙ after-by (group_fault hours gs g) gs g (accepted-new gs g)

  pub telling : (g : LoadGroup) (before : ℕ → Hour) (r : Result (Unit {0}) LoadFault) → r ≡ year_group_answer hours before g → (gs : List LoadGroup) → before ≡ group_year hours gs → r ≡ group_answer hours gs g
  telling g before r answer gs is =
      answer
      ∙ ap (λ year. year_group_answer hours year g) is
      ∙ ap (λ (o : Option Fault). unless_refused {E = LoadFault} (λ f. record { fault = f }) o tt) (sym (same-fault gs g))

  pub reached-none : ReachedYear hours (group_year hours [])
  reached-none = ∣ ([], refl) ∣₁

  pub reached-more : (g : LoadGroup) (before after : ℕ → Hour) → after ≡ year_after hours before g → ReachedYear hours before → ReachedYear hours after
  reached-more g before after made reached =
      ∥∥₁_map reached
      (λ s. (s.0 ++ g ∷ [], living g before after made (groups_taken hours s.0) s.1 ∙ ap (group_year hours) (sym (fold_push (groups_after hours) [] s.0 g))))
