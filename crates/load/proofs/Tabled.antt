-- The table of groups as a year.
use Rattle.std.proofs.Common.{◌≡◌, ℕ, zero, suc, ◌*◌, ◌/◌, ◌%◌, ◌<◌, Bool, true, false, cond, eqb, ltb, List, [], length, get_or, set, replicate, is_some, Some, None, Ok, Err, Option, Result, sym, refl, ap, ◌∙◌, inl, inr, arith}
use mathlib.Core.Path.{fun_ext}
use Rattle.std.proofs.lemmas.List.{get_or_default, get_or-set_other, get_or-set_same}
use Rattle.std.proofs.lemmas.Bool.{and_from, and_left, and_right, cases_Bool, cond-false, cond-true, eqb-false, eqb-true, lt-ltb}
use Rattle.model.specs.declared.faults.Fault.{Fault}
use Rattle.model.specs.declared.faults.Layer.TheVariants.{LoadYear}
use Rattle.model.specs.declared.faults.LoadFault.{LoadFault}
use Rattle.model.specs.declared.faults.Rule.TheVariants.{AlreadyStands}
use Rattle.model.specs.declared.records.LoadGroup.{LoadGroup}
use Rattle.model.specs.Faults.{new_fault, stands_after, unless_refused}
use Rattle.model.specs.LoadYears.{Hour, year_hours, ReachedYear, all_loads, group_year, has_load, load, missing_hour, with_group, year_after, year_group_answer, year_group_fault}
use Rattle.load.specs.Tables.{placed, table_year}
use Rattle.load.specs.Taking.{TakenIn}
use Rattle.load.specs.Ranging.{Ranged}
use Rattle.load.proofs.Grouping.{all-loads-at, first-hour, living, of_group, reached-none, telling, with-its, with-other}

abbrev Table : Type 0
Table = List (Option (List ℕ))

abbrev free : ℕ → Table
free n = replicate n None

get_or-free : (n k : ℕ) → get_or (free n) k None ≡ None
get_or-free zero k = refl
get_or-free (suc n) zero = refl
get_or-free (suc n) (suc k) = get_or-free n k

abbrev answer : Option Fault → Result (Unit {0}) LoadFault
answer o = unless_refused (λ f. record { fault = f }) o tt

placed-has : (h : ℕ) (o : Option (List ℕ)) → has_load (placed h o) ≡ is_some o
placed-has h None = refl
placed-has h (Some loads) = refl

module _ (hours : ℕ) where
  -- within the year the table's place decides
  within : (table : Table) (h : ℕ) → ltb h hours ≡ true → table_year hours table h ≡ placed h (get_or table (h / 6) None)
  within table h is = cond-true (ltb h hours) _ _ is

  past : (table : Table) (h : ℕ) → ltb h hours ≡ false → table_year hours table h ≡ missing_hour h
  past table h is = cond-false (ltb h hours) _ _ is

  pub none-year : (n : ℕ) → table_year hours (free n) ≡ group_year hours []
  none-year n =
      fun_ext
      (λ h.
      elim (cases_Bool (ltb h hours)) [
        | inl is ↦ within (free n) h is ∙ ap (placed h) (get_or-free n (h / 6))
        | inr is ↦ past (free n) h is
      ])

  -- a table that is free of groups
  module _ (n : ℕ) (table : Table) (is : table ≡ free n) where
    pub free-year : table_year hours table ≡ group_year hours []
    free-year = ap (table_year hours) is ∙ none-year n

    pub free-ranged : (h : ℕ) → Ranged (table_year hours table h)
    free-ranged h m e = let not : missing_hour h ≡ load m = sym (ap (λ (year : ℕ → Hour). year h) free-year) ∙ e in cc

    pub free-reached : ReachedYear hours (table_year hours table)
    free-reached = rw free-year (reached-none hours)

  pub stands_at : (table : Table) (n : ℕ) → 6 * n < hours → has_load (table_year hours table (6 * n)) ≡ is_some (get_or table n None)
  stands_at table n l =
      ap has_load (within table (6 * n) (lt-ltb (6 * n) hours l) ∙ ap (λ k. placed (6 * n) (get_or table k None)) (first-hour n))
      ∙ placed-has (6 * n) (get_or table n None)

  module _ (table : Table) (g : LoadGroup) (l : g.group < length table) where
    abbrev put : Table
    put = set table g.group (Some g.loads)

    put-at : (h : ℕ) → table_year hours put h ≡ with_group hours (table_year hours table) g h
    put-at h =
        elim (cases_Bool (ltb h hours)) [
          | inl is ↦
              elim (cases_Bool (eqb g.group (h / 6))) [
                | inl its ↦
                    within put h is
                    ∙ ap (placed h) (ap (λ k. get_or put k None) (sym (eqb-true g.group (h / 6) its)) ∙ get_or-set_same table g.group (Some g.loads) None l)
                    ∙ sym (with-its hours (table_year hours table) g h (and_from _ _ is its))
                | inr other ↦
                    within put h is
                    ∙ ap (placed h) (get_or-set_other table g.group (h / 6) (Some g.loads) None (λ e. eqb-false g.group (h / 6) other (sym e)))
                    ∙ sym (with-other hours (table_year hours table) g h (and_right _ _ other) ∙ within table h is)
              ]
          | inr is ↦ past put h is ∙ sym (with-other hours (table_year hours table) g h (and_left _ _ is) ∙ past table h is)
        ]

    pub put-ranged : all_loads g.loads ≡ true → ((h : ℕ) → Ranged (table_year hours table h)) → (h : ℕ) → Ranged (table_year hours put h)
    put-ranged loads before h n is =
        let now = sym (put-at h) ∙ is in
        elim (cases_Bool (of_group hours g h)) [
          | inl its ↦
              let e : load (get_or g.loads (h % 6) 0) ≡ load n = sym (with-its hours (table_year hours table) g h its) ∙ now in
              let same : get_or g.loads (h % 6) 0 ≡ n = cc in
              rw (← same) (all-loads-at g.loads (h % 6) loads)
          | inr other ↦ before h n (sym (with-other hours (table_year hours table) g h other) ∙ now)
        ]

    abbrev after : Option Fault → ℕ → Hour
    after o = stands_after o (with_group hours (table_year hours table) g) (table_year hours table)

    module _ (few : g.group < hours / 6) (loads : all_loads g.loads ≡ true) where
      -- with all numbers in range the table's place decides
      fault-at : (b : Bool) → b ≡ is_some (get_or table g.group None) → year_group_fault hours (table_year hours table) g ≡ cond b (Some (new_fault AlreadyStands LoadYear g.group)) None
      fault-at b is = rw (lt-ltb g.group (hours / 6) few, loads, stands_at table g.group (omega arith), ← is) refl

      pub accepted-answer : false ≡ is_some (get_or table g.group None) → Ok tt ≡ year_group_answer hours (table_year hours table) g
      accepted-answer new = ap answer (sym (fault-at false new))

      pub refused-answer : (f : LoadFault) → f ≡ record { fault = new_fault AlreadyStands LoadYear g.group } → true ≡ is_some (get_or table g.group None) → Err f ≡ year_group_answer hours (table_year hours table) g
      refused-answer f is stands = ap Err is ∙ ap answer (sym (fault-at true stands))

      pub accepted-year : false ≡ is_some (get_or table g.group None) → table_year hours put ≡ year_after hours (table_year hours table) g
      accepted-year new = fun_ext put-at ∙ ap after (sym (fault-at false new))

      pub refused-year : true ≡ is_some (get_or table g.group None) → table_year hours table ≡ year_after hours (table_year hours table) g
      refused-year stands = ap after (sym (fault-at true stands))

-- what was read at the place
pub looked-up : (table : Table) (place n : ℕ) (o : Option (List ℕ)) → place ≡ n → n < length table → o ≡ get_or table place o → o ≡ get_or table n None
looked-up table place n o at l is = is ∙ ap (λ k. get_or table k o) at ∙ get_or_default table n o None l

-- what is told by the year is told by any groups that led to it
pub taken_in : (g : LoadGroup) (before later : ℕ → Hour) (r : Result (Unit {0}) LoadFault) → r ≡ year_group_answer year_hours before g → later ≡ year_after year_hours before g → TakenIn g before later r
taken_in g before later r told made = record { answer = told; year = made; told = telling year_hours g before r told; life = living year_hours g before later made }
