-- From the cohort and its sums to the build margin.
use Rattle.std.proofs.Common.{◌≡◌, ℕ, ◌<◌, Bool, true, false, cond, eqb, leb, List, [], ◌∷◌, length, Some, None, Ok, Err, Option, Result, sym, refl, ap, ◌∙◌, arith}
use Rattle.std.proofs.lemmas.Bool.{cond-false, eqb-false, ne_eqb}
use Rattle.model.specs.Cohort.{build_figure, built, built_unless, cohort_fault, cohort_of, counted, first_lack, members_of, or_lack, unregistered}
use Rattle.model.specs.Course.{Course, Ending, limit, faulty, if_fit, proper}
use Rattle.model.specs.Faults.{new_fault}
use Rattle.model.specs.Fraction.{Frac, ratio}
use Rattle.model.specs.Rounding.{rounded}
use Rattle.model.specs.Units.{Listed, Ranged}
use Rattle.model.specs.declared.answers.BuildMargin.{BuildMargin}
use Rattle.model.specs.declared.answers.Cohort.{Cohort}
use Rattle.model.specs.declared.answers.CohortSet.{CohortSet}
use Rattle.model.specs.declared.faults.BuildFault.{BuildFault}
use Rattle.model.specs.declared.faults.Fault.{Fault}
use Rattle.model.specs.declared.faults.Layer.TheVariants.{Build}
use Rattle.model.specs.declared.faults.Rule.TheVariants.{NoDefault}
use Rattle.model.proofs.Members.{members-generate}
use Rattle.register.proofs.Walking.{Fits, fits-is, ok-is}
use Rattle.build.specs.Cohorts.{cohort_or, walked_cohort}
use Rattle.build.specs.Margins.{mean_of, mean_unless}
use Rattle.build.specs.Members.{first_without, or_code, sums_of, walked_sums}
use Rattle.build.specs.declared.members.Sums.{Sums}

-- ---- the fault of a cohort is that of its margin

cond-err : (b : Bool) (e f : BuildFault) (c : Cohort) → Err f ≡ cond b (Err e) (Ok c) → (b ≡ true) × (f ≡ e)
cond-err true e f c h = (refl, cc)
cond-err false e f c h = (cc, cc)

module _ (reference : ℕ) (us : List Listed) where
  abbrev margin : BuildMargin
  margin = record { margin = build_figure reference us (cohort_of reference us); cohort = cohort_of reference us }

  none-built : (f : BuildFault) → Err f ≡ cohort_or reference us → Err f ≡ built_unless (cohort_fault reference us) margin
  none-built f h =
      let k = cond-err (eqb (length (unregistered us)) 0) _ f _ h in
      rw k.0 (ap Err k.1)

  fit-built : (e : Ending) (b : Bool) (f : BuildFault)
      → Err f ≡ if_fit Build e b (cohort_or reference us) (λ x. Err (record { fault = x }))
      → Err f ≡ if_fit Build e b (built_unless (cohort_fault reference us) margin) (λ x. Err (record { fault = x }))
  fit-built proper true f h = none-built f h
  fit-built proper false f h = cc
  fit-built (faulty x) b f h = cc

pub built-err : (reference : ℕ) (c : Course Listed) (f : BuildFault) → Err f ≡ walked_cohort reference c → Err f ≡ built reference c
built-err reference c f h = fit-built reference c.units c.ending (leb (length c.units) limit) f h

-- ---- the mean of the sums is the margin

abbrev lack_of : Option ℕ → Option Fault
lack_of None = None
lack_of (Some code) = Some (new_fault NoDefault Build code)

lack-one : (code : ℕ) (o : Option Frac) (l : Option ℕ) → lack_of (or_code code o l) ≡ or_lack code o (lack_of l)
lack-one code None l = refl
lack-one code (Some f) l = refl

lack-same : (set : CohortSet) (reference : ℕ) (us : List Listed) → lack_of (first_without set reference us) ≡ first_lack set reference us
lack-same set reference [] = refl
lack-same set reference (u ∷ us) = lack-one u.code (counted set reference u) _ ∙ ap (or_lack u.code (counted set reference u)) (lack-same set reference us)

abbrev with_cohort : Cohort → Result ℕ BuildFault → Result BuildMargin BuildFault
with_cohort c (Ok m) = Ok (record { margin = m; cohort = c })
with_cohort c (Err f) = Err f

mean-built : (o : Option ℕ) (grams g : ℕ) (c : Cohort) → 0 < g → with_cohort c (mean_unless o grams g) ≡ built_unless (lack_of o) (record { margin = rounded (ratio grams g); cohort = c })
mean-built (Some code) grams g c h = refl
mean-built None grams g c h = let z : eqb g 0 ≡ false = ne_eqb g 0 (λ e. omega arith) in rw z

or_ok : (b : Bool) (e : BuildFault) (x y : Cohort) → Ok x ≡ cond b (Err e) (Ok y) → (b ≡ false) × (x ≡ y)
or_ok true e x y h = (cc, cc)
or_ok false e x y h = (refl, cc)

fit-cohort : (reference : ℕ) (us : List Listed) (e : Ending) (b : Bool) (x : Cohort)
    → Ok x ≡ if_fit Build e b (cohort_or reference us) (λ f. Err (record { fault = f })) → (e ≡ proper) × (b ≡ true) × (eqb (length (unregistered us)) 0 ≡ false) × (x ≡ cohort_of reference us)
fit-cohort reference us proper true x h = let k = or_ok _ _ x _ h in (refl, refl, k.0, k.1)
fit-cohort reference us proper false x h = (cc, cc, cc, cc)
fit-cohort reference us (faulty f) b x h = (cc, cc, cc, cc)

module _ (reference : ℕ) (c : Course Listed) (ranged : Ranged c.units) (x : Cohort) (s : Sums)
    (h : Ok x ≡ walked_cohort reference c) (k : Ok s ≡ walked_sums reference x c) where
  pub mean-is : (r : Result ℕ BuildFault) → r ≡ mean_of s → with_cohort x r ≡ built reference c
  mean-is r e =
      let w = fit-cohort reference c.units c.ending (leb (length c.units) limit) x h in
      let fits : Fits c = record { ends = w.0; few = w.1 } in
      let apart = eqb-false (length (unregistered c.units)) 0 w.2 in
      let some : 0 < length (unregistered c.units) = omega arith in
      let is : s ≡ sums_of reference (cohort_of reference c.units) c.units = ok-is Build (λ f. record { fault = f }) c s _ k ∙ ap (λ y. sums_of reference y c.units) w.3 in
      let pos = members-generate reference c.units ranged some in
      ap (with_cohort x) (e ∙ ap mean_of is)
      ∙ ap (λ y. with_cohort y (mean_of (sums_of reference (cohort_of reference c.units) c.units))) w.3
      ∙ mean-built _ _ _ (cohort_of reference c.units) pos
      ∙ ap (λ f. built_unless f (margin reference c.units)) (lack-same (cohort_of reference c.units).set reference (members_of reference c.units (cohort_of reference c.units)) ∙ sym (cond-false _ _ _ w.2))
      ∙ sym (fits-is c fits Build (built_unless (cohort_fault reference c.units) (margin reference c.units)) _)
