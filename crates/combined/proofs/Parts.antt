-- What the walk, the method and the build margin answered, part by part.
use Rattle.std.proofs.Common.{◌≡◌, ℕ, ◌<◌, true, cond, eqb, leb, List, length, Some, None, Ok, Err, Option, Result, sym, refl, ap, ◌∙◌, inl, inr, arith}
use Rattle.std.proofs.lemmas.Bool.{cases_Bool, cond_both, eqb-false, eqb-true, leb-true}
use Rattle.model.specs.Cohort.{BuildNear, ComputedIsCohort, IsCohort, build_figure, built, built_unless, cohort_fault, cohort_of, exact_build, kept_units, olds, reaches, sample_count, sample_run, target, unregistered, with_registered}
use Rattle.model.specs.Course.{Course, limit, if_walked, proper, walk_fault}
use Rattle.model.specs.Fraction.{Within, ratio}
use Rattle.model.specs.Promise.{no_cohort, shares_of, verdict_fault}
use Rattle.model.specs.Shares.{Meets, Verdict, judged, refused, shares}
use Rattle.model.specs.Units.{Falling, Listed, Ranged}
use Rattle.model.specs.declared.answers.BuildMargin.{BuildMargin}
use Rattle.model.specs.declared.answers.Cohort.{Cohort}
use Rattle.model.specs.declared.faults.CombinedFault.{CombinedFault}
use Rattle.model.specs.declared.faults.Fault.{Fault}
use Rattle.model.specs.declared.faults.Layer.TheVariants.{Combined}
use Rattle.model.specs.declared.faults.MethodFault.{MethodFault}
use Rattle.model.specs.declared.faults.RegisterFault.{RegisterFault}
use Rattle.model.proofs.Courses.{fit-err, fit-ok}
use Rattle.combined.specs.Builds.{built_for, lifted}

-- ---- the walk

abbrev pub walk_answer : Course Listed → Result ℕ RegisterFault
walk_answer c = if_walked Combined c (Ok (length c.units)) (λ f. Err (record { fault = f }))

pub walk_refused : (c : Course Listed) (x : RegisterFault) → Err x ≡ walk_answer c → walk_fault Combined c ≡ Some x.fault
walk_refused c x h =
    let k = fit-err (λ f. record { fault = f }) Combined c.ending (leb (length c.units) limit) (length c.units) x None Some h in
    k.2 ∙ ap Some (sym (ap (λ (z : RegisterFault). z.fault) k.1))

pub record Walked (c : Course Listed) : Type 0 where
  pub ends : c.ending ≡ proper
  pub short : leb (length c.units) limit ≡ true

pub walked : (c : Course Listed) (n : ℕ) → Ok n ≡ walk_answer c → Walked c
walked c n h =
    let k = fit-ok (λ f. record { fault = f }) Combined c.ending (leb (length c.units) limit) n (length c.units) h in
    record { ends = k.0; short = k.1 }

module _ (c : Course Listed) (w : Walked c) where
  pub no-walk-fault : walk_fault Combined c ≡ None
  no-walk-fault = rw (w.ends, w.short) refl

  pub judged-is : (meaning : List Listed → Verdict) → judged meaning c ≡ meaning c.units
  judged-is meaning = rw (w.ends, w.short) refl

  pub built-is : (reference : ℕ)
      → built reference c ≡ built_unless (cohort_fault reference c.units) (record { margin = build_figure reference c.units (cohort_of reference c.units); cohort = cohort_of reference c.units })
  built-is reference = rw (w.ends, w.short) refl

-- ---- the method

pub meets-err : (v : Verdict) (P : ℕ → Type 0) (x : MethodFault) → Meets v P (Err x) → verdict_fault v ≡ Some x.fault
meets-err (refused g) P x h = cc
meets-err (shares ss) P x h = absurd h

pub meets-ok : (v : Verdict) (P : ℕ → Type 0) (a : ℕ) → Meets v P (Ok a) → (v ≡ shares (shares_of v)) × P a
meets-ok (refused g) P a h = let z : ◌≡◌ {A = ℕ} 0 1 = cc in absurd (omega arith)
meets-ok (shares ss) P a h = (refl, h)

-- ---- the build margin

unless-err : (o : Option Fault) (m : BuildMargin) (f : CombinedFault) → Err f ≡ lifted (built_unless o m) → o ≡ Some f.fault
unless-err None m f h = cc
unless-err (Some g) m f h = cc

unless-ok : (o : Option Fault) (m b : BuildMargin) → Ok b ≡ lifted (built_unless o m) → (o ≡ None) × (b ≡ m)
unless-ok None m b h = (refl, cc)
unless-ok (Some g) m b h = (cc, cc)

-- the first count, whichever the set
first_count : (reference : ℕ) (us : List Listed) → (cohort_of reference us).counts.0 ≡ length (kept_units reference us)
first_count reference us =
    let is : Cohort → Type 0 = λ d. d.counts.0 ≡ length (kept_units reference us) in
    cond_both (eqb (length (olds reference (sample_run reference us))) 0) _ _ is (λ _. refl)
    (λ _. cond_both (reaches (target us) (with_registered reference us)) _ _ is (λ _. refl) (λ _. refl))

-- a list whose cohort is not refused has an unregistered home unit
some-unregistered : (reference : ℕ) (us : List Listed) → cohort_fault reference us ≡ None → 0 < length (unregistered us)
some-unregistered reference us h =
    elim (cases_Bool (eqb (length (unregistered us)) 0)) [
      | inl e ↦ let t = rw e at h in let z : ◌≡◌ {A = ℕ} 0 1 = cc in absurd (omega arith)
      | inr e ↦ omega (arith, eqb-false (length (unregistered us)) 0 e)
    ]

module _ (wbm reference : ℕ) (c : Course Listed) (w : Walked c) where
  pub built-refused : (f : CombinedFault) → Err f ≡ built_for wbm reference c → cond (eqb wbm 0) None (cohort_fault reference c.units) ≡ Some f.fault
  built-refused f h =
      elim (cases_Bool (eqb wbm 0)) [
        | inl e ↦ let t = rw e at h in let z : ◌≡◌ {A = ℕ} 0 1 = cc in absurd (omega arith)
        | inr e ↦ rw e (unless-err _ _ f (rw (e, built-is c w reference) at h))
      ]

  -- what a build margin that was answered is
  pub record Built (b : BuildMargin) : Type 0 where
    pub fault : cond (eqb wbm 0) None (cohort_fault reference c.units) ≡ None
    pub margin : b.margin ≡ cond (eqb wbm 0) 0 (build_figure reference c.units (cohort_of reference c.units))
    pub cohort : b.cohort ≡ cond (eqb wbm 0) no_cohort (cohort_of reference c.units)
    pub near : Within (ratio 2 2) b.margin (cond (eqb wbm 0) (ratio 0 1) (exact_build reference c.units (cohort_of reference c.units)))
    pub words : 0 < wbm → IsCohort reference c.units (sample_count c.units) b.cohort
    pub counted : 0 < wbm → b.cohort.counts.0 ≡ length (kept_units reference c.units)

  module _ (near : BuildNear) (words : ComputedIsCohort) (ranged : Ranged c.units) (falls : Falling c.units) where
    pub built-ok : (b : BuildMargin) → Ok b ≡ built_for wbm reference c → Built b
    built-ok b h =
        elim (cases_Bool (eqb wbm 0)) [
          | inl e ↦
              let is : b ≡ record { margin = 0; cohort = no_cohort } = let t = rw e at h in cc in
              let z = eqb-true wbm 0 e in
              rw is
              (record {
                fault = rw e refl;
                margin = rw e refl;
                cohort = rw e refl;
                near = rw e (record { real = omega arith; below = omega arith; above = omega arith });
                words = λ p. absurd (omega (arith, z, p));
                counted = λ p. absurd (omega (arith, z, p));
              })
          | inr e ↦
              let k = unless-ok _ _ b (rw (e, built-is c w reference) at h) in
              let some = some-unregistered reference c.units k.0 in
              rw k.1
              (record {
                fault = rw e k.0;
                margin = rw e refl;
                cohort = rw e refl;
                near = rw e (near reference c.units ranged falls (leb-true (length c.units) limit w.short) some);
                words = λ p. words reference c.units some;
                counted = λ p. first_count reference c.units;
              })
        ]
