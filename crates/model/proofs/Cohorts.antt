-- What is computed is the cohort in words, and there is no other.
use Rattle.std.proofs.Common.{◌≡◌, ℕ, ◌<◌, true, false, eqb, List, length, refl, ◌∙◌, subst, arith}
use Rattle.std.proofs.lemmas.Bool.{cond_both, eq-eqb, eqb-false, eqb-true, le-leb, leb-false, leb-true, lt-leb, ne_eqb}
use Rattle.model.specs.Cohort.{ComputedIsCohort, InSet, IsCohort, Joined, OneCohort, back_count, cohort_of, kept_units, olds, reaches, registered, registered_count, sample_count, sample_run, target, with_registered}
use Rattle.model.specs.Methods.{generation}
use Rattle.model.specs.Units.{Listed}
use Rattle.model.specs.declared.answers.Cohort.{Cohort}
use Rattle.model.specs.declared.answers.CohortSet.{CohortSet}
use Rattle.model.specs.declared.answers.CohortSet.TheVariants.{Absent, Sample, WithRegistered, WithOld}
use Rattle.model.proofs.Joining.{join-count, join-once, sample-count, sample-once}

module _ (reference : ℕ) (us : List Listed) where
  abbrev old : ℕ
  old = length (olds reference (sample_run reference us))

  registered-join : Joined (target us) (generation (kept_units reference us)) (registered us) (registered_count reference us)
  registered-join = join-count (target us) (generation (kept_units reference us)) (registered us)

  abbrev In : Cohort → Type 0
  In c = InSet reference us (sample_count us) c.set c

  in-set : In (cohort_of reference us)
  in-set =
      cond_both (eqb old 0) _ _ In
      (λ none. record { none = eqb-true old 0 none; is = refl })
      (λ some.
      let more : 0 < old = let no_zero = eqb-false old 0 some in omega arith in
      cond_both (reaches (target us) (with_registered reference us)) _ _ In
      (λ enough. record { some = more; joined = registered-join; reached = leb-true _ _ enough; is = refl })
      (λ short. record { some = more; joined = registered-join; below = leb-false _ _ short; back = join-count (target us) (with_registered reference us) _; is = refl }))

  pub cohort-is : IsCohort reference us (sample_count us) (cohort_of reference us)
  cohort-is = record { sample = sample-count us; set = in-set }

  some-old : 0 < old → eqb old 0 ≡ false
  some-old h = ne_eqb old 0 (λ e. omega arith)

  -- a cohort with this sample run is the one computed
  only : (d : Cohort) (s : CohortSet) → InSet reference us (sample_count us) s d → d ≡ cohort_of reference us
  only d Absent p = absurd p
  only d Sample p = p.is ∙ rw (eq-eqb old 0 p.none)
  only d WithRegistered p =
      let e = join-once _ _ _ d.counts.1 (registered_count reference us) p.joined registered-join in
      let enough : reaches (target us) (with_registered reference us) ≡ true = le-leb _ _ (rw e at p.reached) in
      p.is ∙ rw (e, some-old p.some, enough)
  only d WithOld p =
      let e = join-once _ _ _ d.counts.1 (registered_count reference us) p.joined registered-join in
      let short : reaches (target us) (with_registered reference us) ≡ false = lt-leb _ _ (rw e at p.below) in
      let f = join-once _ _ _ d.counts.2 (back_count reference us) (rw e at p.back) (join-count (target us) (with_registered reference us) _) in
      p.is ∙ rw (e, f, some-old p.some, short)

  pub cohort-once : (j : ℕ) (d : Cohort) → IsCohort reference us j d → (j ≡ sample_count us) × (d ≡ cohort_of reference us)
  cohort-once j d p =
      let e = sample-once us (sample_count us) j (sample-count us) p.sample in
      let P : ℕ → Type 0 = λ k. InSet reference us k d.set d in
      (e, only d d.set (subst P e p.set))

pub computed-is-cohort : ComputedIsCohort
computed-is-cohort reference us some = cohort-is reference us

pub one-cohort : OneCohort
one-cohort reference us some = (sample_count us, cohort_of reference us, cohort-is reference us, cohort-once reference us)
