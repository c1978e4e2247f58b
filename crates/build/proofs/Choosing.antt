-- From the runs of a list to its cohort.
use Rattle.std.proofs.Common.{◌≡◌, ℕ, ◌+◌, ◌-◌, ◌*◌, ◌≤◌, true, false, not, ◌&&◌, eqb, leb, List, [], ◌∷◌, length, take, Ok, Err, filter, Result, sym, refl, ap, ◌∙◌, arith}
use Rattle.std.proofs.lemmas.List.Filters.{length-filter_both}
use Rattle.std.proofs.lemmas.List.{length-take-le, take_all}
use Rattle.std.proofs.lemmas.Bool.{cond-true, cond-false, eq-eqb, ne_eqb, le-leb, lt-leb}
use Rattle.std.proofs.lemmas.Bool.Decides.{nat_tests}
use Rattle.model.specs.Cohort.{cohort_of, is_old, is_unregistered, join_count, joining, kept_units, olds, reaches, registered, registered_count, sample_run, target, unregistered, with_registered}
use Rattle.model.specs.Course.{Course}
use Rattle.model.specs.Faults.{new_fault}
use Rattle.model.specs.Methods.{generation}
use Rattle.model.specs.Units.{Listed, told}
use Rattle.model.specs.declared.answers.Cohort.{Cohort}
use Rattle.model.specs.declared.answers.CohortSet.TheVariants.{Sample, WithRegistered, WithOld}
use Rattle.model.specs.declared.faults.BuildFault.{BuildFault}
use Rattle.model.specs.declared.faults.Layer.TheVariants.{Build}
use Rattle.model.specs.declared.faults.Rule.TheVariants.{NoBuildUnit}
use Rattle.model.proofs.Fronts.{kept-few, kept-twice}
use Rattle.model.proofs.Joining.{joining-alike, joining-within}
use Rattle.register.proofs.Walking.{Fits, fits-few, fits-is, ok-fits, ok-is}
use Rattle.build.specs.Cohorts.{cohort_or, walked_cohort}
use Rattle.build.specs.Kinds.{belongs}
use Rattle.build.specs.Runs.{met_by, run_of, walked_run}
use Rattle.build.specs.declared.kinds.Kind.{Kind}
use Rattle.build.specs.declared.kinds.Kind.TheVariants.{Unregistered, Registered, Old}
use Rattle.build.specs.declared.runs.Quota.{Quota}
use Rattle.build.specs.declared.runs.Run.{Run}

-- ---- how many join

abbrev pub quota : Kind → ℕ → ℕ → Quota
quota kind least missing = record { kind = kind; least = least; missing = missing }

-- a quota that the list cannot meet takes all
joining-all : (q : Quota) (n g : ℕ) (us : List Listed) → n + length us ≤ q.least → joining (met_by q) n g us ≡ length us
joining-all q n g [] h = refl
joining-all q n g (u ∷ us) h =
    let later = joining-all q (n + 1) (g + u.generation) us (omega arith) in
    let short : leb q.least n ≡ false = lt-leb q.least n (omega arith) in
    rw short (omega (arith, later))

-- a fifth is reached just when nothing is missing to it
module _ (t g : ℕ) where
  missing-reached : (n h : ℕ) → leb 0 n && leb (t - 5 * g) (5 * h) ≡ reaches t (g + h)
  missing-reached n h = grind (arith, nat_tests)

  joining-missing : (kind : Kind) (us : List Listed) → joining (met_by (quota kind 0 (t - 5 * g))) 0 0 us ≡ join_count t g us
  joining-missing kind us = joining-alike (met_by (quota kind 0 (t - 5 * g))) (λ n h. reaches t (g + h)) missing-reached 0 0 us

-- ---- the cohort from the runs that were walked

module _ (reference : ℕ) (c : Course Listed) where
  abbrev us : List Listed
  us = c.units

  abbrev Walked : Quota → Run → Type 0
  Walked q r = Ok r ≡ walked_run reference q c

  abbrev Answer : Result Cohort BuildFault → Type 0
  Answer r = r ≡ walked_cohort reference c

  -- the run that was walked for a quota k
  run_is : (k q : Quota) → q ≡ k → (r : Run) → Walked q r → r ≡ run_of reference k us
  run_is k q e r h = ok-is Build (λ f. record { fault = f }) c r (run_of reference q us) h ∙ ap (λ x. run_of reference x us) e

  -- so many of the units as join a generation that leaves m missing
  join_is : (kind : Kind) (g m : ℕ) (q : Quota) → q ≡ quota kind 0 m → (r : Run) (pool : List Listed)
      → Walked q r → m ≡ target us - 5 * g → filter (λ u. belongs kind reference (told u)) us ≡ pool
      → (r.all.units ≡ join_count (target us) g pool) × (r.all.generation ≡ generation (take (join_count (target us) g pool) pool))
  join_is kind g m q e r pool h short same =
      let is = run_is (quota kind 0 m) q e r h in
      let count : joining (met_by (quota kind 0 m)) 0 0 pool ≡ join_count (target us) g pool = rw short (joining-missing (target us) g kind pool) in
      let front : take (joining (met_by (quota kind 0 m)) 0 0 (filter (λ u. belongs kind reference (told u)) us)) (filter (λ u. belongs kind reference (told u)) us) ≡ take (join_count (target us) g pool) pool = rw (same, count) in (
        ap (λ (x : Run). x.all.units) is ∙ ap length front ∙ length-take-le _ pool (joining-within (λ n h. reaches (target us) (g + h)) 0 0 pool),
        ap (λ (x : Run). x.all.generation) is ∙ ap generation front,
      )

  module _ (q : Quota) (of-all : q ≡ quota Unregistered 4001 0) (all : Run) (p : Walked q all) where
    fits : Fits c
    fits = ok-fits Build (λ f. record { fault = f }) c all (run_of reference q us) p

    all_are : (all.all.units ≡ length (unregistered us)) × (all.all.generation ≡ target us)
    all_are =
        let is = run_is (quota Unregistered 4001 0) q of-all all p in
        let count = joining-all (quota Unregistered 4001 0) 0 0 (unregistered us) (omega (arith, fits-few c fits, kept-few is_unregistered us)) in
        let whole : take (joining (met_by (quota Unregistered 4001 0)) 0 0 (unregistered us)) (unregistered us) ≡ unregistered us = rw count (take_all _ (unregistered us) (omega arith)) in
        (ap (λ (x : Run). x.all.units) is ∙ ap length whole, ap (λ (x : Run). x.all.generation) is ∙ ap generation whole)

    pub cohort-none : (f : BuildFault) → f ≡ record { fault = new_fault NoBuildUnit Build 0 } → all.all.units ≡ 0 → Answer (Err f)
    cohort-none f is none = ap Err is ∙ sym (cond-true _ _ _ (eq-eqb _ _ (sym all_are.0 ∙ none))) ∙ sym (fits-is c fits Build (cohort_or reference us) _)

    module _ (some : all.all.units ≡ 0 → ⊥) (k : Quota) (of-sample : k ≡ quota Unregistered 5 all.all.generation) (sample : Run) (w : Walked k sample) where
      chosen : (x : Cohort) → x ≡ cohort_of reference us → Answer (Ok x)
      chosen x is = ap Ok is ∙ sym (cond-false _ _ _ (ne_eqb _ _ (λ e. some (all_are.0 ∙ e)))) ∙ sym (fits-is c fits Build (cohort_or reference us) _)

      sample-is : sample ≡ run_of reference (quota Unregistered 5 (target us)) us
      sample-is = run_is (quota Unregistered 5 (target us)) k (of-sample ∙ ap (quota Unregistered 5) all_are.1) sample w

      halves : length (olds reference (sample_run reference us)) + sample.young.units ≡ sample.all.units
      halves = rw sample-is (length-filter_both (is_old reference) (λ u. not (is_old reference u)) (λ _. refl) (sample_run reference us))

      kept-number : sample.young.units ≡ length (kept_units reference us)
      kept-number = ap (λ (x : Run). x.young.units) sample-is

      kept-amount : sample.young.generation ≡ generation (kept_units reference us)
      kept-amount = ap (λ (x : Run). x.young.generation) sample-is

      pub cohort-first : sample.young.units ≡ sample.all.units → Answer (Ok (record { set = Sample; counts = (sample.young.units, 0, 0) }))
      cohort-first same =
          let none : length (olds reference (sample_run reference us)) ≡ 0 = omega (arith, halves) in
          chosen _ (rw (kept-number, eq-eqb _ _ none))

      module _ (other : sample.young.units ≡ sample.all.units → ⊥) (m : ℕ) (short : m ≡ all.all.generation - 5 * sample.young.generation)
          (i : Quota) (of-registered : i ≡ quota Registered 0 m) (more : Run) (r : Walked i more) where
        has-old : eqb (length (olds reference (sample_run reference us))) 0 ≡ false
        has-old = ne_eqb _ _ (λ e. other (omega (arith, halves)))

        registered-are : (more.all.units ≡ registered_count reference us) × (more.all.generation ≡ generation (take (registered_count reference us) (registered us)))
        registered-are =
            join_is Registered (generation (kept_units reference us)) m i of-registered more (registered us) r (omega (arith, short, all_are.1, kept-amount)) refl

        module _ (n : ℕ) (still-short : n ≡ m - 5 * more.all.generation) where
          missing : n ≡ target us - 5 * with_registered reference us
          missing = omega (arith, short, all_are.1, kept-amount, registered-are.1)

          pub cohort-second : n ≡ 0 → Answer (Ok (record { set = WithRegistered; counts = (sample.young.units, more.all.units, 0) }))
          cohort-second none =
              let enough : reaches (target us) (with_registered reference us) ≡ true = le-leb _ _ (omega (arith, missing)) in
              chosen _ (rw (kept-number, registered-are.0, has-old, enough))

          pub cohort-third : (n ≡ 0 → ⊥) → (j : Quota) → j ≡ quota Old 0 n → (old : Run) → Walked j old
              → Answer (Ok (record { set = WithOld; counts = (sample.young.units, more.all.units, old.all.units) }))
          cohort-third below j of-old old b =
              let less : reaches (target us) (with_registered reference us) ≡ false = lt-leb _ _ (omega (arith, missing, below)) in
              let olds-are = join_is Old (with_registered reference us) n j of-old old (olds reference (unregistered us)) b missing (sym (kept-twice (is_old reference) is_unregistered us)) in
              chosen _ (rw (kept-number, registered-are.0, olds-are.0, has-old, less))
