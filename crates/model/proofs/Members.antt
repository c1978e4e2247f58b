-- The members of the cohort: which units they are, and that they generate.
use Rattle.std.proofs.Common.{◌≡◌, ℕ, ◌+◌, ◌<◌, ◌≤◌, Bool, true, false, cond, not, ◌&&◌, List, [], ◌∷◌, ◌++◌, length, take, filter, sym, refl, ap, ◌∙◌, inl, inr, arith}
use lib.Seq.{take-nil}
use Rattle.std.proofs.ByRecursion.{All-append, all_kept_by, All-take, all_shuffled}
use Rattle.std.proofs.lemmas.List.Filters.{length-filter_both}
use Rattle.std.proofs.lemmas.List.{append_assoc, length-take, length-take-le}
use Rattle.std.proofs.lemmas.List.Sorted.{IsPermutation-cons, IsPermutation-refl, IsPermutation-trans, sum_by-IsPermutation}
use Rattle.std.proofs.lemmas.List.Sums.{sum_by-append}
use Rattle.std.proofs.lemmas.Bool.{cases_lt, le-ltb, lt-ltb}
use Rattle.std.specs.List.Sorted.{IsPermutation}
use Rattle.model.specs.Classes.{is_home, is_registered}
use Rattle.model.specs.Cohort.{InSet, Kind, MembersAre, back, cohort_of, is_old, is_unregistered, joins, kept_units, kind_of, less, members, members_of, more, olds, outside, registered, sample_count, sample_run, target, unregistered, young, youngs}
use Rattle.model.specs.Methods.{generation}
use Rattle.model.specs.Units.{InRange, Listed, Ranged}
use Rattle.model.specs.declared.answers.Cohort.{Cohort}
use Rattle.model.specs.declared.answers.CohortSet.{CohortSet}
use Rattle.model.specs.declared.answers.CohortSet.TheVariants.{Absent, Sample, WithRegistered, WithOld}
use Rattle.model.specs.declared.classes.Class.{Class}
use Rattle.model.specs.declared.classes.Class.TheVariants.{Ordinary, LowCost, Registered, RegisteredLowCost, Import}
use Rattle.model.proofs.Cohorts.{cohort-is}
use Rattle.model.proofs.Fronts.{front_kept, kept-alike, kept-twice, shuffled-middle, take_none, take-some}
use Rattle.model.proofs.Joining.{generates-more}

-- ---- the first units of each kind, rearranged

abbrev is_young : Kind → Bool
is_young young = true
is_young joins = false
is_young back = false
is_young outside = false

abbrev is_joins : Kind → Bool
is_joins young = false
is_joins joins = true
is_joins back = false
is_joins outside = false

abbrev is_back : Kind → Bool
is_back young = false
is_back joins = false
is_back back = true
is_back outside = false

-- the first units of three lists
abbrev firsts : ℕ × ℕ × ℕ → List Listed → List Listed → List Listed → List Listed
firsts n xs ys zs = take n.0 xs ++ (take n.1 ys ++ take n.2 zs)

module _ (u : Listed) (xs ys zs : List Listed) (ms : ℕ × ℕ × ℕ → List Listed) (later : (n : ℕ × ℕ × ℕ) → IsPermutation (firsts n xs ys zs) (ms n)) where
  one_more : (k : Kind) (n : ℕ × ℕ × ℕ)
      → IsPermutation (firsts n (cond (is_young k) (u ∷ xs) xs) (cond (is_joins k) (u ∷ ys) ys) (cond (is_back k) (u ∷ zs) zs)) (cond (more k n) (u ∷ ms (less k n)) (ms n))
  one_more young n =
      elim (cases_lt 0 n.0) [
        | inl some ↦ rw (lt-ltb 0 n.0 some, take-some n.0 u xs some) (IsPermutation-cons u _ _ (later (less young n)))
        | inr none ↦ rw (le-ltb 0 n.0 none, take_none n.0 u xs none) (later n)
      ]
  one_more joins n =
      elim (cases_lt 0 n.1) [
        | inl some ↦
            rw (lt-ltb 0 n.1 some, take-some n.1 u ys some)
            (IsPermutation-trans _ _ _ (shuffled-middle (take n.0 xs) _ u) (IsPermutation-cons u _ _ (later (less joins n))))
        | inr none ↦ rw (le-ltb 0 n.1 none, take_none n.1 u ys none) (later n)
      ]
  one_more back n =
      elim (cases_lt 0 n.2) [
        | inl some ↦
            let rest : IsPermutation (firsts (less back n) xs ys zs) (ms (less back n)) = later (less back n) in
            rw (lt-ltb 0 n.2 some, take-some n.2 u zs some, ← append_assoc (take n.0 xs) (take n.1 ys))
            (IsPermutation-trans _ _ _ (shuffled-middle (take n.0 xs ++ take n.1 ys) _ u) (IsPermutation-cons u _ _ (rw append_assoc rest)))
        | inr none ↦ rw (le-ltb 0 n.2 none, take_none n.2 u zs none) (later n)
      ]
  one_more outside n = later n

module _ (reference : ℕ) where
  abbrev of_kind : (Kind → Bool) → List Listed → List Listed
  of_kind k us = filter (λ u. k (kind_of reference u)) us

  firsts-nil : (n : ℕ × ℕ × ℕ) → firsts n [] [] [] ≡ []
  firsts-nil n = rw (take-nil n.0, take-nil n.1, take-nil n.2)

  members-of-kinds : (us : List Listed) (n : ℕ × ℕ × ℕ) → IsPermutation (firsts n (of_kind is_young us) (of_kind is_joins us) (of_kind is_back us)) (members reference n us)
  members-of-kinds [] n = rw (firsts-nil n) (IsPermutation-refl [])
  members-of-kinds (u ∷ us) n =
      one_more u (of_kind is_young us) (of_kind is_joins us) (of_kind is_back us) (λ k. members reference k us) (members-of-kinds us) (kind_of reference u) n

  -- ---- the kinds in words

  abbrev classed : Class → Bool → Kind
  classed c o = cond (is_registered c) joins (cond (is_home c && not (is_registered c)) (cond o back young) outside)

  young-is : (c : Class) (o : Bool) → is_young (classed c o) ≡ (is_home c && not (is_registered c)) && not o
  young-is Ordinary true = refl
  young-is Ordinary false = refl
  young-is LowCost true = refl
  young-is LowCost false = refl
  young-is Registered o = refl
  young-is RegisteredLowCost o = refl
  young-is Import o = refl

  joins-is : (c : Class) (o : Bool) → is_joins (classed c o) ≡ is_registered c
  joins-is Ordinary true = refl
  joins-is Ordinary false = refl
  joins-is LowCost true = refl
  joins-is LowCost false = refl
  joins-is Registered o = refl
  joins-is RegisteredLowCost o = refl
  joins-is Import o = refl

  back_is : (c : Class) (o : Bool) → is_back (classed c o) ≡ (is_home c && not (is_registered c)) && o
  back_is Ordinary true = refl
  back_is Ordinary false = refl
  back_is LowCost true = refl
  back_is LowCost false = refl
  back_is Registered o = refl
  back_is RegisteredLowCost o = refl
  back_is Import o = refl

  module _ (us : List Listed) where
    young-units : of_kind is_young us ≡ youngs reference (unregistered us)
    young-units =
        kept-alike _ _ (λ u. young-is u.class (is_old reference u)) us ∙ sym (kept-twice (λ u. not (is_old reference u)) is_unregistered us)

    joining-units : of_kind is_joins us ≡ registered us
    joining-units = kept-alike _ _ (λ u. joins-is u.class (is_old reference u)) us

    back-units : of_kind is_back us ≡ olds reference (unregistered us)
    back-units = kept-alike _ _ (λ u. back_is u.class (is_old reference u)) us ∙ sym (kept-twice (is_old reference) is_unregistered us)

    -- the units kept are the first that are not old
    kept-first : take (length (kept_units reference us)) (youngs reference (unregistered us)) ≡ kept_units reference us
    kept-first = sym (front_kept (λ u. not (is_old reference u)) (unregistered us) (sample_count us))

    kept_in : (c : Cohort) (s : CohortSet) → InSet reference us (sample_count us) s c → c.counts.0 ≡ length (kept_units reference us)
    kept_in c Absent p = absurd p
    kept_in c Sample p = ap (λ (x : Cohort). x.counts.0) p.is
    kept_in c WithRegistered p = ap (λ (x : Cohort). x.counts.0) p.is
    kept_in c WithOld p = ap (λ (x : Cohort). x.counts.0) p.is

    kept-counted : (cohort_of reference us).counts.0 ≡ length (kept_units reference us)
    kept-counted = kept_in (cohort_of reference us) (cohort_of reference us).set (cohort-is reference us).set

    abbrev chosen : List Listed
    chosen = members_of reference us (cohort_of reference us)

    abbrev registered-part : List Listed
    registered-part = take (cohort_of reference us).counts.1 (registered us)

    abbrev back-part : List Listed
    back-part = take (cohort_of reference us).counts.2 (olds reference (unregistered us))

    pub chosen-are : IsPermutation (kept_units reference us ++ (registered-part ++ back-part)) chosen
    chosen-are =
        let front : take (cohort_of reference us).counts.0 (of_kind is_young us) ≡ kept_units reference us = rw (young-units, kept-counted) kept-first in
        let all : firsts (cohort_of reference us).counts (of_kind is_young us) (of_kind is_joins us) (of_kind is_back us) ≡ kept_units reference us ++ (registered-part ++ back-part) =
        rw (front, joining-units, back-units) in
        rw (← all) (members-of-kinds us (cohort_of reference us).counts)

    parts : generation chosen ≡ generation (kept_units reference us) + (generation registered-part + generation back-part)
    parts =
        let f : Listed → ℕ = λ u. u.generation in
        let m = sum_by-append f registered-part back-part in
        let n = sum_by-append f (kept_units reference us) (registered-part ++ back-part) in
        sum_by-IsPermutation f _ _ chosen-are ∙ n ∙ ap (λ k. generation (kept_units reference us) + k) m

pub members-are : MembersAre
members-are reference us falling some = chosen-are reference us

-- ---- they generate

pub length-generation : (us : List Listed) → Ranged us → length us ≤ generation us
length-generation [] h = omega arith
length-generation (u ∷ us) h = let e = length-generation us h.1 in omega (arith, h.0.some, generates-more u us)

module _ (reference : ℕ) (us : List Listed) (h : Ranged us) (some : 0 < length (unregistered us)) where
  abbrev sample : List Listed
  sample = sample_run reference us

  abbrev olders : List Listed
  olders = olds reference (unregistered us)

  ranged-unregistered : Ranged (unregistered us)
  ranged-unregistered = all_kept_by is_unregistered InRange us h

  target-some : 0 < target us
  target-some = omega (arith, length-generation (unregistered us) ranged-unregistered)

  halves : length (olds reference sample) + length (kept_units reference us) ≡ sample_count us
  halves =
      length-filter_both (is_old reference) (λ u. not (is_old reference u)) (λ _. refl) sample
      ∙ length-take-le (sample_count us) (unregistered us) (cohort-is reference us).sample.enough.within

  -- the sample run's old units are among all of them
  fewer-old : length (olds reference sample) ≤ length olders
  fewer-old =
      let e = ap length (front_kept (is_old reference) (unregistered us) (sample_count us)) in
      omega (arith, length-take (length (olds reference sample)) olders)

  module _ (c : Cohort) where
    generates-in : (s : CohortSet) → InSet reference us (sample_count us) s c
        → 0 < generation (kept_units reference us) + (generation (take c.counts.1 (registered us)) + generation (take c.counts.2 olders))
    generates-in Absent p = absurd p
    generates-in Sample p =
        let five = (cohort-is reference us).sample.enough.five in
        let kept = length-generation (kept_units reference us) (all_kept_by (λ u. not (is_old reference u)) InRange sample (All-take InRange (sample_count us) (unregistered us) ranged-unregistered)) in
        omega (arith, halves, p.none)
    generates-in WithRegistered p = omega (arith, p.reached, target-some)
    generates-in WithOld p =
        let olders-back = length-generation (take c.counts.2 olders) (All-take InRange c.counts.2 olders (all_kept_by (is_old reference) InRange (unregistered us) ranged-unregistered)) in
        elim (cases_lt c.counts.2 (length olders)) [
          | inl less ↦ omega (arith, p.back.stopped less, target-some)
          | inr all ↦ omega (arith, length-take-le c.counts.2 olders p.back.within, fewer-old, p.some)
        ]

  pub members-generate : 0 < generation (members_of reference us (cohort_of reference us))
  members-generate =
      omega (arith, parts reference us, generates-in (cohort_of reference us) (cohort_of reference us).set (cohort-is reference us).set)

  pub members-ranged : Ranged (members_of reference us (cohort_of reference us))
  members-ranged =
      all_shuffled InRange _ _ (chosen-are reference us)
      (All-append InRange (kept_units reference us) _ (all_kept_by (λ u. not (is_old reference u)) InRange sample (All-take InRange (sample_count us) (unregistered us) ranged-unregistered))
      (All-append InRange (take (cohort_of reference us).counts.1 (registered us)) _ (All-take InRange _ (registered us) (all_kept_by (λ u. is_registered u.class) InRange us h))
      (All-take InRange _ olders (all_kept_by (is_old reference) InRange (unregistered us) ranged-unregistered))))
