-- The whole promise, from what each part answered.
use Rattle.std.proofs.Common.{◌≡◌, ℕ, ◌+◌, ◌*◌, ◌≤◌, Bool, cond, eqb, List, length, Some, None, Ok, Err, Option, Result, sym, ap, ◌∙◌}
use Rattle.std.proofs.lemmas.Bool.{leb-true}
use Rattle.model.specs.Cohort.{cohort_fault}
use Rattle.model.specs.Course.{Course, limit, told_course}
use Rattle.model.specs.Fraction.{Frac, Within, ratio}
use Rattle.model.specs.History.{Alive, Composition, listed}
use Rattle.model.specs.Promise.{Promise, asked, or_else, refusal, shares_of, verdict_fault}
use Rattle.model.specs.Rounding.{rounded}
use Rattle.model.specs.Shares.{Meets, Verdict, exact, judged, shares}
use Rattle.model.specs.Units.{Falling, Listed, Ranged}
use Rattle.model.specs.declared.answers.BuildMargin.{BuildMargin}
use Rattle.model.specs.declared.answers.CombinedMargin.{CombinedMargin}
use Rattle.model.specs.declared.faults.CombinedFault.{CombinedFault}
use Rattle.model.specs.declared.faults.Fault.{Fault}
use Rattle.model.specs.declared.faults.MethodFault.{MethodFault}
use Rattle.model.specs.declared.faults.RegisterFault.{RegisterFault}
use Rattle.model.specs.declared.units.PowerUnit.{PowerUnit}
use Rattle.model.proofs.Histories.{carried, some-history}
use Rattle.combined.specs.Builds.{built_for}
use Rattle.combined.proofs.Mixing.{mixed-near}
use Rattle.combined.proofs.Parts.{Built, Walked, built-refused, judged-is, meets-err, meets-ok, no-walk-fault, walk_refused, walk_answer}

module _ (meaning : List Listed → Verdict) (may : List Listed → ℕ → Type 0) (distance : ℕ) (alone : Bool) (wom wbm reference : ℕ)
    (entry exit : Composition) (coming : Course PowerUnit) (alive : Alive entry) (kept : exit ≡ entry) (restarted : coming ≡ told_course (listed entry)) where
  abbrev Kept : Result CombinedMargin CombinedFault → Type 0
  Kept r = Promise meaning may distance alone wom wbm reference entry exit coming r

  abbrev c : Course Listed
  c = listed entry

  refuses : (f : CombinedFault) → Some f.fault ≡ refusal meaning may distance alone wom wbm reference c → Kept (Err f)
  refuses f e =
      record {
        some = some-history entry alive;
        list = λ h l. carried h entry l;
        refused = e;
        operating = tt;
        build = tt;
        figure = tt;
        near = tt;
        cohort = tt;
        words = tt;
        counted = tt;
        kept = kept;
        restarted = restarted;
      }

  pub by-question : (f : CombinedFault) → ((later : Option Fault) → asked alone wom wbm reference later ≡ Some f.fault) → Kept (Err f)
  by-question f h = refuses f (sym (h _))

  module _ (passed : (later : Option Fault) → asked alone wom wbm reference later ≡ later) where
    abbrev later : Option Fault
    later = cond (eqb wbm 0) None (cohort_fault reference c.units)

    pub by-walk : (x : RegisterFault) (f : CombinedFault) → f.fault ≡ x.fault → Err x ≡ walk_answer c → Kept (Err f)
    by-walk x f same h =
        refuses f
        (ap Some same ∙ sym (passed _ ∙ ap (λ o. or_else o (or_else (verdict_fault (meaning c.units)) later)) (walk_refused c x h)))

    module _ (w : Walked c) where
      -- with no fault of the walk, the method's counts
      after-walk : refusal meaning may distance alone wom wbm reference c ≡ or_else (verdict_fault (meaning c.units)) later
      after-walk = passed _ ∙ ap (λ o. or_else o (or_else (verdict_fault (meaning c.units)) later)) (no-walk-fault c w)

      pub by-method : (x : MethodFault) (f : CombinedFault) → f.fault ≡ x.fault → Meets (judged meaning c) (may c.units) (Err x) → Kept (Err f)
      by-method x f same m =
          let e = meets-err (meaning c.units) (may c.units) x (rw (judged-is c w meaning) at m) in
          refuses f (ap Some same ∙ sym (after-walk ∙ ap (λ o. or_else o later) e))

      module _ (a : ℕ) (m : Meets (judged meaning c) (may c.units) (Ok a)) where
        answered-method : (meaning c.units ≡ shares (shares_of (meaning c.units))) × may c.units a
        answered-method = meets-ok (meaning c.units) (may c.units) a (rw (judged-is c w meaning) at m)

        after-method : refusal meaning may distance alone wom wbm reference c ≡ later
        after-method = after-walk ∙ ap (λ v. or_else (verdict_fault v) later) answered-method.0

        pub by-build : (f : CombinedFault) → Err f ≡ built_for wbm reference c → Kept (Err f)
        by-build f h = refuses f (sym (after-method ∙ built-refused wbm reference c w f h))

        pub answered-whole : (b : BuildMargin) (figure : ℕ) → Built wbm reference c w b → figure ≡ rounded (ratio (wom * a + wbm * b.margin) 100)
            → ((us : List Listed) (ss : List Frac) (n : ℕ) → Ranged us → Falling us → length us ≤ limit → meaning us ≡ shares ss → may us n → Within (ratio distance 2) n (exact ss us))
            → Ranged c.units → Falling c.units
            → Kept (Ok (record { combined = figure; operating = a; build = b.margin; cohort = b.cohort }))
        answered-whole b figure built is near ranged falls =
            let short = leb-true (length c.units) limit w.short in
            let om = near c.units (shares_of (meaning c.units)) a ranged falls short answered-method.0 answered-method.1 in
            record {
              some = some-history entry alive;
              list = λ h l. carried h entry l;
              refused = sym (after-method ∙ built.fault);
              operating = answered-method.1;
              build = built.margin;
              figure = is;
              near = rw is (mixed-near wom wbm distance a b.margin _ _ om built.near);
              cohort = built.cohort;
              words = built.words;
              counted = built.counted;
              kept = kept;
              restarted = restarted;
            }

-- from the register as a part found it, with contents p, to the register as the call did, with contents q
module _ {p q : Composition} (same : p ≡ q) where
  pub walk-moved : {r : Result ℕ RegisterFault} → r ≡ walk_answer (listed p) → r ≡ walk_answer (listed q)
  walk-moved e = rw (← same) e

  pub meets-moved : (meaning : List Listed → Verdict) (may : List Listed → ℕ → Type 0) (r : Result ℕ MethodFault) → Meets (judged meaning (listed p)) (may (listed p).units) r → Meets (judged meaning (listed q)) (may (listed q).units) r
  meets-moved meaning may r e = rw (← same) e

  pub built-moved : (wbm : ℕ) {n m : ℕ} {r : Result BuildMargin CombinedFault} → n ≡ m → r ≡ built_for wbm n (listed p) → r ≡ built_for wbm m (listed q)
  built-moved wbm day e = rw (← same, ← day) e
