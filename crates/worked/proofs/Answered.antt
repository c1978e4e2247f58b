-- From the promise of a question by the average method to its answer, once its parts are computed.
use Rattle.std.proofs.Common.{◌≡◌, ℕ, ◌+◌, ◌*◌, true, false, eqb, None, Ok, Err, Result, ap, ◌∙◌, arith}
use Rattle.model.specs.Cohort.{build_figure, cohort_of}
use Rattle.model.specs.Course.{Course}
use Rattle.model.specs.Fraction.{ratio}
use Rattle.model.specs.History.{Composition, listed}
use Rattle.model.specs.Methods.{average_answer, average_meaning}
use Rattle.model.specs.Promise.{Promise, refusal}
use Rattle.model.specs.Rounding.{rounded}
use Rattle.model.specs.Units.{Listed}
use Rattle.model.specs.declared.answers.Cohort.{Cohort}
use Rattle.model.specs.declared.answers.CombinedMargin.{CombinedMargin}
use Rattle.model.specs.declared.faults.CombinedFault.{CombinedFault}
use Rattle.model.specs.declared.units.PowerUnit.{PowerUnit}

-- what the numbers of a question come to over the list
pub record Comes (wom wbm reference : ℕ) (c : Course Listed) (m : CombinedMargin) : Type 0 where
  pub taken : refusal average_meaning (λ us a. a ≡ average_answer us) 2 true wom wbm reference c ≡ None
  pub weighs : eqb wbm 0 ≡ false
  pub operating : average_answer c.units ≡ m.operating
  pub build : build_figure reference c.units (cohort_of reference c.units) ≡ m.build
  pub cohort : cohort_of reference c.units ≡ m.cohort
  pub combined : rounded (ratio (wom * m.operating + wbm * m.build) 100) ≡ m.combined

margin-is : (a b c d e f : ℕ) (h k : Cohort) → a ≡ d → b ≡ e → c ≡ f → h ≡ k
    → ◌≡◌ {A = CombinedMargin} (record { combined = a; operating = b; build = c; cohort = h }) (record { combined = d; operating = e; build = f; cohort = k })
margin-is a b c d e f h k p q r s = cc

module _ {wom wbm reference : ℕ} {entry exit : Composition} {coming : Course PowerUnit} where
  comes-out : (r : Result CombinedMargin CombinedFault) (m : CombinedMargin)
      → Promise average_meaning (λ us a. a ≡ average_answer us) 2 true wom wbm reference entry exit coming r → Comes wom wbm reference (listed entry) m → r ≡ Ok m
  comes-out (Err f) m p c = let z : ◌≡◌ {A = ℕ} 0 1 = let e = p.refused ∙ c.taken in cc in absurd (omega arith)
  comes-out (Ok n) m p c =
      let o : n.operating ≡ m.operating = p.operating ∙ c.operating in
      let b : n.build ≡ m.build = (rw c.weighs at p.build) ∙ c.build in
      let k : n.cohort ≡ m.cohort = (rw c.weighs at p.cohort) ∙ c.cohort in
      let f : n.combined ≡ m.combined = p.figure ∙ (rw (o, b) c.combined) in
      ap Ok (margin-is _ _ _ _ _ _ _ _ f o b k)

  -- the register is known to be made of `start`
  pub answers : {start : Composition} {r : Result CombinedMargin CombinedFault} {m : CombinedMargin} → entry ≡ start
      → Promise average_meaning (λ us a. a ≡ average_answer us) 2 true wom wbm reference entry exit coming r → Comes wom wbm reference (listed start) m → r ≡ Ok m
  answers {start} {r} {m} e p c = comes-out r m p (rw e c)
