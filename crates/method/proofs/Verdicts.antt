-- From what a walk found to what a method has to answer.
use Rattle.std.proofs.Common.{◌≡◌, ℕ, leb, List, length, Ok, Err, Result, refl, ap, ◌∙◌}
use Rattle.model.specs.Course.{Course, limit, if_walked}
use Rattle.model.specs.Shares.{Meets, Verdict, judged, refused}
use Rattle.model.specs.Units.{Listed}
use Rattle.model.specs.declared.faults.Layer.TheVariants.{Method}
use Rattle.model.specs.declared.faults.MethodFault.{MethodFault}
use Rattle.model.specs.declared.faults.RegisterFault.{RegisterFault}
use Rattle.model.proofs.Courses.{fit-err, fit-ok}

module _ {A : Type 0} (meaning : List Listed → Verdict) (c : Course Listed) (value : A) where
  -- a walk that was refused refuses the method
  pub judged-refused : (P : ℕ → Type 0) (x : RegisterFault) (y : MethodFault) → y.fault ≡ x.fault
      → Err x ≡ if_walked {B = Result A RegisterFault} Method c (Ok value) (λ f. Err (record { fault = f })) → Meets (judged meaning c) P (Err y)
  judged-refused P x y same h =
      let k = fit-err (λ f. record { fault = f }) Method c.ending (leb (length c.units) limit) value x (meaning c.units) refused h in
      let e : y.fault ≡ k.0 = same ∙ ap (λ (z : RegisterFault). z.fault) k.1 in
      rw k.2 (ap (λ f. Err (record { fault = f })) e)

  -- one that came to its end leaves the method's own meaning, and tells its value
  pub judged-walked : (v : A) → Ok v ≡ if_walked {B = Result A RegisterFault} Method c (Ok value) (λ f. Err (record { fault = f }))
      → (judged meaning c ≡ meaning c.units) × (v ≡ value)
  judged-walked v h =
      let k = fit-ok (λ f. record { fault = f }) Method c.ending (leb (length c.units) limit) v value h in
      (rw (k.0, k.1) refl, k.2)
