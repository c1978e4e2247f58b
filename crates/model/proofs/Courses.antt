-- What an answer of `next` tells of the course that was to come.
use Rattle.std.proofs.Common.{◌≡◌, ℕ, Bool, true, false, List, [], ◌∷◌, Some, None, Ok, Err, Result, refl, arith}
use Rattle.model.specs.declared.faults.Fault.{Fault}
use Rattle.model.specs.declared.faults.Layer.{Layer}
use Rattle.model.specs.declared.faults.RegisterFault.{RegisterFault}
use Rattle.model.specs.declared.units.PowerUnit.{PowerUnit}
use Rattle.model.specs.declared.faults.Rule.TheVariants.{TooManyUnits}
use Rattle.model.specs.Faults.{new_fault}
use Rattle.model.specs.Course.{Ending, proper, faulty, answered, end_answer, if_fit, tail}

end_none : (e : Ending) → Ok None ≡ end_answer e → e ≡ proper
end_none proper p = refl
end_none (faulty f) p = cc

end-some : (u : PowerUnit) (e : Ending) → Ok (Some u) ≡ end_answer e → ⊥
end-some u proper p = let z : ◌≡◌ {A = ℕ} 0 1 = cc in omega arith
end-some u (faulty f) p = let z : ◌≡◌ {A = ℕ} 0 1 = cc in omega arith

end-err : (f : RegisterFault) (e : Ending) → Err f ≡ end_answer e → e ≡ faulty f.fault
end-err f proper p = cc
end-err f (faulty g) p = cc

pub answered-none : (us : List PowerUnit) (e : Ending) → Ok None ≡ answered us e → (us ≡ []) × (e ≡ proper)
answered-none [] e p = (refl, end_none e p)
answered-none (u ∷ us) e p = (cc, cc)

pub answered-some : (u : PowerUnit) (us : List PowerUnit) (e : Ending) → Ok (Some u) ≡ answered us e → us ≡ u ∷ tail us
answered-some u [] e p = absurd (end-some u e p)
answered-some u (x ∷ us) e p = cc

pub answered-err : (f : RegisterFault) (us : List PowerUnit) (e : Ending) → Err f ≡ answered us e → (us ≡ []) × (e ≡ faulty f.fault)
answered-err f [] e p = (refl, end-err f e p)
answered-err f (u ∷ us) e p = (cc, cc)

-- a walk that came to its end
pub fit-ok : {A E : Type 0} (wrap : Fault → E) (layer : Layer) (e : Ending) (few : Bool) (n m : A)
    → Ok n ≡ if_fit {B = Result A E} layer e few (Ok m) (λ f. Err (wrap f)) → (e ≡ proper) × (few ≡ true) × (n ≡ m)
fit-ok wrap layer proper true n m h = (refl, refl, cc)
fit-ok wrap layer proper false n m h = (refl, cc, cc)
fit-ok wrap layer (faulty f) few n m h = (cc, cc, cc)

-- one that did not: every answer that goes by the walk is that fault
pub fit-err : {A B E : Type 0} (wrap : Fault → E) (layer : Layer) (e : Ending) (few : Bool) (m : A) (x : E) (v : B) (refuses : Fault → B)
    → Err x ≡ if_fit {B = Result A E} layer e few (Ok m) (λ f. Err (wrap f))
    → (f : Fault) × (x ≡ wrap f) × (if_fit layer e few v refuses ≡ refuses f)
fit-err wrap layer proper true m x v refuses h = let z : ◌≡◌ {A = ℕ} 0 1 = cc in absurd (omega arith)
fit-err wrap layer proper false m x v refuses h = (new_fault TooManyUnits layer 0, cc, refl)
fit-err wrap layer (faulty f) few m x v refuses h = (f, cc, refl)
