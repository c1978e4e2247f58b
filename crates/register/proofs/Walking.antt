-- What the answer of a walk tells: the course ends properly and is not too long, and the fold has taken all of it.
use Rattle.std.proofs.Common.{◌≡◌, ℕ, ◌≤◌, true, leb, map, length, take, Ok, Err, fold, Result, sym, ap, ◌∙◌, arith}
use lib.ListN.{length-map}
use Rattle.std.proofs.lemmas.List.{take_all}
use Rattle.std.proofs.lemmas.Bool.{leb-true}
use Rattle.model.specs.Course.{Course, limit, if_walked, proper}
use Rattle.model.specs.Units.{Listed, told}
use Rattle.model.specs.declared.faults.Fault.{Fault}
use Rattle.model.specs.declared.faults.Layer.{Layer}
use Rattle.model.specs.declared.units.PowerUnit.{PowerUnit}
use Rattle.model.proofs.Courses.{fit-ok}

-- a walk over the course meets no fault
pub record Fits (c : Course Listed) : Type 0 where
  pub ends : c.ending ≡ proper
  pub few : leb (length c.units) limit ≡ true

module _ (c : Course Listed) (w : Fits c) where
  pub fits-few : length c.units ≤ 4000
  fits-few = leb-true (length c.units) limit w.few

  fits_all : take 4000 (map told c.units) ≡ map told c.units
  fits_all = take_all 4000 (map told c.units) (omega (arith, fits-few, length-map c.units told))

  pub fits-is : {B : Type 0} (layer : Layer) (r : B) (refuses : Fault → B) → if_walked layer c r refuses ≡ r
  fits-is layer r refuses = rw (w.ends, w.few)

module _ (layer : Layer) {X E : Type 0} (wrap : Fault → E) (c : Course Listed) (s x : X) (h : Ok s ≡ if_walked layer c (Ok x) (λ f. Err (wrap f))) where
  pub ok-is : s ≡ x
  ok-is = (fit-ok wrap layer c.ending (leb (length c.units) limit) s x h).2

  pub ok-fits : Fits c
  ok-fits = let k = fit-ok wrap layer c.ending (leb (length c.units) limit) s x h in record { ends = k.0; few = k.1 }

-- A walk with a fold, of which x is the part that is answered.
pub walk-folds : (layer : Layer) {S X E D : Type 0} (wrap : Fault → E) (rewrap : Fault → D) (step : S → PowerUnit → S) (start s : S) (part : S → X) (c : Course Listed) (n : ℕ) (x : X)
    → Ok n ≡ if_walked layer c (Ok (length c.units)) (λ f. Err (wrap f))
    → s ≡ fold step start (take 4000 (map told c.units))
    → part (fold step start (map told c.units)) ≡ x
    → (Ok (part s) ≡ if_walked {B = Result X D} layer c (Ok x) (λ f. Err (rewrap f))) × (n ≤ 4000)
walk-folds layer wrap rewrap step start s part c n x h e is =
    let w = ok-fits layer wrap c n (length c.units) h in
    let few = fits-few c w in
    let n-is = ok-is layer wrap c n (length c.units) h in
    (ap (λ y. Ok (part y)) (e ∙ ap (fold step start) (fits_all c w)) ∙ ap Ok is ∙ sym (fits-is c w layer (Ok x) (λ f. Err (rewrap f))), omega arith)
