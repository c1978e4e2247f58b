-- The loop of a walk: the units taken so far, and those still to come.
use Rattle.std.proofs.Common.{◌≡◌, ℕ, ◌+◌, ◌-◌, ◌*◌, ◌<◌, ◌≤◌, List, [], ◌∷◌, map, length, take, min, false, leb, Some, None, Ok, Err, fold, Option, Result, sym, ap, ◌∙◌, add-one, arith}
use lib.ListN.{length-map}
use Rattle.std.proofs.lemmas.Bool.{lt-leb}
use Rattle.std.specs.List.{AllByRecursion}
use Rattle.model.specs.Course.{Course, if_walked, limit, proper, told_course}
use Rattle.model.specs.Faults.{new_fault}
use Rattle.model.specs.Fraction.{Frac}
use Rattle.model.specs.History.{Composition, listed}
use Rattle.model.specs.Units.{EmitsOption, Listed, Ranged, rounded_option, told}
use Rattle.model.specs.declared.faults.Fault.{Fault}
use Rattle.model.specs.declared.faults.Layer.{Layer}
use Rattle.model.specs.declared.faults.RegisterFault.{RegisterFault}
use Rattle.model.specs.declared.faults.Rule.TheVariants.{TooManyUnits}
use Rattle.model.specs.declared.units.PowerUnit.{PowerUnit}
use Rattle.model.proofs.Rounding.{rounded-cap}
use Rattle.register.specs.Folds.{AtMost, Cap}

rounded-option : (n : ℕ) (f : Option Frac) → EmitsOption n f → AtMost (10000000 * n) (rounded_option f)
rounded-option n None h = tt
rounded-option n (Some f) h = rounded-cap f (10000000 * n) h.real h.cap

-- what is told of units in range is within the caps
pub caps : (us : List Listed) → Ranged us → AllByRecursion Cap (map told us)
caps [] h = tt
caps (u ∷ us) h = (
  record {
    some = h.0.some;
    most = h.0.most;
    grams = rounded-cap u.emission (10000000 * u.generation) h.0.emits.real h.0.emits.cap;
    defaults = rounded-option u.generation u.default h.0.defaults;
  },
  caps us h.1,
)

-- `left` is still to come of `all`, `count` units were taken, as far as 32 bits go, and s is what the fold holds
pub record Folding {S : Type 0} (step : S → PowerUnit → S) (fits : S → ℕ → Type 0) (start : S) (all left : List PowerUnit) (count : ℕ) (s : S) : Type 0 where
  pub top : count ≤ 4294967295
  pub counts : min (count + length left) 4294967295 ≡ min (length all) 4294967295
  pub gives : fold step s (take (limit - count) left) ≡ fold step start (take limit all)
  pub room : count ≤ limit → fits s count
  pub rest : AllByRecursion Cap left

take_none : {A : Type 0} (n : ℕ) (xs : List A) → n ≡ 0 → take n xs ≡ []
take_none n xs e = rw e

take-cons : {A : Type 0} (n m : ℕ) (x : A) (xs : List A) → n ≡ m + 1 → take n (x ∷ xs) ≡ x ∷ take m xs
take-cons n m x xs e = rw (e, add-one)

module _ {S : Type 0} (step : S → PowerUnit → S) (fits : S → ℕ → Type 0) (start : S) (all : List PowerUnit) where
  module _ (left : List PowerUnit) (u : PowerUnit) (count next : ℕ) (s : S) (w : Folding step fits start all (u ∷ left) count s) (n : next ≡ min (count + 1) 4294967295) where
    -- the fold takes the unit
    pub folding-more : (t : S) → ((s : S) (n : ℕ) (u : PowerUnit) → n < 4000 → fits s n → Cap u → fits (step s u) (n + 1))
        → count < limit → t ≡ step s u → Folding step fits start all left next t
    folding-more t law h e =
        let one : next ≡ count + 1 = omega arith in
        rw (e, one)
        (record {
          top = omega arith;
          counts = omega arith;
          gives = ap (fold step s) (sym (take-cons (limit - count) (limit - (count + 1)) u left (omega arith))) ∙ w.gives;
          room = λ _. law s count u h (w.room (omega arith)) w.rest.0;
          rest = w.rest.1;
        })

    -- the fold has taken its most
    pub folding-past : limit ≤ count → Folding step fits start all left next s
    folding-past h =
        record {
          top = omega arith;
          counts = omega arith;
          gives = ap (fold step s) (take_none (limit - next) left (omega arith) ∙ sym (take_none (limit - count) (u ∷ left) (omega arith))) ∙ w.gives;
          room = λ k. absurd (omega arith);
          rest = w.rest.1;
        }

-- what a walk answers
abbrev pub walk_answer : Layer → Course Listed → Result ℕ RegisterFault
walk_answer layer c = if_walked layer c (Ok (length c.units)) (λ f. Err (record { fault = f }))

-- at the end, past the limit
pub walked_many : (layer : Layer) (c : Course Listed) {S : Type 0} (step : S → PowerUnit → S) (fits : S → ℕ → Type 0) (start s : S) (left : List PowerUnit) (count : ℕ)
    → Folding step fits start (map told c.units) left count s → left ≡ [] → c.ending ≡ proper
    → {f : Fault} → f ≡ new_fault TooManyUnits layer 0 → 4000 < count → Err (record { fault = f }) ≡ walk_answer layer c
walked_many layer c step fits start s left count w n proper-end is h =
    let t : leb (length c.units) limit ≡ false = lt-leb _ _ (omega (arith, w.counts, w.top, ap length n, length-map c.units told)) in
    rw (proper-end, t) (ap (λ x. Err (record { fault = x })) is)

-- from the register as a step found it, with contents p, to the register as the call did, with contents q
pub restart-moved : {p q : Composition} → p ≡ q → {d : Course PowerUnit} → d ≡ told_course (listed p) → d ≡ told_course (listed q)
restart-moved whole e = rw (← whole) e
