-- What a walk adds up are the sums over the cohort's members.
use Rattle.std.proofs.Common.{◌≡◌, ℕ, ◌+◌, Bool, true, false, cond, ◌&&◌, List, [], ◌∷◌, map, length, take, Some, None, Ok, Err, fold, sum_by, Option, refl, ◌∙◌, arith}
use Rattle.std.proofs.lemmas.List.Sums.{sum_by-cons}
use Rattle.std.specs.Option.{option_or}
use Rattle.model.specs.Cohort.{counted, grams_or, is_old, is_third, kind_of, less, members, more}
use Rattle.model.specs.Course.{Course, if_walked}
use Rattle.model.specs.Fraction.{Frac}
use Rattle.model.specs.Methods.{generation}
use Rattle.model.specs.Rounding.{rounded}
use Rattle.model.specs.Units.{Listed, rounded_option, told}
use Rattle.model.specs.declared.answers.Cohort.{Cohort}
use Rattle.model.specs.declared.answers.CohortSet.{CohortSet}
use Rattle.model.specs.declared.faults.BuildFault.{BuildFault}
use Rattle.model.specs.declared.faults.Fault.{Fault}
use Rattle.model.specs.declared.faults.Layer.TheVariants.{Build}
use Rattle.model.proofs.Joining.{generates-more}
use Rattle.register.proofs.Walking.{walk-folds}
use Rattle.build.specs.Members.{Roomy, first_without, grams_of, member_step, no_sums, or_code, sums_of, taken, walked_sums, with_member}
use Rattle.build.specs.declared.members.Members.{Members}
use Rattle.build.specs.declared.members.Sums.{Sums}

abbrev sums : ℕ → ℕ → Option ℕ → Sums
sums g h l = record { grams = g; generation = h; lacking = l }

same-sums : (g h : ℕ) (l : Option ℕ) (i j : ℕ) (m : Option ℕ) → g ≡ i → h ≡ j → l ≡ m → sums g h l ≡ sums i j m
same-sums g h l i j m p q r = rw (p, q, r)

or-none : (o : Option ℕ) → o ≡ option_or o None
or-none None = refl
or-none (Some n) = refl

or-or : (o l : Option ℕ) (code : ℕ) → option_or (option_or o (Some code)) l ≡ option_or o (Some code)
or-or None l code = refl
or-or (Some n) l code = refl

module _ (reference : ℕ) (set : CohortSet) where
  abbrev weight : Listed → ℕ
  weight u = grams_or (counted set reference u)

  -- the sums with the members added to them
  abbrev added : Sums → List Listed → Sums
  added s ms = sums (s.grams + sum_by weight ms) (s.generation + generation ms) (option_or s.lacking (first_without set reference ms))

  added_none : (s : Sums) → s ≡ added s []
  added_none s = same-sums s.grams s.generation s.lacking _ _ _ (omega arith) (omega arith) (or-none s.lacking)

  told-grams : (u : Listed) → grams_of set reference (told u) ≡ rounded_option (counted set reference u)
  told-grams u =
      elim (is_third set && is_old reference u) as (λ b. cond b (rounded_option u.default) (Some (rounded u.emission)) ≡ rounded_option (cond b u.default (Some u.emission))) [
        | true ↦ refl
        | false ↦ refl
      ]

  module _ (u : Listed) (s : Sums) (g h : ℕ) (l : Option ℕ) where
    added-value : (o : Option Frac)
        → sums ((with_member s (told u) (rounded_option o)).grams + g) ((with_member s (told u) (rounded_option o)).generation + h) (option_or (with_member s (told u) (rounded_option o)).lacking l)
        ≡ sums (s.grams + (grams_or o + g)) (s.generation + (u.generation + h)) (option_or s.lacking (or_code u.code o l))
    added-value None = same-sums _ _ _ _ _ _ (omega arith) (omega arith) (or-or s.lacking l u.code)
    added-value (Some f) = same-sums _ _ _ _ _ _ (omega arith) (omega arith) refl

  added-one : (u : Listed) (s : Sums) (ms : List Listed) → added (with_member s (told u) (grams_of set reference (told u))) ms ≡ added s (u ∷ ms)
  added-one u s ms =
      rw (told-grams u, sum_by-cons weight u ms, generates-more u ms)
      (added-value u s (sum_by weight ms) (generation ms) (first_without set reference ms) (counted set reference u))

module _ (reference : ℕ) (c : Cohort) where
  abbrev state : ℕ × ℕ × ℕ → Sums → Members
  state left s = record { reference = reference; cohort = c; left = left; sums = s }

  abbrev Adds : List Listed → Type 0
  Adds us = (left : ℕ × ℕ × ℕ) (s : Sums) → (fold member_step (state left s) (map told us)).sums ≡ added reference c.set s (members reference left us)

  adds_one : (u : Listed) (us : List Listed) → Adds us → (left : ℕ × ℕ × ℕ) (s : Sums) (b : Bool)
      → (fold member_step (taken (state left s) (told u) (cond b (Some (less (kind_of reference u) left)) None)) (map told us)).sums
      ≡ added reference c.set s (cond b (u ∷ members reference (less (kind_of reference u) left) us) (members reference left us))
  adds_one u us later left s true = later (less (kind_of reference u) left) _ ∙ added-one reference c.set u s _
  adds_one u us later left s false = later left s

  adds : (us : List Listed) → Adds us
  adds [] left s = added_none reference c.set s
  adds (u ∷ us) left s = adds_one u us (adds us) left s (more (kind_of reference u) left)

  adds-all : (us : List Listed) → (fold member_step (state c.counts no_sums) (map told us)).sums ≡ sums_of reference c us
  adds-all us = adds us c.counts no_sums ∙ same-sums _ _ _ _ _ _ (omega arith) (omega arith) refl

  pub walk-adds : {E : Type 0} (wrap : Fault → E) (d : Course Listed) (n : ℕ) (m : Members)
      → Ok n ≡ if_walked Build d (Ok (length d.units)) (λ f. Err (wrap f))
      → m ≡ fold member_step (state c.counts no_sums) (take 4000 (map told d.units))
      → Roomy m.sums n
      → (Ok m.sums ≡ walked_sums reference c d) × Roomy m.sums 4000
  walk-adds wrap d n m h s room =
      let w = walk-folds Build {D = BuildFault} wrap (λ f. record { fault = f }) member_step _ m (λ (x : Members). x.sums) d n _ h s (adds-all d.units) in
      (w.0, record { generation = omega (arith, room.generation); grams = room.grams })
