-- What a walk counts is a run: the first units of a kind that are enough, or all of them.
use Rattle.std.proofs.Common.{◌≡◌, ℕ, ◌+◌, Bool, true, false, cond, not, ◌&&◌, List, [], ◌∷◌, map, length, take, Ok, Err, fold, filter, refl, ap, ◌∙◌, one-add, arith}
use Rattle.model.specs.Cohort.{joining, youngs}
use Rattle.model.specs.Course.{Course, if_walked}
use Rattle.model.specs.Methods.{generation}
use Rattle.model.specs.Units.{Listed, told}
use Rattle.model.specs.declared.faults.BuildFault.{BuildFault}
use Rattle.model.specs.declared.faults.Fault.{Fault}
use Rattle.model.specs.declared.faults.Layer.TheVariants.{Build}
use Rattle.model.specs.declared.units.PowerUnit.{PowerUnit}
use Rattle.model.proofs.Joining.{generates-more}
use Rattle.register.proofs.Walking.{walk-folds}
use Rattle.build.specs.Kinds.{belongs, long_ago}
use Rattle.build.specs.Runs.{Small, grow_step, met_by, no_run, run_of, run_step, walked_run, with_unit}
use Rattle.build.specs.declared.runs.Growing.{Growing}
use Rattle.build.specs.declared.runs.Quota.{Quota}
use Rattle.build.specs.declared.runs.Run.{Run}

-- the units have joined r, which makes s
record Ran (reference : ℕ) (r : Run) (us : List Listed) (s : Run) : Type 0 where
  pub number : s.all.units ≡ r.all.units + length us
  pub amount : s.all.generation ≡ r.all.generation + generation us
  pub youngs-number : s.young.units ≡ r.young.units + length (youngs reference us)
  pub youngs-amount : s.young.generation ≡ r.young.generation + generation (youngs reference us)

module _ (reference : ℕ) where
  ran-none : (r : Run) → Ran reference r [] r
  ran-none r = record { number = omega arith; amount = omega arith; youngs-number = omega arith; youngs-amount = omega arith }

  one-young : (b : Bool) (u : Listed) (r s : Run) (us : List Listed)
      → s.young.units ≡ (with_unit b u.generation r).young.units + length us
      → s.young.generation ≡ (with_unit b u.generation r).young.generation + generation us
      → (s.young.units ≡ r.young.units + length (cond (not b) (u ∷ us) us)) × (s.young.generation ≡ r.young.generation + generation (cond (not b) (u ∷ us) us))
  one-young true u r s us p q = (p, q)
  one-young false u r s us p q = (omega arith, omega (arith, generates-more u us))

  ran-more : (r : Run) (u : Listed) (us : List Listed) (s : Run) → Ran reference (with_unit (long_ago reference (told u)) u.generation r) us s → Ran reference r (u ∷ us) s
  ran-more r u us s w =
      let y = one-young (long_ago reference (told u)) u r s (youngs reference us) w.youngs-number w.youngs-amount in
      record { number = omega (arith, w.number); amount = omega (arith, w.amount, generates-more u us); youngs-number = y.0; youngs-amount = y.1 }

module _ (reference : ℕ) (q : Quota) where
  abbrev pool : List Listed → List Listed
  pool us = filter (λ u. belongs q.kind reference (told u)) us

  abbrev met : Run → Bool
  met r = met_by q r.all.units r.all.generation

  abbrev counted : Run → List Listed → Run
  counted r us = fold (run_step reference q) r (map told us)

  abbrev joined : Run → List Listed → List Listed
  joined r m = take (joining (met_by q) r.all.units r.all.generation m) m

  stays : (us : List Listed) (r : Run) → met r ≡ true → counted r us ≡ r
  stays [] r h = refl
  stays (u ∷ us) r h =
      let same : run_step reference q r (told u) ≡ r = rw h (stands (belongs q.kind reference (told u))) in
      ap (λ x. counted x us) same ∙ stays us r h
    where
      stands : (b : Bool) → cond (b && false) (with_unit (long_ago reference (told u)) u.generation r) r ≡ r
      stands true = refl
      stands false = refl

  module _ (u : Listed) (us : List Listed) (r : Run) (later : (s : Run) → Ran reference s (joined s (pool us)) (counted s us)) where
    one_in : (e : Bool) → met r ≡ e
        → Ran reference r (take (cond e 0 (1 + joining (met_by q) (r.all.units + 1) (r.all.generation + u.generation) (pool us))) (u ∷ pool us))
        (counted (cond (not e) (with_unit (long_ago reference (told u)) u.generation r) r) us)
    one_in true h = rw (stays us r h) (ran-none reference r)
    one_in false h = rw one-add (ran-more reference r u _ _ (later _))

    one : (b : Bool)
        → Ran reference r (joined r (cond b (u ∷ pool us) (pool us)))
        (counted (cond (b && not (met r)) (with_unit (long_ago reference (told u)) u.generation r) r) us)
    one true = one_in _ refl
    one false = later r

  ran : (us : List Listed) (r : Run) → Ran reference r (joined r (pool us)) (counted r us)
  ran [] r = ran-none reference r
  ran (u ∷ us) r = one u us r (ran us) (belongs q.kind reference (told u))

  plus_none : (n m : ℕ) → n ≡ 0 + m → n ≡ m
  plus_none n m h = omega arith

  made_of : (s : Run) (run : List Listed) → Ran reference no_run run s
      → s ≡ record { all = record { units = length run; generation = generation run }; young = record { units = length (youngs reference run); generation = generation (youngs reference run) } }
  made_of s run w = rw (← plus_none _ _ w.number, ← plus_none _ _ w.amount, ← plus_none _ _ w.youngs-number, ← plus_none _ _ w.youngs-amount)

  pub counts-run : (us : List Listed) → counted no_run us ≡ run_of reference q us
  counts-run us = made_of _ _ (ran us no_run)

  joins : (us : List PowerUnit) (r : Run) → (fold grow_step (record { reference = reference; quota = q; run = r }) us).run ≡ fold (run_step reference q) r us
  joins [] r = refl
  joins (u ∷ us) r = joins us (run_step reference q r u)

  pub walk-counts : {E : Type 0} (wrap : Fault → E) (c : Course Listed) (n : ℕ) (j : Growing)
      → Ok n ≡ if_walked Build c (Ok (length c.units)) (λ f. Err (wrap f))
      → j ≡ fold grow_step (record { reference = reference; quota = q; run = no_run }) (take 4000 (map told c.units))
      → Small j.run n
      → (Ok j.run ≡ walked_run reference q c) × Small j.run 4000
  walk-counts wrap c n j h s small =
      let w = walk-folds Build {D = BuildFault} wrap (λ f. record { fault = f }) grow_step _ j (λ (x : Growing). x.run) c n _ h s (joins (map told c.units) no_run ∙ counts-run c.units) in (
        w.0,
        record {
          units = omega (arith, small.units);
          generation = omega (arith, small.generation);
          young = omega (arith, small.young);
          fresh = omega (arith, small.fresh);
        },
      )
