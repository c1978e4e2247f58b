-- The methods as a question asks them are those that Methods defines.
use Rattle.std.proofs.Common.{◌≡◌, ◌==◌, ℕ, ◌+◌, Bool, true, false, cond, not, List, [], ◌∷◌, map, Some, None, Option, sym, refl, ap, ◌∙◌, ◌<◌, arith}
use Rattle.std.specs.List.{count_by}
use Rattle.std.proofs.lemmas.List.Sums.{sum_by-cons}
use Rattle.std.proofs.lemmas.Bool.{lt-ltb}
use Rattle.model.specs.declared.faults.Fault.{Fault}
use Rattle.model.specs.declared.faults.Rule.TheVariants.{Missing, MethodClosed, NoShare}
use Rattle.model.specs.declared.records.YearlyPair.{YearlyPair}
use Rattle.model.specs.Faults.{first_of}
use Rattle.model.specs.Fraction.{Frac}
use Rattle.model.specs.Methods.{closed, generated, low_cost, method_fault, missing_year, or_missing, pair_of, unless_fault, zero_share}
use Rattle.model.specs.Methods.{simple_share as defined_share}
use Rattle.model.specs.Operating.{MethodsAgree, adjusted_answer, adjusted_meaning, is_year, other_generation, simple_share}
use Rattle.model.specs.Plain.{any}
use Rattle.model.specs.Shares.{Verdict, refused, shares}
use Rattle.model.specs.Units.{Listed}

one-more : (y : ℕ) (p : YearlyPair) (ps : List YearlyPair) → (p.year == y) ≡ true → 0 < count_by (is_year y) (p ∷ ps)
one-more y p ps e =
    let more : count_by (is_year y) (p ∷ ps) ≡ 1 + count_by (is_year y) ps = sum_by-cons (λ x. cond (is_year y x) 1 0) p ps ∙ ap (λ b. cond b 1 0 + count_by (is_year y) ps) e in
    omega (arith, more)

-- one pair more
pair-more : (y : ℕ) (p : YearlyPair) (ps : List YearlyPair) (later : Option Fault) (b : Bool) → (p.year == y) ≡ b
    → or_missing y (pair_of y ps) later ≡ cond (not (any (is_year y) ps)) (Some (method_fault Missing y)) later
    → or_missing y (pair_of y (p ∷ ps)) later ≡ cond (not (any (is_year y) (p ∷ ps))) (Some (method_fault Missing y)) later
pair-more y p ps later true e h =
    ap (λ b. or_missing y (cond b (Some p) (pair_of y ps)) later) e
    ∙ sym (ap (λ b. cond (not b) (Some (method_fault Missing y)) later) (lt-ltb 0 (count_by (is_year y) (p ∷ ps)) (one-more y p ps e)))
pair-more y p ps later false e h = rw e h

-- a year is missing where no pair is of it
or-missing : (y : ℕ) (ps : List YearlyPair) (later : Option Fault) → or_missing y (pair_of y ps) later ≡ cond (not (any (is_year y) ps)) (Some (method_fault Missing y)) later
or-missing y [] later = refl
or-missing y (p ∷ ps) later = pair-more y p ps later (p.year == y) refl (or-missing y ps later)

-- six checks in order
six : (a b c d e f : Bool) (s t u v w x : Fault) (r : Verdict)
    → unless_fault (first_of ((a, s) ∷ (b, t) ∷ (c, u) ∷ (d, v) ∷ (e, w) ∷ (f, x) ∷ [])) r
    ≡ unless_fault (cond a (Some s) (cond b (Some t) (cond c (Some u) (cond d (Some v) (cond e (Some w) None))))) (cond f (refused x) r)
six true b c d e f s t u v w x r = refl
six false true c d e f s t u v w x r = refl
six false false true d e f s t u v w x r = refl
six false false false true e f s t u v w x r = refl
six false false false false true f s t u v w x r = refl
six false false false false false true s t u v w x r = refl
six false false false false false false s t u v w x r = refl

by-test : (b : Bool) (f : Frac) → cond (not b) f zero_share ≡ cond b zero_share f
by-test true f = refl
by-test false f = refl

share : (u : Listed) → simple_share u ≡ defined_share u
share u = by-test (low_cost u) (generated u)

years : (ps : List YearlyPair) → missing_year ps 0 5
    ≡ cond (not (any (is_year 0) ps)) (Some (method_fault Missing 0))
    (cond (not (any (is_year 1) ps)) (Some (method_fault Missing 1))
    (cond (not (any (is_year 2) ps)) (Some (method_fault Missing 2))
    (cond (not (any (is_year 3) ps)) (Some (method_fault Missing 3))
    (cond (not (any (is_year 4) ps)) (Some (method_fault Missing 4)) None))))
years ps = rw (or-missing 0 ps, or-missing 1 ps, or-missing 2 ps, or-missing 3 ps, or-missing 4 ps) refl

pub methods-agree : MethodsAgree
unfolding adjusted_meaning adjusted_answer
methods-agree =
    record {
      simple = λ ps us.
          six
          (not (any (is_year 0) ps))
          (not (any (is_year 1) ps))
          (not (any (is_year 2) ps))
          (not (any (is_year 3) ps))
          (not (any (is_year 4) ps))
          (closed ps)
          (method_fault Missing 0)
          (method_fault Missing 1)
          (method_fault Missing 2)
          (method_fault Missing 3)
          (method_fault Missing 4)
          (method_fault MethodClosed 0)
          _
          ∙ (λ i. unless_fault (sym (years ps) i) (cond (closed ps) (refused (method_fault MethodClosed 0)) (cond (other_generation us == 0) (refused (method_fault NoShare 0)) (shares (map (λ u. share u i) us)))));
      adjusted = λ hours year us. refl;
      figure = λ hours year us. refl;
    }
