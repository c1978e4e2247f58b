-- A test for equal units that stand: their entries and their burns agree.
use Rattle.std.proofs.Common.{◌≡◌, Bool, true, false, ◌&&◌, eqb, List, [], ◌∷◌, refl, arith}
use Rattle.std.proofs.lemmas.Bool.{and_from, and_parts}
use Rattle.std.proofs.lemmas.Bool.Decides.{nat_tests}
use Rattle.model.specs.declared.units.Burn.{Burn}
use Rattle.model.specs.declared.units.UnitEntry.{UnitEntry}
use Rattle.model.specs.Units.{Standing}
use Rattle.model.proofs.Rearranged.{Tells}

abbrev same_entry : UnitEntry → UnitEntry → Bool
same_entry x y =
    eqb y.code x.code && (eqb y.class x.class && (eqb y.day x.day && (eqb y.generation x.generation
    && (eqb y.efficiency x.efficiency && eqb y.default_efficiency x.default_efficiency))))

entry-itself : (x : UnitEntry) → same_entry x x ≡ true
entry-itself x = grind (arith, nat_tests)

entry-one : (x y : UnitEntry) → same_entry x y ≡ true → y ≡ x
entry-one x y e =
    let a : y.code ≡ x.code = grind (arith, nat_tests, e) in
    let b : y.class ≡ x.class = grind (arith, nat_tests, e) in
    let c : y.day ≡ x.day = grind (arith, nat_tests, e) in
    let d : y.generation ≡ x.generation = grind (arith, nat_tests, e) in
    let f : y.efficiency ≡ x.efficiency = grind (arith, nat_tests, e) in
    let g : y.default_efficiency ≡ x.default_efficiency = grind (arith, nat_tests, e) in
    λ i. record { code = a i; class = b i; day = c i; generation = d i; efficiency = f i; default_efficiency = g i }

abbrev same_burn : Burn → Burn → Bool
same_burn x y =
    eqb y.fuel.code x.fuel.code && (eqb y.fuel.heat_content x.fuel.heat_content
    && (eqb y.fuel.carbon_factor x.fuel.carbon_factor && eqb y.quantity x.quantity))

burn-itself : (x : Burn) → same_burn x x ≡ true
burn-itself x = grind (arith, nat_tests)

burn-one : (x y : Burn) → same_burn x y ≡ true → y ≡ x
burn-one x y e =
    let a : y.fuel.code ≡ x.fuel.code = grind (arith, nat_tests, e) in
    let b : y.fuel.heat_content ≡ x.fuel.heat_content = grind (arith, nat_tests, e) in
    let c : y.fuel.carbon_factor ≡ x.fuel.carbon_factor = grind (arith, nat_tests, e) in
    let d : y.quantity ≡ x.quantity = grind (arith, nat_tests, e) in
    λ i. record { fuel = record { code = a i; heat_content = b i; carbon_factor = c i }; quantity = d i }

abbrev same_burns : List Burn → List Burn → Bool
same_burns [] [] = true
same_burns [] (y ∷ ys) = false
same_burns (x ∷ xs) [] = false
same_burns (x ∷ xs) (y ∷ ys) = same_burn x y && same_burns xs ys

burns-itself : (xs : List Burn) → same_burns xs xs ≡ true
burns-itself [] = refl
burns-itself (x ∷ xs) = and_from (same_burn x x) (same_burns xs xs) (burn-itself x) (burns-itself xs)

burns-one : (xs ys : List Burn) → same_burns xs ys ≡ true → ys ≡ xs
burns-one [] [] e = refl
burns-one [] (y ∷ ys) e = cc
burns-one (x ∷ xs) [] e = cc
burns-one (x ∷ xs) (y ∷ ys) e =
    let p = and_parts (same_burn x y) (same_burns xs ys) e in
    let a = burn-one x y p.0 in
    let b = burns-one xs ys p.1 in
    λ i. a i ∷ b i

-- closed, so that a goal on weights shows the test by its name
unfoldable alike_units : Standing → Standing → Bool
alike_units x y = same_entry x.entry y.entry && same_burns x.burns y.burns

alike-itself : (x : Standing) → alike_units x x ≡ true
unfolding alike_units
alike-itself x = and_from (same_entry x.entry x.entry) (same_burns x.burns x.burns) (entry-itself x.entry) (burns-itself x.burns)

alike-one : (x y : Standing) → alike_units x y ≡ true → y ≡ x
unfolding alike_units
alike-one x y e =
    let p = and_parts (same_entry x.entry y.entry) (same_burns x.burns y.burns) e in
    let a = entry-one x.entry y.entry p.0 in
    let b = burns-one x.burns y.burns p.1 in
    λ i. record { entry = a i; burns = b i }

pub tells-units : Tells Standing
tells-units = record { alike = alike_units; itself = alike-itself; one = alike-one }
