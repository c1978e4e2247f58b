use Rattle.std.proofs.Common.{sym, refl, arith}
use Rattle.std.proofs.lemmas.List.Recursion.{and_fails_at, and_from_places}
use Rattle.model.specs.LoadYears.{all_loads, is_load}
use Rattle.load.proofs.groups.entries.all_loads.Goals as goal

pub returns-then-not-is_load : goal.returns-then-not-is_load
returns-then-not-is_load c =
    sym (and_fails_at all_loads is_load refl (λ _ _. refl) c.args.numbers.now c.loop-i.i 0 (omega arith) (sym c.if-not-is_load.ensures))

pub returns : goal.returns
returns c = sym (and_from_places all_loads is_load refl (λ _ _. refl) c.args.numbers.now 0 (λ k l. c.loop-i.invariant k (omega arith)))
