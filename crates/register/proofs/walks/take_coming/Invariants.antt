use Rattle.std.proofs.Common.{◌≡◌, length}
use Rattle.register.proofs.Folding.{Folding}
use Rattle.register.proofs.walks.take_coming.Given as goal

abbrev pub invariant-loop-unit : goal.invariant-loop-unit
invariant-loop-unit g l =
    let r = g.R.Register in
    let f = g.F.Fold in
    (r.contents l.register ≡ r.contents l.initial.register)
    × ((r.coming l.register).ending ≡ (r.coming l.initial.register).ending)
    × Folding f.step f.fits l.initial.fold (r.coming l.initial.register).units (r.coming l.register).units l.count l.fold

abbrev pub decreases-loop-unit : goal.decreases-loop-unit
decreases-loop-unit g l = length (g.R.Register.coming l.register).units
