use Rattle.std.proofs.Common.{◌≡◌, ◌*◌}
use Rattle.model.specs.Fraction.{ratio}
use Rattle.model.specs.Rounding.{rounded}
use Rattle.model.proofs.Rounding.{rounded-whole}
use Rattle.layers.proofs.imports.PowerUnitFromImportEntry.from.Goals as goal

pub returns : goal.returns
returns c =
    let e = c.args.entry in
    let whole : e.generation * e.factor ≡ rounded (ratio (e.generation * e.factor) 1) = rw (rounded-whole (e.generation * e.factor)) in
    cc
