-- The import's unit is in range.
use Rattle.std.specs.Prelude.{◌≤◌, refl}
use Rattle.std.proofs.Common.{mul-le-mul_left, arith}
use Rattle.model.specs.Merge.{imported}
use Rattle.model.specs.Units.{InRange}
use Rattle.layers.specs.Ahead.{import_of}
use Rattle.layers.specs.declared.imports.ImportEntry.{ImportEntry}

pub imported-ranged : (e : ImportEntry) → 1 ≤ e.code → e.code ≤ 65535 → 1 ≤ e.generation → e.generation ≤ 100000000 → e.factor ≤ 10000000
    → InRange (imported (import_of e))
imported-ranged e coded short some most light =
    record {
      coded = coded;
      short = short;
      dated = (refl, refl);
      some = some;
      most = most;
      emits = record { real = omega arith; cap = omega (arith, mul-le-mul_left e.generation light) };
      defaults = tt;
    }
