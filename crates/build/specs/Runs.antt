-- Runs of one kind of units, as a walk counts them.
use Rattle.std.specs.Prelude.{ℕ, ◌+◌, ◌*◌, ◌≤◌, Bool, cond, not, ◌&&◌, List, length, take, Ok, filter, Result, nat_le}
use Rattle.model.specs.Cohort.{joining, youngs}
use Rattle.model.specs.Course.{Course}
use Rattle.model.specs.Methods.{generation}
use Rattle.model.specs.Units.{Listed, told}
use Rattle.model.specs.declared.faults.BuildFault.{BuildFault}
use Rattle.model.specs.declared.units.PowerUnit.{PowerUnit}
use Rattle.build.specs.Kinds.{belongs, long_ago}
use Rattle.build.specs.Walks.{unless_fault}
use Rattle.build.specs.declared.runs.Growing.{Growing}
use Rattle.build.specs.declared.runs.Quota.{Quota}
use Rattle.build.specs.declared.runs.Run.{Run}
use Rattle.build.specs.declared.runs.Tally.{Tally}

-- so many units with this generation are enough
abbrev pub met_by : Quota → ℕ → ℕ → Bool
met_by q n g = nat_le q.least n && nat_le q.missing (5 * g)

-- ---- unit by unit

abbrev pub grown : ℕ → Tally → Tally
grown g t = record { units = t.units + 1; generation = t.generation + g }

abbrev pub no_run : Run
no_run = record { all = record { units = 0; generation = 0 }; young = record { units = 0; generation = 0 } }

abbrev pub with_unit : Bool → ℕ → Run → Run
with_unit old g r = record { all = grown g r.all; young = cond old r.young (grown g r.young) }

abbrev pub run_step : ℕ → Quota → Run → PowerUnit → Run
run_step reference q r u =
    cond (belongs q.kind reference u && not (met_by q r.all.units r.all.generation)) (with_unit (long_ago reference u) u.generation r) r

abbrev pub grow_step : Growing → PowerUnit → Growing
grow_step j u = record { reference = j.reference; quota = j.quota; run = run_step j.reference j.quota j.run u }

-- after n units in range
pub record Small (r : Run) (n : ℕ) : Type 0 where
  pub units : r.all.units ≤ n
  pub generation : r.all.generation ≤ n * 100000000
  pub young : r.young.units ≤ n
  pub fresh : r.young.generation ≤ n * 100000000

-- ---- as a whole

-- The first of the units that are enough, or all of them; in full, and those that are not old.
abbrev pub run_of : ℕ → Quota → List Listed → Run
run_of reference q us =
    let pool = filter (λ u. belongs q.kind reference (told u)) us in
    let run = take (joining (met_by q) 0 0 pool) pool in
    record {
      all = record { units = length run; generation = generation run };
      young = record { units = length (youngs reference run); generation = generation (youngs reference run) };
    }

abbrev pub walked_run : ℕ → Quota → Course Listed → Result Run BuildFault
walked_run reference q c = unless_fault c (Ok (run_of reference q c.units))
