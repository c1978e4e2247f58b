-- What a `LoadGroups` says of each hour, and what one group more makes of that.
use Rattle.std.specs.Prelude.{◌≡◌, ℕ, List, vec_items, Result}
use Rattle.load.specs.declared.groups.LoadGroups.{LoadGroups}
use Rattle.load.specs.Tables.{table_year}
use Rattle.model.specs.declared.faults.LoadFault.{LoadFault}
use Rattle.model.specs.declared.records.LoadGroup.{LoadGroup}
use Rattle.model.specs.LoadYears.{Hour, year_hours, group_answer, group_year, groups_after, year_after, year_group_answer}

abbrev pub year_of : LoadGroups → ℕ → Hour
year_of gs = table_year year_hours (vec_items gs.groups)

-- The answer to the group g, and the year before and after it.
pub record TakenIn (g : LoadGroup) (before after : ℕ → Hour) (r : Result (Unit {0}) LoadFault) : Type 0 where
  pub answer : r ≡ year_group_answer year_hours before g
  pub year : after ≡ year_after year_hours before g
  -- by the groups that stand, in order of entry, whichever led to the year
  pub told : (gs : List LoadGroup) → before ≡ group_year year_hours gs → r ≡ group_answer year_hours gs g
  pub life : (gs : List LoadGroup) → before ≡ group_year year_hours gs → after ≡ group_year year_hours (groups_after year_hours gs g)
