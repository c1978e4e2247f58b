-- The table of the groups taken in: at the place n the six loads of the group n, or none.
use Rattle.std.specs.Prelude.{ℕ, ◌/◌, ◌%◌, cond, List, Some, None, Option, nat_lt, slice_index, slice_index_or}
use Rattle.model.specs.LoadYears.{Hour, load, missing_hour}

abbrev pub placed : ℕ → Option (List ℕ) → Hour
placed h None = missing_hour h
placed h (Some loads) = load (slice_index loads (h % 6))

-- What the table says of an hour.
abbrev pub table_year : ℕ → List (Option (List ℕ)) → ℕ → Hour
table_year hours table h = cond (nat_lt h hours) (placed h (slice_index_or table (h / 6) None)) (missing_hour h)
