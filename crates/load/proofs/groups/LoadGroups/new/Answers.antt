use Rattle.std.proofs.Common.{◌≡◌, ◌/◌, replicate, None, vec_items, arith}
use Rattle.model.specs.LoadYears.{year_hours}
use Rattle.load.proofs.Tabled.{free-ranged, free-reached}
use Rattle.load.proofs.groups.LoadGroups.new.Goals as goal

pub invariant_of-result : goal.invariant_of-result
invariant_of-result c =
    -- a clone of none is none
    let free : vec_items c.in_ok-groups.groups ≡ replicate (year_hours / 6) None = c.in_ok-groups.ensures.items_if_clones_equal (λ y cloned. grind arith) in
    record {
      whole = c.in_ok-groups.ensures.len;
      ranged = free-ranged year_hours (year_hours / 6) _ free;
      reached = free-reached year_hours (year_hours / 6) _ free;
    }
