use Rattle.std.proofs.Common.{◌≡◌, ◌<◌, false, length, get_or, is_some, None, vec_items, sym, refl, ap, ◌∙◌, arith}
use Rattle.model.specs.declared.faults.Layer.TheVariants.{LoadYear}
use Rattle.model.specs.declared.faults.Rule.TheVariants.{AlreadyStands}
use Rattle.model.specs.Faults.{new_fault}
use Rattle.model.specs.LoadYears.{year_hours}
use Rattle.load.proofs.Grouping.{reached-more}
use Rattle.load.proofs.Tabled.{accepted-answer, accepted-year, looked-up, put-ranged, refused-answer, refused-year, taken_in}
use Rattle.load.proofs.groups.LoadGroups.take_in.Goals as goal
use Rattle.load.proofs.groups.LoadGroups.take_in.Goals.{Else-is_some}

pub returns-then-is_some : goal.returns-then-is_some
returns-then-is_some c =
    let t = vec_items c.args.self.now.groups in
    let g = c.args.group in
    let l : g.group < length t = omega arith in
    let loads = sym c.if-not-all_loads.ensures in
    let stands = c.if-is_some.ensures ∙ ap is_some (looked-up t c.from-place.result g.group _ c.from-place.ensures l c.index.ensures) in
    let fault = c.refusal-then-is_some.ensures ∙ ap (λ p. record { fault = new_fault AlreadyStands LoadYear p }) c.from-then-is_some.ensures in
    record {
      taken = taken_in g _ _ _ (refused-answer year_hours t g l (omega arith) loads _ fault stands) (refused-year year_hours t g l (omega arith) loads stands);
      refusal = refl;
    }

new : (c : Else-is_some) → false ≡ is_some (get_or (vec_items c.args.self.now.groups) c.args.group.group None)
new c = c.if-is_some.ensures ∙ ap is_some (looked-up (vec_items c.args.self.now.groups) c.from-place.result c.args.group.group _ c.from-place.ensures (omega arith) c.index.ensures)

pub invariant_of-self : goal.invariant_of-self
invariant_of-self c =
    let b = c.args.self.now in
    let t = vec_items b.groups in
    let g = c.args.group in
    let l : g.group < length t = omega arith in
    let loads = sym c.if-not-all_loads.ensures in
    let made = accepted-year year_hours t g l (omega arith) loads (new (goal.at.invariant_of-self c).Else-is_some) in
    record {
      whole = b.whole;
      ranged = rw c.from-place.ensures (put-ranged year_hours t g l loads b.ranged);
      reached = rw c.from-place.ensures (reached-more year_hours g _ _ made b.reached);
    }

pub returns : goal.returns
returns c =
    let b = c.args.self.now in
    let t = vec_items b.groups in
    let g = c.args.group in
    let l : g.group < length t = omega arith in
    let loads = sym c.if-not-all_loads.ensures in
    let made = accepted-year year_hours t g l (omega arith) loads (new (goal.at.returns c).Else-is_some) in
    record {
      taken = taken_in g _ _ _ (accepted-answer year_hours t g l (omega arith) loads (new (goal.at.returns c).Else-is_some)) (rw c.from-place.ensures made);
      refusal = tt;
    }
