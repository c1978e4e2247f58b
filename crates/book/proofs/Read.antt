-- A unit read from the table.
use Rattle.std.proofs.Common.{◌≡◌, ℕ, ◌+◌, ◌<◌, List, ◌∷◌, map, length, get_or, drop, sym, ap, ◌∙◌}
use Rattle.std.proofs.lemmas.List.{drop_more, get_or-map, length-map}
use Rattle.book.specs.declared.standing.StandingUnit.{StandingUnit}
use Rattle.model.specs.Plain.{no_unit}
use Rattle.book.specs.Standing.{standing}

pub read-unit : (us : List StandingUnit) (i : ℕ) (u : StandingUnit) → i < length us → u ≡ get_or us i u → get_or (map standing us) i no_unit ≡ standing u
read-unit us i u l is = get_or-map standing us i u no_unit l ∙ ap standing (sym is)

-- what is still to come begins with the unit that is read next
pub next-unit : (us : List StandingUnit) (n : ℕ) (u : StandingUnit) → n < length us → u ≡ get_or us n u → drop n (map standing us) ≡ standing u ∷ drop (n + 1) (map standing us)
next-unit us n u l is = drop_more (map standing us) n no_unit (rw length-map l) ∙ ap (λ v. v ∷ drop (n + 1) (map standing us)) (read-unit us n u l is)
