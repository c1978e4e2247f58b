use Rattle.std.proofs.Common.{refl, ◌∙◌}
use native.Mathlib.Nat.{sub-zero}
use Rattle.worked.proofs.JoinedGrids.{never, packs, reads, three}
use Rattle.worked.specs.Grids.{north_unit, south_unit}
use Rattle.worked.proofs.packings.pack_join.Goals as goal

pub returns-in_err-written : goal.returns-in_err-written
returns-in_err-written c =
    absurd (never (packs c.new-both.ensures.contents c.new.ensures.contents c.new-2.ensures.contents) c.in_err-written.ensures.answer)

pub returns : goal.returns
returns c =
    let e = c.in_ok-written.ensures in
    let back = reads c.new-both.ensures.contents c.new.ensures.contents c.new-2.ensures.contents e.back in
    let first = c.in_ok-next.ensures in
    let second = c.in_ok-next-2.ensures in
    let third = c.in_ok-next-3.ensures in
    let told = three _ _ _ _ _ _ south_unit north_unit (c.new-back.ensures.restarted ∙ rw sub-zero back) first.units first.ending second.units second.ending first.answer second.answer third.answer in
    rw (told.0, told.1, told.2) refl
