use Rattle.std.proofs.Common.{◌≡◌, ◌≤◌, length, take, vec_items, vec_len, vec_capacity}
use Rattle.life.specs.Lived.{Run, start, state}
use Rattle.life.proofs.lives.live.Given as goal

abbrev pub invariant-loop-call : goal.invariant-loop-call
invariant-loop-call g l =
    let m = g.M.Method in
    Run (m.meaning l.method) (m.may l.method) m.DISTANCE m.STANDS_ALONE (take l.call-index l.calls) (start l.initial.buffer) (vec_items l.answers) (state l.book l.buffer)
    × (vec_len l.answers ≡ l.call-index)
    × (length l.calls ≤ vec_capacity l.answers)
