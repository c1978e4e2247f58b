use Rattle.std.proofs.Common.{◌≡◌, ◌+◌, ◌≤◌, ℕ, List, ◌++◌, length, vec_len, vec_capacity}
use Rattle.std.specs.Slice.Iter.{chunks_rest, chunks_size}
use Rattle.model.specs.Records.{pieces_of}
use Rattle.record_streams.proofs.Flowing.{Flows}
use Rattle.record_streams.specs.Taking.{Answer}
use Rattle.record_streams.proofs.streams.take_all.Given as goal

-- The pieces so far are taken, those of the rest are still to come, and there is room for their replies.
abbrev pub invariant-loop-piece : goal.invariant-loop-piece
invariant-loop-piece l = record {
  size : chunks_size l.piece-iterator ≡ 32;
  room : vec_len l.replies + length (pieces_of (chunks_rest l.piece-iterator)) ≤ vec_capacity l.replies;
  taken : (ps : List (List ℕ)) × (rs : List Answer) × (pieces_of l.stream ≡ ps ++ pieces_of (chunks_rest l.piece-iterator)) × (l.replies.items ≡ l.initial.replies.items ++ rs)
      × Flows l.initial.intake l.intake l.initial.book l.book l.initial.methods l.methods ps rs;
}
