use Rattle.std.proofs.Common.{◌≡◌, ◌++◌, ◌∷◌, [], length, sym, ap, ◌∙◌, append_assoc, append-nil, arith}
use Rattle.std.specs.Slice.Iter.{chunks_rest}
use Rattle.model.specs.Records.{pieces_of}
use Rattle.model.proofs.Pieces.{pieces_none}
use Rattle.record_streams.proofs.Cutting.{first-piece, piece-count}
use Rattle.record_streams.proofs.Flowing.{flows-more, flows-none}
use Rattle.record_streams.proofs.Stood.{stood}
use Rattle.record_streams.proofs.streams.take_all.Goals as goal
use Rattle.record_streams.proofs.streams.take_all.Goals.{In-Some}

pub returns-in_err-reserve-clause-room : goal.returns-in_err-reserve-clause-room
returns-in_err-reserve-clause-room c = λ room. absurd (omega (arith, c.in_err-reserve.ensures.full, c.div_ceil.ensures, piece-count c.args.stream.now, room))

pub loop-piece-init : goal.loop-piece-init
loop-piece-init c =
    let r : chunks_rest c.into_iter-piece-iterator.result ≡ c.args.stream.now = ap chunks_rest c.into_iter-piece-iterator.ensures.into_iter_gives ∙ c.chunks-piece-items.ensures.rest in
    record {
      size = rw c.into_iter-piece-iterator.ensures.into_iter_gives c.chunks-piece-items.ensures.size;
      room = rw r (omega (arith, c.in_ok-reserve.ensures.ok, c.div_ceil.ensures, piece-count c.args.stream.now));
      taken = ([], [], ap pieces_of (sym r), sym (append-nil c.reserve.new.self.items), flows-none c.args.intake.now c.args.book.now c.args.methods.now);
    }

-- the piece that came, and those still to come
first : (c : In-Some) → pieces_of (chunks_rest c.loop-piece.piece-iterator) ≡ c.in-Some.piece.now ∷ pieces_of (chunks_rest c.next.new.self)
first c =
    let s = c.in-Some.ensures.steps in
    first-piece (chunks_rest c.loop-piece.piece-iterator) c.in-Some.piece.now (chunks_rest c.next.new.self) s.1.0 (omega (arith, s.1.1, c.loop-piece.invariant.size)) s.1.2

pub push_reserved-requires : goal.push_reserved-requires
push_reserved-requires c =
    omega (arith, c.loop-piece.invariant.room, ap length (first (goal.at.push_reserved-requires c).In-Some))

pub loop-piece-preserved : goal.loop-piece-preserved
loop-piece-preserved c =
    let i = c.loop-piece.invariant in
    let next = first (goal.at.loop-piece-preserved c).In-Some in
    let p = c.in-Some.piece.now in
    record {
      size = c.in-Some.ensures.steps.0 ∙ i.size;
      room = omega (arith, i.room, ap length next, c.push_reserved.ensures.len, c.push_reserved.ensures.capacity);
      taken = (
        i.taken.0 ++ p ∷ [],
        i.taken.1 ++ c.take.result ∷ [],
        i.taken.2 ∙ (ap (λ ps. i.taken.0 ++ ps) next ∙ sym (append_assoc i.taken.0 (p ∷ []) (pieces_of (chunks_rest c.next.new.self)))),
        c.push_reserved.ensures.items ∙ (ap (λ rs. rs ++ c.take.result ∷ []) i.taken.3 ∙ append_assoc c.reserve.new.self.items i.taken.1 (c.take.result ∷ [])),
        flows-more i.taken.4 c.take.ensures,
      );
    }

pub returns-clause-taken : goal.returns-clause-taken
returns-clause-taken c =
    let i = c.loop-piece.invariant in
    let none = pieces_none (chunks_rest c.loop-piece.piece-iterator) c.in-None.ensures.steps.1.0 in
    let all : pieces_of c.args.stream.now ≡ i.taken.0 = i.taken.2 ∙ (ap (λ ps. i.taken.0 ++ ps) none ∙ append-nil i.taken.0) in (
      i.taken.1,
      i.taken.3 ∙ ap (λ rs. rs ++ i.taken.1) c.in_ok-reserve.ensures.items,
      record {
        replies = λ s at h. rw all (i.taken.4.replies s at h);
        stands = λ s at h. rw all (i.taken.4.stands s at h);
        some = stood c.args.intake.now c.args.book.now c.args.methods.now;
        walk = i.taken.4.walk;
      },
    )
