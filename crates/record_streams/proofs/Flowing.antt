-- Pieces taken one after another, beside what the rules say of them.
use Rattle.std.proofs.Common.{ℕ, List, [], ◌∷◌, ◌++◌}
use Rattle.std.proofs.lemmas.List.Sums.{fold-append}
use Rattle.book.specs.Seen.{Restarted}
use Rattle.book.specs.declared.books.Book.{Book}
use Rattle.model.specs.Records.{record_of}
use Rattle.model.specs.Streams.{Replies, ReplyTo, Stand, after_all, after_piece, index_after, next_index}
use Rattle.record_streams.specs.Feeding.{Stands}
use Rattle.record_streams.specs.Taking.{Answer, Taken}
use Rattle.record_streams.specs.declared.methods.Methods.{Methods}
use Rattle.intake.specs.declared.phases.Intake.{Intake}
use Rattle.record_streams.proofs.Fed.{fed, walk-taken}

-- what the pieces ps are answered with, and what they leave, whatever stood before them
pub record Flows (before after : Intake) (b c : Book) (m n : Methods) (ps : List (List ℕ)) (rs : List Answer) : Type 0 where
  pub replies : (s : Stand) (at : ℕ) → Stands s at before b m → Replies at s ps rs
  pub stands : (s : Stand) (at : ℕ) → Stands s at before b m → Stands (after_all s ps) (index_after at ps) after c n
  pub walk : Restarted b → Restarted c

replies-more : (at : ℕ) (s : Stand) (ps : List (List ℕ)) (rs : List Answer) (p : List ℕ) (r : Answer)
    → Replies at s ps rs → ReplyTo (index_after at ps) (after_all s ps) p r → Replies at s (ps ++ p ∷ []) (rs ++ r ∷ [])
replies-more at s [] [] p r h k = (k, tt)
replies-more at s [] (q ∷ rs) p r h k = absurd h
replies-more at s (q ∷ ps) [] p r h k = absurd h
replies-more at s (q ∷ ps) (t ∷ rs) p r h k = (h.0, replies-more (next_index at) (after_piece s q) ps rs p r h.1 k)

pub flows-none : (x : Intake) (b : Book) (m : Methods) → Flows x x b b m m [] []
flows-none x b m = record { replies = λ s at h. tt; stands = λ s at h. h; walk = λ w. w }

pub flows-more : {before mid after : Intake} {b c d : Book} {m n o : Methods} {ps : List (List ℕ)} {rs : List Answer} {p : List ℕ} {r : Answer}
    → Flows before mid b c m n ps rs → Taken mid after c d n o p r → Flows before after b d m o (ps ++ p ∷ []) (rs ++ r ∷ [])
flows-more {before} {mid} {after} {b} {c} {d} {m} {n} {o} {ps} {rs} {p} {r} f t =
    record {
      replies = λ s at h. replies-more at s ps rs p r (f.replies s at h) ((fed t (after_all s ps) (index_after at ps) (f.stands s at h)).0);
      stands = λ s at h.
          rw (fold-append after_piece s ps (p ∷ []), fold-append (λ k _. next_index k) at ps (p ∷ []))
          ((fed t (after_all s ps) (index_after at ps) (f.stands s at h)).1);
      walk = λ w. walk-taken mid.phase mid.index (record_of p) c d n o r t.took (f.walk w);
    }
