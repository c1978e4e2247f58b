-- Packings and questions leave what a book holds.
use Rattle.std.proofs.Common.{◌≡◌, ℕ, Bool, List, [], ◌∷◌, ◌++◌, length, Result, refl, ap}
use Rattle.life.specs.Lived.{State, Step, whole}
use Rattle.life.specs.declared.calls.Answer.TheVariants.{Margin, Packed}
use Rattle.life.specs.declared.calls.Call.{Call}
use Rattle.life.specs.declared.calls.Call.TheVariants.{Ask, Pack}
use Rattle.model.specs.History.{year_book}
use Rattle.model.specs.Packed.{packed_buffer, packing_answer}
use Rattle.model.specs.Plain.{Contents, Shows, book_course}
use Rattle.model.specs.Promise.{Promise}
use Rattle.model.specs.Shares.{Verdict}
use Rattle.model.specs.Units.{Listed}
use Rattle.model.specs.declared.answers.CombinedMargin.{CombinedMargin}
use Rattle.model.specs.declared.answers.Weights.{Weights}
use Rattle.model.specs.declared.events.Event.{Event}
use Rattle.model.specs.declared.events.Event.TheVariants.{Packing, Question}
use Rattle.model.specs.declared.faults.CombinedFault.{CombinedFault}
use Rattle.model.specs.declared.faults.PackingFault.{PackingFault}
use Rattle.model.proofs.Lives.{Quiet, lives-quiet, quiet-packing, quiet-question}

same-contents : {p q : Contents} → year_book p ≡ year_book q → p ≡ q
same-contents e = cc

-- an event that changes nothing
stays : (v : Event) → Quiet v → {p q : Contents} → year_book q ≡ year_book p → (journal : List Event) → Shows journal p → Shows (journal ++ v ∷ []) q
stays v quiet {p} e journal h = rw (same-contents e) (lives-quiet v quiet p journal h)

module _ {meaning : List Listed → Verdict} {may : List Listed → ℕ → Type 0} {distance : ℕ} {alone : Bool} {s t : State} where
  pub packs : {c : Call} {r : Result ℕ PackingFault} → c ≡ Pack → year_book t.contents ≡ year_book s.contents → t.coming ≡ whole s.contents
      → r ≡ packing_answer (book_course s.contents.units) (length s.buffer) → t.buffer ≡ packed_buffer r (book_course s.contents.units) s.buffer
      → Step meaning may distance alone c s t (Packed r)
  packs is contents coming answer buffer =
      rw is
      (record {
        life = stays Packing quiet-packing contents;
        answers = record { answer = ap Packed answer; coming = coming; buffer = rw answer at buffer };
      })

  pub asks : {c : Call} {w : Weights} {d : ℕ} {r : Result CombinedMargin CombinedFault} → c ≡ Ask w d
      → Promise meaning may distance alone w.operating w.build d (year_book s.contents) (year_book t.contents) t.coming r → t.buffer ≡ s.buffer
      → Step meaning may distance alone c s t (Margin r)
  asks {r = r} is promise buffer =
      rw is
      (record {
        life = stays Question quiet-question promise.kept;
        answers = record { result = r; answer = refl; promise = promise; buffer = buffer };
      })
