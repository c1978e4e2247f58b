-- Runs of calls: one call more, and what a run makes of a book's journal.
use Rattle.std.proofs.Common.{◌≡◌, ℕ, ◌+◌, ◌<◌, ◌≤◌, Bool, List, [], ◌∷◌, ◌++◌, map, length, get_or, take, sym, refl, append_assoc, append-nil}
use Rattle.std.proofs.lemmas.List.{take_all, take_more}
use Rattle.life.specs.Lived.{Run, State, Step, event_of}
use Rattle.life.specs.declared.calls.Answer.{Answer}
use Rattle.life.specs.declared.calls.Call.{Call}
use Rattle.model.specs.Plain.{Shows}
use Rattle.model.specs.Shares.{Verdict}
use Rattle.model.specs.Units.{Listed}
use Rattle.model.specs.declared.events.Event.{Event}

module _ (meaning : List Listed → Verdict) (may : List Listed → ℕ → Type 0) (distance : ℕ) (alone : Bool) where
  abbrev Ran : List Call → State → List Answer → State → Type 0
  Ran cs s xs t = Run meaning may distance alone cs s xs t

  pub run-push : (cs : List Call) (s : State) (xs : List Answer) {m t : State} {c : Call} {a : Answer} → Ran cs s xs m → Step meaning may distance alone c m t a
      → Ran (cs ++ c ∷ []) s (xs ++ a ∷ []) t
  run-push [] s [] {m} {t} {c} {a} e h = (t, rw e h, refl)
  run-push [] s (x ∷ xs) e h = absurd e
  run-push (d ∷ cs) s [] e h = absurd e
  run-push (d ∷ cs) s (x ∷ xs) e h = (e.0, e.1, run-push cs e.0 xs e.2 h)

  pub run-lives : (cs : List Call) (s : State) (xs : List Answer) (t : State) → Ran cs s xs t → (journal : List Event) → Shows journal s.contents
      → Shows (journal ++ map event_of cs) t.contents
  run-lives [] s [] t e journal h = rw (append-nil journal, sym e) h
  run-lives [] s (x ∷ xs) t e journal h = absurd e
  run-lives (c ∷ cs) s [] t e journal h = absurd e
  run-lives (c ∷ cs) s (x ∷ xs) t e journal h =
      rw append_assoc at (run-lives cs e.0 xs t e.2 (journal ++ event_of c ∷ []) (e.1.life journal h))

  -- a turn of the loop over the calls, and its end
  pub run_more : (calls : List Call) (i : ℕ) (d : Call) (s : State) (xs : List Answer) {m t : State} {ys : List Answer} {a : Answer} → i < length calls → Ran (take i calls) s xs m
      → Step meaning may distance alone (get_or calls i d) m t a → ys ≡ xs ++ a ∷ [] → Ran (take (i + 1) calls) s ys t
  run_more calls i d s xs within ran step is = rw (take_more calls i d within, is) (run-push (take i calls) s xs ran step)

  pub run-all : (calls : List Call) (i : ℕ) (s : State) (xs : List Answer) (t : State) → length calls ≤ i → Ran (take i calls) s xs t → Ran calls s xs t
  run-all calls i s xs t past ran = rw (take_all i calls past) at ran
