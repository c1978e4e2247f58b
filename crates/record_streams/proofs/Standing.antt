-- One record taken, beside what the rules say of it.
use Rattle.std.proofs.Common.{◌≡◌, true, false, List, [], ◌∷◌, ◌++◌, IfErr, Some, None, Ok, Err, Option, Result, sym, refl, ap, ◌∙◌}
use Rattle.book.specs.Seen.{seen}
use Rattle.book.specs.declared.books.Book.{Book}
use Rattle.load.specs.Taking.{year_of}
use Rattle.load.specs.declared.groups.LoadGroups.{LoadGroups}
use Rattle.method.specs.Pairs.{pairs_of}
use Rattle.method.specs.declared.adjustments.Adjusted.{Adjusted}
use Rattle.std.proofs.lemmas.Bool.{both_ways}
use Rattle.model.specs.Faults.{stands_after, unless_refused}
use Rattle.model.specs.LoadYears.{year_hours, group_fault, group_year, groups_after}
use Rattle.model.specs.Operating.{pair_answer, pair_fault, pairs_after}
use Rattle.model.specs.Plain.{Shows}
use Rattle.model.specs.Streams.{Gathered, entry_fault, entry_reply, event_fault, is_question, put_in, refusal_of, with_event}
use Rattle.model.specs.declared.answers.Reply.{Reply}
use Rattle.model.specs.declared.answers.Reply.TheVariants.{Entered}
use Rattle.model.specs.declared.events.Event.{Event}
use Rattle.model.specs.declared.events.Event.TheVariants.{EnterBurn, EnterFuel, EnterUnit, Strike as StrikeUnit}
use Rattle.model.specs.declared.faults.BookFault.{BookFault}
use Rattle.model.specs.declared.faults.Fault.{Fault}
use Rattle.model.specs.declared.faults.IntakeFault.{IntakeFault}
use Rattle.model.specs.declared.faults.LoadFault.{LoadFault}
use Rattle.model.specs.declared.faults.MethodFault.{MethodFault}
use Rattle.model.specs.declared.records.LoadGroup.{LoadGroup}
use Rattle.model.specs.declared.records.Record.{Record}
use Rattle.model.specs.declared.records.Record.TheVariants.{Burn, Fuel, Load, Question as Asked, Strike, Unit as UnitRecord, Yearly}
use Rattle.model.specs.declared.records.YearlyPair.{YearlyPair}
use Rattle.intake.specs.Taking.{EntersBook, EntersMethods, handed_on}
use Rattle.record_streams.specs.Taking.{EntersLoad, EntersPair, Gathers, pairs_in, year_in}
use Rattle.record_streams.specs.declared.methods.Methods.{Methods}

-- what book and methods hold, whatever the intake's phase and index
pub record Holds (g : Gathered) (b : Book) (m : Methods) : Type 0 where
  pub book : Shows g.journal (seen b)
  pub groups : year_in m ≡ group_year year_hours g.groups
  pub pairs : pairs_in m ≡ g.pairs

-- the answer to an entry, and what is held after it
pub record Entering (g : Gathered) (x : Record) (c : Book) (n : Methods) (r : Result Reply IntakeFault) : Type 0 where
  pub reply : r ≡ entry_reply (entry_fault g x)
  pub taken : entry_fault g x ≡ None → Holds (put_in g x) c n
  pub left : (f : Fault) → entry_fault g x ≡ Some f → Holds g c n

-- a layer's answer by its fault, handed on
handed : {E : Type 0} (wrap : Fault → E) (fault : E → Fault) → ((f : Fault) → fault (wrap f) ≡ f) → (o : Option Fault) → handed_on Entered fault (unless_refused wrap o tt) ≡ entry_reply o
handed wrap fault back None = refl
handed wrap fault back (Some f) = ap (λ (e : Fault). Err (record { fault = e })) (back f)

-- ---- entries of the book

book-reply : (w : Result (Unit {0}) BookFault) → handed_on Entered (λ (f : BookFault). f.fault) w ≡ entry_reply (refusal_of w)
book-reply (Ok x) = refl
book-reply (Err f) = refl

-- a refused event leaves the very book
stays : (b c : Book) (w : Result (Unit {0}) BookFault) (f : Fault) → refusal_of w ≡ Some f → IfErr w (λ _. c ≡ b) → c ≡ b
stays b c (Ok x) f e h = cc
stays b c (Err y) f e h = h

module _ (g : Gathered) (b c : Book) (m n : Methods) (r : Result Reply IntakeFault) (h : Holds g b m) where
  enters-book : (v : Event) (x : Record) → entry_fault g x ≡ event_fault g v → put_in g x ≡ with_event g v → EntersBook Entered v b c m n r → Entering g x c n r
  enters-book v x fault put e =
      let told = e.entered.told g.journal h.book in
      record {
        reply = e.replied ∙ (book-reply e.verdict ∙ (ap (λ w. entry_reply (refusal_of w)) told ∙ ap entry_reply (sym fault)));
        taken = λ _. rw put (record { book = e.entered.life g.journal h.book; groups = rw e.methods h.groups; pairs = rw e.methods h.pairs });
        left = λ f is.
            let same = stays b c e.verdict f (ap refusal_of told ∙ (sym fault ∙ is)) e.entered.changes.refusal in
            record { book = rw same h.book; groups = rw e.methods h.groups; pairs = rw e.methods h.pairs };
      }

  -- ---- groups of loads and yearly pairs

  enters-load : (l : LoadGroup) → EntersMethods (EntersLoad l) b c m n r → Entering g (Load l) c n r
  enters-load l e =
      let after : year_in n ≡ group_year year_hours (groups_after year_hours g.groups l) = e.taken.taken.life g.groups h.groups in
      let held : (gs : List LoadGroup) → groups_after year_hours g.groups l ≡ gs → Holds (record { journal = g.journal; groups = gs; pairs = g.pairs }) c n =
      λ gs is. record { book = rw e.book h.book; groups = after ∙ ap (group_year year_hours) is; pairs = ap pairs_of e.taken.simple ∙ h.pairs } in
      record {
        reply = e.taken.replied ∙ (ap (handed_on Entered (λ (f : LoadFault). f.fault)) (e.taken.taken.told g.groups h.groups) ∙ handed (λ f. record { fault = f }) (λ (f : LoadFault). f.fault) (λ f. refl) (group_fault year_hours g.groups l));
        taken = λ is. held (g.groups ++ l ∷ []) (ap (λ o. stands_after o (g.groups ++ l ∷ []) g.groups) is);
        left = λ f is. held g.groups (ap (λ o. stands_after o (g.groups ++ l ∷ []) g.groups) is);
      }

  enters-pair : (p : YearlyPair) → EntersMethods (EntersPair p) b c m n r → Entering g (Yearly p) c n r
  enters-pair p e =
      let after : pairs_in n ≡ pairs_after g.pairs p = e.taken.pairs ∙ ap (λ ps. pairs_after ps p) h.pairs in
      let held : (ps : List YearlyPair) → pairs_after g.pairs p ≡ ps → Holds (record { journal = g.journal; groups = g.groups; pairs = ps }) c n =
      λ ps is. record { book = rw e.book h.book; groups = ap (λ (a : Adjusted LoadGroups). year_of a.year) e.taken.adjusted ∙ h.groups; pairs = after ∙ is } in
      record {
        reply = e.taken.replied ∙ (ap (λ ps. handed_on Entered (λ (f : MethodFault). f.fault) (pair_answer ps p)) h.pairs ∙ handed (λ f. record { fault = f }) (λ (f : MethodFault). f.fault) (λ f. refl) (pair_fault g.pairs p));
        taken = λ is. held (g.pairs ++ p ∷ []) (ap (λ o. stands_after o (g.pairs ++ p ∷ []) g.pairs) is);
        left = λ f is. held g.pairs (ap (λ o. stands_after o (g.pairs ++ p ∷ []) g.pairs) is);
      }

  -- any entry that is gathered
  pub enters : (x : Record) → is_question x ≡ false → Gathers x b c m n r → Entering g x c n r
  enters (Fuel f) q e = enters-book (EnterFuel f) (Fuel f) refl refl e
  enters (UnitRecord u) q e = enters-book (EnterUnit u) (UnitRecord u) refl refl e
  enters (Burn u) q e = enters-book (EnterBurn u) (Burn u) refl refl e
  enters (Strike k) q e = enters-book (StrikeUnit k) (Strike k) refl refl e
  enters (Load l) q e = enters-load l e
  enters (Yearly p) q e = enters-pair p e
  enters (Asked x) q e = absurd (both_ways true q refl)
