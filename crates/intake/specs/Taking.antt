-- What the intake makes of a record: its answer, book and methods afterwards, its phase and its index.
use Rattle.std.specs.Prelude.{◌≡◌, ℕ, Bool, cond, List, Some, None, Ok, Err, MatchBool, Option, Result}
use Rattle.book.specs.Seen.{Entered, Restarted, coming, seen}
use Rattle.book.specs.declared.books.Book.{Book}
use Rattle.model.specs.Calendar.{is_day}
use Rattle.model.specs.Faults.{new_fault}
use Rattle.model.specs.History.{year_book}
use Rattle.model.specs.Promise.{Promise}
use Rattle.model.specs.Records.{numbered_method, record_of}
use Rattle.model.specs.Shares.{Verdict}
use Rattle.model.specs.Streams.{is_question, margin_reply, next_index, refused as refused_with}
use Rattle.model.specs.Units.{Listed}
use Rattle.model.specs.declared.answers.CombinedMargin.{CombinedMargin}
use Rattle.model.specs.declared.answers.Reply.{Reply}
use Rattle.model.specs.declared.events.Event.{Event}
use Rattle.model.specs.declared.events.Event.TheVariants.{EnterBurn, EnterFuel, EnterUnit, Strike as StrikeUnit}
use Rattle.model.specs.declared.faults.BookFault.{BookFault}
use Rattle.model.specs.declared.faults.CombinedFault.{CombinedFault}
use Rattle.model.specs.declared.faults.Fault.{Fault}
use Rattle.model.specs.declared.faults.IntakeFault.{IntakeFault}
use Rattle.model.specs.declared.faults.Layer.TheVariants.{Combined, Intake as IntakeLayer}
use Rattle.model.specs.declared.faults.Rule.TheVariants.{AfterQuestion, NoSuchDay, OutOfRange, ShortOrForeignRecord}
use Rattle.model.specs.declared.records.LoadGroup.{LoadGroup}
use Rattle.model.specs.declared.records.MethodKind.{MethodKind}
use Rattle.model.specs.declared.records.Question.{Question}
use Rattle.model.specs.declared.records.Record.{Record}
use Rattle.model.specs.declared.records.Record.TheVariants.{Burn, Fuel, Load, Question as Asked, Strike, Unit as UnitRecord, Yearly}
use Rattle.model.specs.declared.records.YearlyPair.{YearlyPair}
use Rattle.intake.specs.declared.phases.Intake.{Intake}
use Rattle.intake.specs.declared.phases.Phase.{Phase}
use Rattle.intake.specs.declared.phases.Phase.TheVariants.{Answering, Gathering}

-- A question by a method: the promise of the combined margin at what the book holds.
pub record AsksBy (meaning : List Listed → Verdict) (may : List Listed → ℕ → Type 0) (distance : ℕ) (alone : Bool) (q : Question) (b c : Book) (r : Result Reply IntakeFault) : Type 0 where
  pub answer : Result CombinedMargin CombinedFault
  pub promise : Promise meaning may distance alone q.operating_weight q.build_weight q.reference (year_book (seen b)) (year_book (seen c)) (coming c) answer
  pub replied : r ≡ margin_reply answer

-- A question that goes to no method leaves the book as it was, restarted. The reference day is looked at before it is answered with s.
pub record AsksNone {A : Type 0} (s : Result A IntakeFault) (q : Question) (b c : Book) (r : Result A IntakeFault) : Type 0 where
  pub kept : seen c ≡ seen b
  pub restarted : Restarted c
  pub replied : r ≡ cond (is_day q.reference) s (refused_with (new_fault NoSuchDay Combined 0))

-- a layer's answer to an entry, as the intake's; x is the reply to one that was accepted
abbrev pub handed_on : {A E : Type 0} → A → (E → Fault) → Result (Unit {0}) E → Result A IntakeFault
handed_on x fault (Ok y) = Ok x
handed_on x fault (Err f) = refused_with (fault f)

-- A question ends the gathering, even one that is refused.
abbrev pub next_phase : Phase → Option Record → Phase
next_phase phase None = phase
next_phase phase (Some x) = cond (is_question x) Answering phase

-- ---- records

-- Book and methods are as they were, and r is the answer s.
pub record Leaves {M A : Type 0} (b c : Book) (m n : M) (r s : Result A IntakeFault) : Type 0 where
  pub book : c ≡ b
  pub methods : n ≡ m
  pub replied : r ≡ s

-- The book took the event, and its answer is handed on.
pub record EntersBook {M A : Type 0} (x : A) (v : Event) (b c : Book) (m n : M) (r : Result A IntakeFault) : Type 0 where
  pub verdict : Result (Unit {0}) BookFault
  pub entered : Entered v b c verdict
  pub methods : n ≡ m
  pub replied : r ≡ handed_on x (λ (f : BookFault). f.fault) verdict

-- The methods took the entry.
pub record EntersMethods {M A : Type 0} (enters : M → M → Result A IntakeFault → Type 0) (b c : Book) (m n : M) (r : Result A IntakeFault) : Type 0 where
  pub taken : enters m n r
  pub book : c ≡ b

abbrev pub AsksKind : {M A : Type 0} → (MethodKind → Question → M → Book → Book → Result A IntakeFault → Type 0)
    → Option MethodKind → Question → M → Book → Book → Result A IntakeFault → Type 0
AsksKind asks None q m b c r = AsksNone (refused_with (new_fault OutOfRange IntakeLayer 0)) q b c r
AsksKind asks (Some kind) q m b c r = asks kind q m b c r

-- A question changes no method.
pub record Questions {M A : Type 0} (asks : MethodKind → Question → M → Book → Book → Result A IntakeFault → Type 0) (q : Question) (b c : Book) (m n : M) (r : Result A IntakeFault) : Type 0 where
  pub asked : AsksKind asks (numbered_method q.method) q m b c r
  pub methods : n ≡ m

-- By the reply to an accepted entry, and by what the methods make of a group of loads, of a yearly pair and of a question by one of them.
module _ {M A : Type 0} (x : A) (loads : LoadGroup → M → M → Result A IntakeFault → Type 0) (pairs : YearlyPair → M → M → Result A IntakeFault → Type 0)
    (asks : MethodKind → Question → M → Book → Book → Result A IntakeFault → Type 0) where
  -- A record that was gathered.
  abbrev pub Gathers : Record → Book → Book → M → M → Result A IntakeFault → Type 0
  Gathers (Fuel f) b c m n r = EntersBook x (EnterFuel f) b c m n r
  Gathers (UnitRecord u) b c m n r = EntersBook x (EnterUnit u) b c m n r
  Gathers (Burn e) b c m n r = EntersBook x (EnterBurn e) b c m n r
  Gathers (Strike code) b c m n r = EntersBook x (StrikeUnit code) b c m n r
  Gathers (Load g) b c m n r = EntersMethods (loads g) b c m n r
  Gathers (Yearly p) b c m n r = EntersMethods (pairs p) b c m n r
  Gathers (Asked q) b c m n r = Questions asks q b c m n r

  -- After a question every record but a question is refused.
  abbrev pub TakesRecord : Phase → ℕ → Record → Book → Book → M → M → Result A IntakeFault → Type 0
  TakesRecord Gathering at y b c m n r = Gathers y b c m n r
  TakesRecord Answering at y b c m n r = MatchBool (is_question y) (Gathers y b c m n r) (Leaves b c m n r (refused_with (new_fault AfterQuestion IntakeLayer at)))

  abbrev pub Takes : Phase → ℕ → Option Record → Book → Book → M → M → Result A IntakeFault → Type 0
  Takes phase at None b c m n r = Leaves b c m n r (refused_with (new_fault ShortOrForeignRecord IntakeLayer at))
  Takes phase at (Some y) b c m n r = TakesRecord phase at y b c m n r

  -- What taking the bytes does to the intake, the book and the methods, and the answer.
  pub record Taken (before after : Intake) (b c : Book) (m n : M) (bytes : List ℕ) (r : Result A IntakeFault) : Type 0 where
    pub index : after.index ≡ next_index before.index
    pub phase : after.phase ≡ next_phase before.phase (record_of bytes)
    pub took : Takes before.phase before.index (record_of bytes) b c m n r
