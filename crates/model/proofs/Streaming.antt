-- Laws over whole streams of records.
use Rattle.std.proofs.Common.{◌≡◌, ℕ, Bool, true, false, cond, not, List, [], ◌∷◌, Some, None, fold, Option, sym, refl, ap, ◌∙◌}
use Rattle.std.proofs.lemmas.Bool.{and_right, both_ways, cond_both}
use Rattle.model.specs.declared.faults.Fault.{Fault}
use Rattle.model.specs.declared.records.Record.{Record}
use Rattle.model.specs.Records.{record_of}
use Rattle.model.specs.Streams.{Stand, StreamLaws, accepted, accepts, after_all, after_piece, after_read, after_record, if_accepted, is_question, put_in, refused_for}

stand-is : (s : Stand) (b : Bool) → s.asked ≡ b → record { gathered = s.gathered; asked = b } ≡ s
stand-is s b e = λ i. record { gathered = s.gathered; asked = sym e i }

-- no question is accepted, and nothing after one
question-not : (s : Stand) (x : Record) → is_question x ≡ true → accepts s x ≡ false
question-not s x q = rw q refl

ended-not : (s : Stand) (x : Record) → s.asked ≡ true → accepts s x ≡ false
ended-not s x a = and_right (not (is_question x)) _ (rw a refl)

-- what is refused is not accepted
refused-not : (s : Stand) (x : Record) (at : ℕ) (f : Fault) → refused_for at s x ≡ Some f → accepts s x ≡ false
refused-not s x at f =
    cond_both s.asked _ _ (λ o. o ≡ Some f → accepts s x ≡ false)
    (λ a _. ended-not s x a)
    (λ a e. and_right (not (is_question x)) _ (and_right (not s.asked) _ (rw e refl)))

-- a record that is not accepted, and no question
left_alone : (s : Stand) (x : Record) → is_question x ≡ false → accepts s x ≡ false → after_record s x ≡ s
left_alone s x q a = rw (a, q) refl

-- ---- entries

gathers : (s : Stand) (x : Record) (q a : Bool) → is_question x ≡ q → accepts s x ≡ a → (later : List Record)
    → fold put_in (after_record s x).gathered later ≡ fold put_in s.gathered (cond a (x ∷ later) later)
gathers s x true true q a later = absurd (both_ways (accepts s x) (question-not s x q) a)
gathers s x true false q a later = rw q refl
gathers s x false true q a later = rw (a, q) refl
gathers s x false false q a later = rw (a, q) refl

read-gathers : (s : Stand) (o : Option Record) (later : List Record) → fold put_in (after_read s o).gathered later ≡ fold put_in s.gathered (if_accepted s o later)
read-gathers s None later = refl
read-gathers s (Some x) later = gathers s x (is_question x) (accepts s x) refl refl later

entries : (s : Stand) (ps : List (List ℕ)) → (after_all s ps).gathered ≡ fold put_in s.gathered (accepted s ps)
entries s [] = refl
entries s (p ∷ ps) = entries (after_piece s p) ps ∙ read-gathers s (record_of p) (accepted (after_piece s p) ps)

-- ---- after a question

ended-record : (s : Stand) (x : Record) → s.asked ≡ true → after_record s x ≡ s
ended-record s x a =
    cond_both (is_question x) _ _ (λ t. t ≡ s) (λ _. stand-is s true a) (λ q. rw (ended-not s x a) refl)

ended-read : (s : Stand) (o : Option Record) → s.asked ≡ true → after_read s o ≡ s
ended-read s None a = refl
ended-read s (Some x) a = ended-record s x a

ended : (s : Stand) (ps : List (List ℕ)) → s.asked ≡ true → after_all s ps ≡ s
ended s [] a = refl
ended s (p ∷ ps) a = ap (λ t. after_all t ps) (ended-read s (record_of p) a) ∙ ended s ps a

pub stream-laws : StreamLaws
stream-laws =
    record {
      entries = entries;
      ended = ended;
      foreign = λ s bytes e. ap (after_read s) e;
      refusals = λ s bytes x at f e q r. ap (after_read s) e ∙ left_alone s x q (refused-not s x at f r);
    }
