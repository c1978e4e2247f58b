-- Reading a year hour by hour.
use Rattle.std.proofs.Common.{◌≡◌, ℕ, zero, suc, ◌+◌, ◌<◌, ◌≤◌, List, [], ◌∷◌, ◌++◌, length, take, set, Some, None, Ok, Err, Option, Result, sym, refl, ap, ◌∙◌, add-zero, zero-add, add-one, arith}
use Rattle.std.specs.List.{AllByRecursion}
use Rattle.std.proofs.lemmas.List.{length-set, take_all, take_more_set}
use Rattle.model.specs.declared.faults.Fault.{Fault}
use Rattle.model.specs.declared.faults.LoadFault.{LoadFault}
use Rattle.model.specs.Faults.{unless_refused}
use Rattle.model.specs.LoadYears.{Hour, most_load, fails, first_fault, hour_answer, hour_fault, load, load_of, loads_from, read_year}
use Rattle.model.proofs.LowCost.{load-laws}
use Rattle.load.specs.Ranging.{Ranged, answered-fault, answered-load}

fault-after : (a : Hour) (x y : Option Fault) → hour_fault a x ≡ None → (x ≡ None → y ≡ None) → hour_fault a y ≡ None
fault-after (load n) x y e k = k e
fault-after (fails f) x y e k = cc

fault-ahead : (a : Hour) (x y : Option Fault) (f : Fault) → hour_fault a x ≡ None → (x ≡ None → y ≡ Some f) → hour_fault a y ≡ Some f
fault-ahead (load n) x y f e k = k e
fault-ahead (fails e) x y f is k = cc

sound-parts : (a : Hour) (x : Option Fault) → hour_fault a x ≡ None → (a ≡ load (load_of a)) × (x ≡ None)
sound-parts (load n) x e = (refl, e)
sound-parts (fails f) x e = (cc, cc)

abbrev answer : Option Fault → List ℕ → Result (List ℕ) LoadFault
answer o loads = unless_refused (λ f. record { fault = f }) o loads

answered-whole : (o : Option Fault) (ls ms : List ℕ) → Ok ls ≡ answer o ms → (o ≡ None) × (ls ≡ ms)
answered-whole None ls ms e = (refl, cc)
answered-whole (Some f) ls ms e = (cc, cc)

answered-refused : (o : Option Fault) (f : LoadFault) (ms : List ℕ) → Err f ≡ answer o ms → o ≡ Some f.fault
answered-refused None f ms e = cc
answered-refused (Some k) f ms e = cc

module _ (year : ℕ → Hour) where
  -- one hour more without a fault
  fault-more : (n h m : ℕ) → first_fault year h n ≡ None → year (h + n) ≡ load m → first_fault year h (suc n) ≡ None
  fault-more zero h m none is = let here : year h ≡ load m = rw add-zero at is in rw here refl
  fault-more (suc n) h m none is =
      let there : year (h + 1 + n) ≡ load m = ap year (omega arith) ∙ is in
      fault-after (year h) (first_fault year (h + 1) n) (first_fault year (h + 1) (suc n)) none (λ e. fault-more n (h + 1) m e there)

  -- the first fault is that of the hour after those that have none
  fault-here : (n h k : ℕ) (f : Fault) → first_fault year h n ≡ None → year (h + n) ≡ fails f → n < k → first_fault year h k ≡ Some f
  fault-here n h zero f none is lt = absurd (omega arith)
  fault-here zero h (suc k) f none is lt = let here : year h ≡ fails f = rw add-zero at is in rw here refl
  fault-here (suc n) h (suc k) f none is lt =
      let there : year (h + 1 + n) ≡ fails f = ap year (omega arith) ∙ is in
      fault-ahead (year h) (first_fault year (h + 1) n) (first_fault year (h + 1) k) f none (λ e. fault-here n (h + 1) k f e there (omega arith))

  loads-more : (n h : ℕ) → loads_from year h (suc n) ≡ loads_from year h n ++ load_of (year (h + n)) ∷ []
  loads-more zero h = rw add-zero refl
  loads-more (suc n) h =
      ap (λ ls. load_of (year h) ∷ ls) (loads-more n (h + 1) ∙ ap (λ k. loads_from year (h + 1) n ++ load_of (year k) ∷ []) (omega arith))

  -- the first n hours have no fault, and their loads stand in front
  pub record Read (hours n : ℕ) (loads : List ℕ) : Type 0 where
    pub long : length loads ≡ hours
    pub sound : first_fault year 0 n ≡ None
    pub front : take n loads ≡ loads_from year 0 n

  pub read_more : (hours n m : ℕ) (loads : List ℕ) → n < hours → Read hours n loads → Ok m ≡ hour_answer (year n) → Read hours (n + 1) (set loads n m)
  read_more hours n m loads lt r e =
      let is : year (0 + n) ≡ load m = rw zero-add (answered-load (year n) m e) in
      record {
        long = length-set loads n m ∙ r.long;
        sound = rw add-one (fault-more n 0 m r.sound is);
        front = take_more_set loads n m (omega (arith, r.long)) ∙ rw (r.front, add-one) (ap (λ a. loads_from year 0 n ++ load_of a ∷ []) (sym is) ∙ sym (loads-more n 0));
      }

  pub read-fault : (hours n : ℕ) (loads : List ℕ) (f : LoadFault) → n < hours → Read hours n loads → Err f ≡ hour_answer (year n) → Err f ≡ read_year year hours
  unfolding read_year
  read-fault hours n loads f lt r e =
      let is : year (0 + n) ≡ fails f.fault = rw zero-add (answered-fault (year n) f e) in
      rw (fault-here n 0 hours f.fault r.sound is lt) refl

  pub read_all : (hours n : ℕ) (loads : List ℕ) → n ≡ hours → Read hours n loads → Ok loads ≡ read_year year hours
  unfolding read_year
  read_all hours n loads all r =
      let none : first_fault year 0 hours ≡ None = rw all at r.sound in
      let whole : loads ≡ loads_from year 0 hours = sym (take_all hours loads (omega (arith, r.long))) ∙ (rw all at r.front) in
      rw none (ap Ok whole)

  -- ---- what a year that was read tells

  pub length-loads : (n h : ℕ) → length (loads_from year h n) ≡ n
  length-loads zero h = refl
  length-loads (suc n) h = ap suc (length-loads n (h + 1))

  pub loads-capped : ((h : ℕ) → Ranged (year h)) → (n h : ℕ) → first_fault year h n ≡ None → AllByRecursion (λ l. l ≤ most_load) (loads_from year h n)
  loads-capped ranged zero h none = tt
  loads-capped ranged (suc n) h none =
      let parts = sound-parts (year h) (first_fault year (h + 1) n) none in
      (load-laws.cap _ (ranged h _ parts.0), loads-capped ranged n (h + 1) parts.1)

  pub read_whole : (hours : ℕ) (loads : List ℕ) → Ok loads ≡ read_year year hours → (first_fault year 0 hours ≡ None) × (loads ≡ loads_from year 0 hours)
  unfolding read_year
  read_whole hours loads e = answered-whole (first_fault year 0 hours) loads (loads_from year 0 hours) e

  pub read-refused : (hours : ℕ) (f : LoadFault) → Err f ≡ read_year year hours → first_fault year 0 hours ≡ Some f.fault
  unfolding read_year
  read-refused hours f e = answered-refused (first_fault year 0 hours) f (loads_from year 0 hours) e
