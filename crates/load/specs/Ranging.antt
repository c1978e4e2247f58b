-- What a load year answers with is a load.
use Rattle.std.specs.Prelude.{◌≡◌, ℕ, ◌+◌, ◌≤◌, true, Ok, Err, ◌≢◌, ◌&&◌, List, length, nat_le, nat_lt, slice_index_or, refl}
use Rattle.std.proofs.Common.{inl, inr}
use Rattle.std.proofs.lemmas.Bool.{cases_Bool, leb-true}
use Rattle.model.specs.declared.faults.Fault.{Fault}
use Rattle.model.specs.declared.faults.LoadFault.{LoadFault}
use Rattle.model.specs.LoadYears.{Hour, most_load, fails, hour_answer, is_load, list_year, load, load_at, summed}
use Rattle.model.proofs.LowCost.{load-laws}

pub fault-no-load : (f : Fault) (n : ℕ) → fails f ≢ load n
fault-no-load f n e = cc

pub answered-load : (a : Hour) (n : ℕ) → Ok n ≡ hour_answer a → a ≡ load n
answered-load (load m) n e = cc
answered-load (fails f) n e = cc

pub answered-fault : (a : Hour) (f : LoadFault) → Err f ≡ hour_answer a → a ≡ fails f.fault
answered-fault (load m) f e = cc
answered-fault (fails k) f e = cc

-- every load that the hour may have is one
abbrev pub Ranged : Hour → Type 0
Ranged a = (n : ℕ) → a ≡ load n → is_load n ≡ true

pub answered-cap : (a : Hour) (n : ℕ) → Ranged a → Ok n ≡ hour_answer a → n ≤ most_load
answered-cap a n ranged e = load-laws.cap n (ranged n (answered-load a n e))

pub summed-ranged : (h : ℕ) (a b : Hour) → Ranged a → Ranged b → Ranged (summed h a b)
summed-ranged h (fails f) b p q n e = cc
summed-ranged h (load k) (fails f) p q n e = cc
summed-ranged h (load k) (load m) p q n e =
    elim (cases_Bool (nat_le (k + m) most_load)) [
      | inl low ↦
          let is : load (k + m) ≡ load n = rw low at e in
          let same : k + m ≡ n = cc in
          rw (← same) (load-laws.sum k m (p k refl) (q m refl) (leb-true (k + m) most_load low))
      | inr high ↦ let not : fails _ ≡ load n = rw high at e in cc
    ]

-- a number of a list is a load where the list has one
at-ranged : (h m : ℕ) → Ranged (load_at h m)
unfolding is_load
at-ranged h m n e =
    elim (cases_Bool (nat_le m most_load)) [
      | inl low ↦ let is : load m ≡ load n = rw low at e in let same : m ≡ n = cc in rw (← same) low
      | inr high ↦ let not : fails _ ≡ load n = rw high at e in cc
    ]

pub list-ranged : (hours h : ℕ) (ns : List ℕ) → Ranged (list_year hours ns h)
list-ranged hours h ns n e =
    elim (cases_Bool (nat_lt h hours && nat_lt h (length ns))) [
      | inl there ↦ at-ranged h (slice_index_or ns h 0) n (rw there at e)
      | inr past ↦ let not : fails _ ≡ load n = rw past at e in cc
    ]
