-- What `any`, `find` and `position` answer, in the words of the plain book.
use Rattle.std.proofs.Common.{◌≡◌, ℕ, ◌<◌, Bool, true, ltb, List, [], ◌∷◌, map, get_or, find, length, is_some, IfSome, sym, refl, zero-add, one-add, ◌∙◌, inl, inr, arith}
use Rattle.std.specs.List.{list_any, position, position_or_len}
use Rattle.std.proofs.lemmas.Bool.{cases_Bool, lt-ltb, ltb-true}
use Rattle.std.proofs.lemmas.Bool.Decides.{nat_tests}
use Rattle.std.proofs.lemmas.List.{length-map}
use Rattle.model.specs.Plain.{any, first_by, is_unit, no_unit}
use Rattle.model.specs.Units.{Standing}
use Rattle.model.proofs.Firsts.{count-cons}
use Rattle.book.specs.Standing.{StandsAt}

pub any-listed : {A : Type 0} (p : A → Bool) (xs : List A) → list_any p xs ≡ any p xs
any-listed p [] = refl
any-listed p (x ∷ xs) =
    let s = count-cons p x xs in
    let h = any-listed p xs in
    elim (cases_Bool (p x)) [ inl e ↦ rw (s, e) (sym (lt-ltb 0 _ (omega arith))) | inr e ↦ rw (s, e, zero-add) h ]

pub find-any : {A : Type 0} (p : A → Bool) (xs : List A) → is_some (find p xs) ≡ any p xs
find-any p [] = refl
find-any p (x ∷ xs) =
    let s = count-cons p x xs in
    let h = find-any p xs in
    elim (cases_Bool (p x)) [ inl e ↦ rw (s, e) (sym (lt-ltb 0 _ (omega arith))) | inr e ↦ rw (s, e, zero-add) h ]

pub find-first : {A : Type 0} (p : A → Bool) (d : A) (xs : List A) → IfSome (find p xs) (λ x. x ≡ first_by p d xs)
find-first p d [] = tt
find-first p d (x ∷ xs) =
    let h = find-first p d xs in
    elim (cases_Bool (p x)) [ inl e ↦ rw e refl | inr e ↦ rw e h ]

-- ---- the place of the first

some-place : {A : Type 0} (p : A → Bool) (xs : List A) → ltb (position_or_len p xs) (length xs) ≡ any p xs
some-place p [] = refl
some-place p (x ∷ xs) =
    let s = count-cons p x xs in
    let h = some-place p xs in
    elim (cases_Bool (p x)) [ inl e ↦ rw (s, e) (grind (arith, nat_tests)) | inr e ↦ rw (s, e, zero-add) (grind (arith, nat_tests, h)) ]

pub position-any : {A : Type 0} (p : A → Bool) (xs : List A) → is_some (position p xs) ≡ any p xs
position-any p xs = elim (cases_Bool (ltb (position_or_len p xs) (length xs))) [ inl e ↦ rw e (sym e ∙ some-place p xs) | inr e ↦ rw e (sym e ∙ some-place p xs) ]

first-place : {A : Type 0} (p : A → Bool) (d : A) (xs : List A) → position_or_len p xs < length xs → (p (get_or xs (position_or_len p xs) d) ≡ true) × (first_by p d xs ≡ get_or xs (position_or_len p xs) d)
first-place p d [] l = absurd (omega arith)
first-place p d (x ∷ xs) l =
    elim (cases_Bool (p x)) [ inl e ↦ rw e (e, refl) | inr e ↦ let k = rw e at l in rw (e, one-add) (first-place p d xs (omega (arith, k))) ]

pub position-stands : (c : ℕ) (us : List Standing) → IfSome (position (is_unit c) us) (StandsAt c us)
position-stands c us =
    let i = position_or_len (is_unit c) us in
    elim (cases_Bool (ltb i (length us))) [
      | inl e ↦ let l = ltb-true i (length us) e in let f = first-place (is_unit c) no_unit us l in rw e record { within = l; coded = f.0; is = f.1 }
      | inr e ↦ rw e tt
    ]

position_or_len-map : {A B : Type 0} (p : B → Bool) (f : A → B) (xs : List A) → position_or_len p (map f xs) ≡ position_or_len (λ x. p (f x)) xs
position_or_len-map p f [] = refl
position_or_len-map p f (x ∷ xs) = let h = position_or_len-map p f xs in rw h refl

pub position-map : {A B : Type 0} (p : B → Bool) (f : A → B) (xs : List A) → position p (map f xs) ≡ position (λ x. p (f x)) xs
position-map p f xs = rw (position_or_len-map p f xs, length-map xs f) refl
