-- What an entry or a strike owes, from the life of the book's contents.
use Rattle.std.proofs.Common.{◌≡◌, ℕ, suc, ◌<◌, List, [], ◌∷◌, ◌++◌, map, length, get_or, take, drop, set, Ok, Err, Result, sym, refl, ap, ◌∙◌}
use mathlib.Core.List.{map-append}
use Rattle.std.specs.List.{insert, remove}
use Rattle.std.specs.Result.{IsErrAnd}
use Rattle.std.proofs.lemmas.List.{drop-map, length-map, map-set, take-map}
use Rattle.std.proofs.lemmas.Result.{err_from_is_err_and}
use Rattle.model.specs.declared.events.Event.{Event}
use Rattle.model.specs.declared.events.Event.TheVariants.{EnterBurn, EnterUnit, Strike}
use Rattle.model.specs.declared.faults.BookFault.{BookFault}
use Rattle.model.specs.declared.units.Burn.{Burn}
use Rattle.model.specs.declared.units.BurnEntry.{BurnEntry}
use Rattle.model.specs.declared.units.Fuel.{Fuel}
use Rattle.model.specs.declared.units.UnitEntry.{UnitEntry}
use Rattle.model.specs.Course.{told_course}
use Rattle.model.specs.History.{year_book}
use Rattle.model.specs.Plain.{Contents, book_course, burn_of, no_unit, verdict}
use Rattle.model.proofs.Lives as plain
use Rattle.model.proofs.Lives.{Quiet, lives-burn, lives-quiet, lives-refused, lives-strike, lives-unit, told}
use Rattle.book.specs.declared.books.Book.{Book}
use Rattle.book.specs.declared.standing.StandingUnit.{StandingUnit}
use Rattle.book.specs.Seen.{Entered, Lives, Restarted, coming, seen}
use Rattle.book.specs.Standing.{GoesTo, StandsAt, fresh, standing}
use Rattle.book.proofs.Read.{read-unit}

pub restarted : (b : Book) → b.at ≡ 0 → Restarted b
restarted b e = ap (λ n. told_course (book_course (drop n (seen b).units))) e

pub accepting : (v : Event) (b c : Book) → Ok tt ≡ verdict (seen b) v → Lives v b c → c.at ≡ 0 → Entered v b c (Ok tt)
accepting v b c is lives start =
    record { answer = is; told = told v (seen b) (Ok tt) is; life = lives; changes = record { restarted = restarted c start; refusal = tt } }

pub refusing : (v : Event) (b : Book) (f : BookFault) (r : Result (Unit {0}) BookFault) → IsErrAnd r (λ g. g ≡ f) → Err f ≡ verdict (seen b) v → Entered v b b r
refusing v b f r gone is =
    let e = err_from_is_err_and r gone in
    rw (e.1, e.2) record { answer = is; told = told v (seen b) (Err f) is; life = lives-refused v (seen b) f is; changes = record { restarted = tt; refusal = refl } }

map-inserted : {X Y : Type 0} (f : X → Y) (xs : List X) (i : ℕ) (x : X) → map f (insert xs i x) ≡ insert (map f xs) i (f x)
map-inserted f xs i x = map-append f (take i xs) (x ∷ drop i xs) ∙ rw (take-map f i xs, drop-map f i xs) refl

map-removed : {X Y : Type 0} (f : X → Y) (xs : List X) (i : ℕ) → map f (remove xs i) ≡ remove (map f xs) i
map-removed f xs i = map-append f (take i xs) (drop (suc i) xs) ∙ rw (take-map f i xs, drop-map f (suc i) xs) refl

-- ---- the life of the contents, from what the table becomes

abbrev holds : List Fuel → List StandingUnit → Contents
holds fs xs = record { fuels = fs; units = map standing xs }

pub unit-entered : (fs : List Fuel) (xs ys : List StandingUnit) (i : ℕ) (e : UnitEntry) (u : StandingUnit) → Ok tt ≡ verdict (holds fs xs) (EnterUnit e) → ys ≡ insert xs i u → standing u ≡ fresh e → GoesTo e (map standing xs) i → plain.Lives (EnterUnit e) (holds fs xs) (holds fs ys)
unit-entered fs xs ys i e u is made new at =
    lives-unit (holds fs xs) (map standing ys) i e is
    (ap (map standing) made ∙ map-inserted standing xs i u ∙ ap (insert (map standing xs) i) new) at.newer at.stops at.bound

-- u is the unit as it stood, and w with the burn
pub burn-entered : (fs : List Fuel) (xs : List StandingUnit) (i : ℕ) (e : BurnEntry) (u w : StandingUnit) (b : Burn) → Ok tt ≡ verdict (holds fs xs) (EnterBurn e) → StandsAt e.unit (map standing xs) i → u ≡ get_or xs i u → b ≡ burn_of (holds fs xs) e → standing w ≡ record { entry = (standing u).entry; burns = (standing u).burns ++ b ∷ [] } → plain.Lives (EnterBurn e) (holds fs xs) (holds fs (set xs i w))
burn-entered fs xs i e u w b is at read burn new =
    let l : i < length xs = rw length-map at at.within in
    let k : map standing (set xs i w) ≡ set (map standing xs) i (record { entry = (get_or (map standing xs) i no_unit).entry; burns = (get_or (map standing xs) i no_unit).burns ++ burn_of (holds fs xs) e ∷ [] }) = map-set standing xs i w ∙ rw (read-unit xs i u l read, ← burn) (ap (set (map standing xs) i) new) in
    lives-burn (holds fs xs) (map standing (set xs i w)) i e is at.within at.coded k

pub unit-struck : (fs : List Fuel) (xs ys : List StandingUnit) (i c : ℕ) → Ok tt ≡ verdict (holds fs xs) (Strike c) → StandsAt c (map standing xs) i → ys ≡ remove xs i → plain.Lives (Strike c) (holds fs xs) (holds fs ys)
unit-struck fs xs ys i c is at made = lives-strike (holds fs xs) (map standing ys) i c is at.within at.coded (ap (map standing) made ∙ map-removed standing xs i)

-- ---- what leaves the contents

pub kept-contents : (p q : Contents) → year_book q ≡ year_book p → q ≡ p
kept-contents p q e = cc

pub lives-kept : (v : Event) → Quiet v → (p q : Contents) → year_book q ≡ year_book p → plain.Lives v p q
lives-kept v quiet p q e = rw (kept-contents p q e) (lives-quiet v quiet p)

pub restarted-kept : (b c : Book) → year_book (seen c) ≡ year_book (seen b) → coming c ≡ told_course (book_course (seen b).units) → Restarted c
restarted-kept b c e whole = whole ∙ ap (λ (p : Contents). told_course (book_course p.units)) (sym (kept-contents (seen b) (seen c) e))
