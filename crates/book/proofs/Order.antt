-- The order of the units, as a test.
use Rattle.std.proofs.Common.{◌≡◌, ℕ, zero, suc, ◌<◌, Bool, true, false, ◌&&◌, ◌||◌, eqb, ltb, List, [], ◌∷◌, map, length, get_or, arith}
use Rattle.std.specs.Bool.{Decides}
use Rattle.std.specs.List.Sorted.{IsPartitionedBy}
use Rattle.std.proofs.ByRecursion.{All-get_or}
use Rattle.std.proofs.lemmas.Bool.Decides.{nat_tests}
use Rattle.std.proofs.lemmas.List.{get_or-map, length-map}
use Rattle.model.specs.Plain.{Before, Ordered}
use Rattle.model.specs.Units.{Standing}

-- u stands before v
abbrev pub ahead : Standing → Standing → Bool
ahead u v = ltb v.entry.day u.entry.day || (eqb u.entry.day v.entry.day && ltb u.entry.code v.entry.code)

pub ahead-before : (u v : Standing) → Decides (ahead u v) (Before u v)
ahead-before u v = (λ h. grind (arith, nat_tests, h), λ h. grind (arith, nat_tests, h.0, h.1))

pub ahead-not : (u v : Standing) → ahead u v ≡ false → Before u v → ⊥
ahead-not u v e b = let h = (ahead-before u v).1 b in absurd (cc)

before-more : (t u v : Standing) → Before t u → ahead u v ≡ true → ahead t v ≡ true
before-more t u v b h = let k = (ahead-before u v).0 h in (ahead-before t v).1 (omega (arith, b.0, b.1, k.0, k.1), λ e. omega (arith, e, b.0, b.1, k.0, k.1))

-- what holds of every place of the list holds of the mapped list's
pub at-map : {X Y : Type 0} (f : X → Y) (P : Y → Type 0) (xs : List X) (k : ℕ) (e : Y) → k < length xs → ((d : X) → P (f (get_or xs k d))) → P (get_or (map f xs) k e)
at-map f P [] k e l h = absurd (omega arith)
at-map f P (x ∷ xs) zero e l h = h x
at-map f P (x ∷ xs) (suc k) e l h = at-map f P xs k e (omega arith) h

-- in a list in order, those before v come first
pub ahead-parted : {X : Type 0} (f : X → Standing) (v : Standing) (xs : List X) → Ordered (map f xs) → IsPartitionedBy (λ x. ahead (f x) v) xs
ahead-parted f v [] o i j d le l h = absurd (omega arith)
ahead-parted f v (x ∷ xs) o zero zero d le l h = h
ahead-parted f v (x ∷ xs) o (suc i) zero d le l h = absurd (omega arith)
ahead-parted f v (x ∷ xs) o zero (suc j) d le l h =
    let k : j < length xs = omega arith in
    before-more (f x) (f (get_or xs j d)) v (rw (get_or-map f xs j d (f x) k) at (All-get_or (Before (f x)) (map f xs) j (f x) (omega (arith, length-map xs f)) o.0)) h
ahead-parted f v (x ∷ xs) o (suc i) (suc j) d le l h = ahead-parted f v xs o.1 i j d (omega arith) (omega arith) h
