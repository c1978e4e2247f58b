-- The merge in words, and that the words pin it.
use Rattle.std.proofs.Common.{◌≡◌, ℕ, ◌<◌, ◌≤◌, cond, eqb, List, [], ◌∷◌, ◌++◌, sym, refl, ap, ◌∙◌, inl, inr, append-nil, arith}
use Rattle.std.proofs.ByRecursion.{All-weaker}
use Rattle.std.proofs.lemmas.Bool.{cases_lt, cond_both, eq-eqb, eqb-true, leb-false, ne_eqb}
use Rattle.std.specs.List.{AllByRecursion}
use Rattle.model.specs.Course.{proper}
use Rattle.model.specs.Merge.{MergeIsInWords, OneMerge, merged, of_day}
use Rattle.model.specs.Units.{Falling, Listed}
use Rattle.model.proofs.Merging.{falling-merged, merged-follows}

-- older units have nothing of a later day
none-of-day : (d : ℕ) (us : List Listed) → AllByRecursion (λ v. v.day < d) us → of_day d us ≡ []
none-of-day d [] h = refl
none-of-day d (u ∷ us) h = rw (ne_eqb u.day d (λ e. omega (arith, e, h.0))) (none-of-day d us h.1)

-- one unit more in front
of-day-more : (d : ℕ) (u : Listed) (us vs : List Listed) → of_day d us ≡ vs → of_day d (u ∷ us) ≡ cond (eqb u.day d) (u ∷ vs) vs
of-day-more d u us vs e = ap (λ ws. cond (eqb u.day d) (u ∷ ws) ws) e

-- a unit goes past older ones
past : (d : ℕ) (y : Listed) (us vs : List Listed) → AllByRecursion (λ v. v.day < y.day) us
    → cond (eqb y.day d) (y ∷ (of_day d us ++ vs)) (of_day d us ++ vs) ≡ of_day d us ++ cond (eqb y.day d) (y ∷ vs) vs
past d y us vs older =
    cond_both (eqb y.day d) (y ∷ (of_day d us ++ vs)) (of_day d us ++ vs) (λ ws. ws ≡ of_day d us ++ cond (eqb y.day d) (y ∷ vs) vs)
    (λ t. let e = eqb-true y.day d t in rw (t, none-of-day d us (All-weaker (λ (v : Listed). v.day < y.day) (λ v. v.day < d) (λ v k. omega (arith, e, k)) us older)) refl)
    (λ t. rw t refl)

merged-days : (d : ℕ) (xs ys : List Listed) → Falling xs → Falling ys → of_day d (merged (λ (u : Listed). u.day) xs proper ys proper).units ≡ of_day d xs ++ of_day d ys
merged-days d =
    merged-follows (λ u. u.day) proper proper (λ xs ys m. Falling xs → Falling ys → of_day d m.units ≡ of_day d xs ++ of_day d ys)
    (λ ys p q. refl)
    (λ x xs p q. sym (append-nil (of_day d (x ∷ xs))))
    (λ x y xs ys m t ih p q.
    of-day-more d x m.units _ (ih p.1 q)
    ∙ cond_both (eqb x.day d) (x ∷ of_day d xs) (of_day d xs)
    (λ ws. cond (eqb x.day d) (x ∷ (of_day d xs ++ of_day d (y ∷ ys))) (of_day d xs ++ of_day d (y ∷ ys)) ≡ ws ++ of_day d (y ∷ ys))
    (λ s. rw s refl) (λ s. rw s refl))
    (λ x y xs ys m t ih p q.
    let newer = leb-false y.day x.day t in
    of-day-more d y m.units _ (ih p q.1)
    ∙ past d y (x ∷ xs) (of_day d ys) (newer, All-weaker (λ (v : Listed). v.day ≤ x.day) (λ v. v.day < y.day) (λ v k. omega (arith, newer, k)) xs p.0))

pub merge-is-in-words : MergeIsInWords
merge-is-in-words xs ys p q =
    record { falls = falling-merged (record { units = xs; ending = proper }) (record { units = ys; ending = proper }) p q; days = λ d. merged-days d xs ys p q }

-- ---- falling lists with the same units of every day are equal

-- its first unit is the first of its day
leads : (u : Listed) (us : List Listed) → of_day u.day (u ∷ us) ≡ u ∷ of_day u.day us
leads u us = rw (eq-eqb u.day u.day refl) refl

older : (d : ℕ) (u : Listed) (us : List Listed) → Falling (u ∷ us) → u.day < d → of_day d (u ∷ us) ≡ []
older d u us p h = none-of-day d (u ∷ us) (h, All-weaker (λ (v : Listed). v.day ≤ u.day) (λ v. v.day < d) (λ v k. omega (arith, h, k)) us p.0)

nothing-leads : {u : Listed} {us vs : List Listed} → vs ≡ [] → vs ≡ u ∷ us → ⊥
nothing-leads p q = let z : ◌≡◌ {A = ℕ} 0 1 = cc in omega arith

heads : {u v : Listed} {us vs : List Listed} → u ∷ us ≡ v ∷ vs → u ≡ v
heads e = cc

tails : {u v : Listed} {us vs : List Listed} → u ∷ us ≡ v ∷ vs → us ≡ vs
tails e = cc

-- without a common first unit
rest : (d : ℕ) (u : Listed) (us vs : List Listed) → of_day d (u ∷ us) ≡ of_day d (u ∷ vs) → of_day d us ≡ of_day d vs
rest d u us vs =
    cond_both (eqb u.day d) (u ∷ of_day d us) (of_day d us)
    (λ ws. ws ≡ of_day d (u ∷ vs) → of_day d us ≡ of_day d vs)
    (λ t e. tails {v = u} {vs = of_day d vs} (e ∙ rw t refl)) (λ t e. e ∙ rw t refl)

same-days : (us vs : List Listed) → Falling us → Falling vs → ((d : ℕ) → of_day d us ≡ of_day d vs) → us ≡ vs
same-days [] [] p q h = refl
same-days [] (v ∷ vs) p q h = absurd (nothing-leads refl (h v.day ∙ leads v vs))
same-days (u ∷ us) [] p q h = absurd (nothing-leads refl (sym (h u.day) ∙ leads u us))
same-days (u ∷ us) (v ∷ vs) p q h =
    elim (cases_lt u.day v.day) [
      | inl less ↦ absurd (nothing-leads (older v.day u us p less) (h v.day ∙ leads v vs))
      | inr not-less ↦ elim (cases_lt v.day u.day) [
        | inl less ↦ absurd (nothing-leads (older u.day v vs q less) (sym (h u.day) ∙ leads u us))
        | inr not_more ↦
            let day : u.day ≡ v.day = omega (arith, not-less, not_more) in
            let first : u ≡ v = heads {us = of_day u.day us} {vs = of_day v.day vs} (sym (leads u us) ∙ (h u.day ∙ (ap (λ d. of_day d (v ∷ vs)) day ∙ leads v vs))) in
            let same : (d : ℕ) → of_day d us ≡ of_day d vs = λ d. rest d u us vs (h d ∙ ap (λ w. of_day d (w ∷ vs)) (sym first)) in
            ap (λ w. w ∷ us) first ∙ ap (λ ws. v ∷ ws) (same-days us vs p.1 q.1 same)
      ]
    ]

pub one_merge : OneMerge
one_merge xs ys zs ws a b = same-days zs ws a.falls b.falls (λ d. a.days d ∙ sym (b.days d))
