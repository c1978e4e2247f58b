-- What holds of a course with one unit more at its end.
use Rattle.std.proofs.Common.{◌≡◌, ◌≤◌, List, [], ◌∷◌, ◌++◌, map, refl, arith}
use Rattle.std.proofs.ByRecursion.{All-push}
use Rattle.std.proofs.lemmas.List.{map-append}
use Rattle.model.specs.Course.{Course, Ending, faulty, proper, told_course}
use Rattle.model.specs.Merge.{lastly, with_last}
use Rattle.model.specs.Units.{Falling, InRange, Listed, Ranged, told}
use Rattle.model.specs.declared.units.PowerUnit.{PowerUnit}

ranged-lastly : (u : Listed) (us : List Listed) (e : Ending) → Ranged us → InRange u → Ranged (lastly u us e).units
ranged-lastly u us proper p q = All-push InRange us u p q
ranged-lastly u us (faulty _) p q = p

pub ranged-last : (u : Listed) (c : Course Listed) → Ranged c.units → InRange u → Ranged (with_last u c).units
ranged-last u c p q = ranged-lastly u c.units c.ending p q

falling-push : (us : List Listed) (u : Listed) → Falling us → u.day ≡ 0 → Falling (us ++ (u ∷ []))
falling-push [] u p z = (tt, tt)
falling-push (x ∷ us) u p z = (All-push (λ v. v.day ≤ x.day) us u p.0 (omega arith), falling-push us u p.1 z)

falling-lastly : (u : Listed) (us : List Listed) (e : Ending) → Falling us → u.day ≡ 0 → Falling (lastly u us e).units
falling-lastly u us proper p z = falling-push us u p z
falling-lastly u us (faulty _) p z = p

pub falling-last : (u : Listed) (c : Course Listed) → Falling c.units → u.day ≡ 0 → Falling (with_last u c).units
falling-last u c p z = falling-lastly u c.units c.ending p z

told-lastly : (u : Listed) (us : List Listed) (e : Ending) → lastly (told u) (map told us) e ≡ told_course (lastly u us e)
told-lastly u us proper = rw map-append
told-lastly u us (faulty _) = refl

told-last : (u : Listed) (c : Course Listed) → with_last (told u) (told_course c) ≡ told_course (with_last u c)
told-last u c = told-lastly u c.units c.ending

pub last-restarted : {c' : Course PowerUnit} (u : Listed) (c : Course Listed) → c' ≡ told_course c → with_last (told u) c' ≡ told_course (with_last u c)
last-restarted u c p = rw p (told-last u c)
