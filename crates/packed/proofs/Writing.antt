-- The loop that writes records: those written so far stand in front, and behind them the buffer is as it was.
use Rattle.std.proofs.Common.{◌≡◌, ℕ, ◌+◌, ◌*◌, ◌≤◌, List, [], ◌∷◌, ◌++◌, length, take, drop, Some, None, refl, sym, ap, ◌∙◌, arith}
use borrow.Rule.Slice.PartMut.{put_mid}
use Rattle.std.proofs.lemmas.List.{append_assoc, drop-drop}
use Rattle.std.proofs.lemmas.Slice.{drop-put_mid, take-put_mid}
use Rattle.model.specs.declared.units.PowerUnit.{PowerUnit}
use Rattle.model.specs.Course.{tail}
use Rattle.model.specs.Packed.{packed_bytes, packed_record}
use Rattle.packed.specs.Reading.{first_unit}

-- `left` is still to come of `all`, and `at` bytes were written to the buffer, which held `start`
pub record Writing (all left : List PowerUnit) (at : ℕ) (buffer start : List ℕ) : Type 0 where
  pub room : at + 32 * length left ≡ 32 * length all
  pub front : take at buffer ++ packed_bytes left ≡ packed_bytes all
  pub back : drop at buffer ≡ drop at start

-- the first unit, where there is one
pub some_first : (u : PowerUnit) (us : List PowerUnit) → Some u ≡ first_unit us → us ≡ u ∷ tail us
some_first u [] e = cc
some_first u (v ∷ us) e = cc

pub none_left : (us : List PowerUnit) → None ≡ first_unit us → us ≡ []
none_left [] e = refl
none_left (v ∷ us) e = cc

drop_more : (at : ℕ) (xs ys : List ℕ) → drop at xs ≡ drop at ys → drop (at + 32) xs ≡ drop (at + 32) ys
drop_more at xs ys e = sym (drop-drop 32 at xs) ∙ ap (drop 32) e ∙ drop-drop 32 at ys

pub writing_more : (all left : List PowerUnit) (u : PowerUnit) (at : ℕ) (buffer start piece : List ℕ) → at ≤ length buffer
    → Writing all (u ∷ left) at buffer start → piece ≡ packed_record u → Writing all left (at + 32) (put_mid at 32 buffer piece) start
writing_more all left u at buffer start piece within w is =
    let size : length piece ≡ 32 = ap length is in
    let written : take (at + 32) (put_mid at 32 buffer piece) ≡ take at buffer ++ piece = take-put_mid at 32 buffer piece (at + 32) (omega arith) within in
    record {
      room = omega (arith, w.room);
      front =
          ap (λ xs. xs ++ packed_bytes left) written
          ∙ append_assoc (take at buffer) piece (packed_bytes left)
          ∙ ap (λ xs. take at buffer ++ (xs ++ packed_bytes left)) is
          ∙ w.front;
      back = drop-put_mid at 32 buffer piece (at + 32) (omega arith) within size ∙ drop_more at buffer start w.back;
    }

pub writing-next : (all left later : List PowerUnit) (u : PowerUnit) (at k : ℕ) (buffer start piece : List ℕ)
    → Some u ≡ first_unit left → later ≡ tail left → at ≤ length buffer → k ≡ 32
    → Writing all left at buffer start → piece ≡ packed_record u → Writing all later (at + 32) (put_mid at k buffer piece) start
writing-next all left later u at k buffer start piece first rest within size w is =
    rw (rest, size) (writing_more all (tail left) u at buffer start piece within (rw (some_first u left first) at w) is)
