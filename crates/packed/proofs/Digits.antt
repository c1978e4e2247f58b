-- Numbers written as bytes, the highest first, and read again.
use Rattle.std.proofs.Common.{◌≡◌, ℕ, ◌/◌, ◌%◌, ◌^◌, ◌<◌, ◌≤◌, ◌∙◌, mod-eq_of_lt, div-add-mod', div-one, arith}
use native.Mathlib.Nat.{div-div-eq-div-mul}
use lib.Arith.{mod-mul}
use Rattle.model.specs.Packed.{bytes_of, huge}
use Rattle.model.specs.Records.{long, word}

pub word_of : (n : ℕ) → word (bytes_of 2 n) 0 ≡ n % 65536
word_of n = rw (div-one n) (omega (arith, mod-mul n {m = 256} {c = 256} (omega arith) (omega arith)))

pub long_of : (n : ℕ) → long (bytes_of 4 n) 0 ≡ n % 4294967296
long_of n =
    rw (div-one n)
    (omega (arith, mod-mul n {m = 256} {c = 16777216} (omega arith) (omega arith), mod-mul n {m = 256} {c = 65536} (omega arith) (omega arith), mod-mul n {m = 256} {c = 256} (omega arith) (omega arith)))

pub word_back : (n : ℕ) → n ≤ 65535 → word (bytes_of 2 n) 0 ≡ n
word_back n h = word_of n ∙ mod-eq_of_lt (omega arith)

pub long-back : (n : ℕ) → n ≤ 4294967295 → long (bytes_of 4 n) 0 ≡ n
long-back n h = long_of n ∙ mod-eq_of_lt (omega arith)

-- the upper half of eight bytes
high-of : (n : ℕ) → long (bytes_of 8 n) 0 ≡ long (bytes_of 4 (n / 4294967296)) 0
high-of n = rw (div-one (n / 4294967296), div-div-eq-div-mul n 4294967296 16777216, div-div-eq-div-mul n 4294967296 65536, div-div-eq-div-mul n 4294967296 256)

pub huge-back : (n : ℕ) → n < 2 ^ 64 → huge (bytes_of 8 n) 0 ≡ n
huge-back n h =
    let high = high-of n ∙ long-back (n / 4294967296) (omega arith) in
    let low = long_of n in
    omega (arith, high, low, div-add-mod' n 4294967296)
