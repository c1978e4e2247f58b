-- The test of a day's digits decides whether the number writes a calendar day.
use Rattle.std.proofs.Common.{◌≡◌, ℕ, ◌/◌, ◌%◌, ◌≤◌, true, arith}
use Rattle.std.proofs.lemmas.Bool.Decides.{nat_tests}
use Rattle.model.specs.Calendar.{CalendarDay, is_day, month_length}

-- a month is at most 12, and no month has more than 31 days
pub month-length-le : (y m : ℕ) → month_length y m ≤ 31
month-length-le y m = grind (arith, nat_tests)

month-le : (y m : ℕ) → 1 ≤ month_length y m → m ≤ 12
month-le y m h = grind (arith, nat_tests, h)

-- the digits of a day
pub day-from-digits : (n : ℕ) → is_day n ≡ true → CalendarDay n
day-from-digits n h =
    record {
      year = n / 10000;
      month = n / 100 % 100;
      day = n % 100;
      written = omega arith;
      from = grind (arith, nat_tests, h);
      to = grind (arith, nat_tests, h);
      first = grind (arith, nat_tests, h);
      last = grind (arith, nat_tests, h);
    }

pub digits-from-day : (n : ℕ) → CalendarDay n → is_day n ≡ true
digits-from-day n d =
    let l = month-length-le d.year d.month in
    let m = month-le d.year d.month (omega (arith, d.first, d.last)) in
    let w = d.written in
    let y : n / 10000 ≡ d.year = omega (arith, w, l, m, d.last) in
    let k : n / 100 % 100 ≡ d.month = omega (arith, w, l, m, d.last) in
    let e : n % 100 ≡ d.day = omega (arith, w, l, m, d.last) in
    rw (y, k, e) (grind (arith, nat_tests, d.from, d.to, d.first, d.last))
