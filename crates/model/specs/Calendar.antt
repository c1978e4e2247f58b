-- Days: the number YYYYMMDD of a calendar day from 19000101 to 20991231.
use Rattle.std.specs.Prelude.{◌≡◌, ℕ, ◌+◌, ◌*◌, ◌/◌, ◌%◌, ◌≤◌, Bool, cond, not, ◌&&◌, ◌||◌, ◌==◌, nat_le, nat_lt}

-- Every fourth year is a leap year; of the years that end a century, every fourth.
abbrev pub leap_year : ℕ → Bool
leap_year y = y % 4 == 0 && (not (y % 100 == 0) || y % 400 == 0)

-- Thirty days have April, June, September and November, thirty-one the others, but February has 28, and 29 in a leap year.
-- Months are counted from 1; a number that is no month has no days.
abbrev pub month_length : ℕ → ℕ → ℕ
month_length y m =
    cond (nat_lt m 1 || nat_lt 12 m) 0
    (cond (m == 2) (cond (leap_year y) 29 28)
    (cond (m == 4 || (m == 6 || (m == 9 || m == 11))) 30 31))

-- n writes a calendar day of the years 1900 to 2099
pub record CalendarDay (n : ℕ) : Type 0 where
  pub year : ℕ
  pub month : ℕ
  pub day : ℕ
  pub written : n ≡ 10000 * year + (100 * month + day)
  pub from : 1900 ≤ year
  pub to : year ≤ 2099
  pub first : 1 ≤ day
  pub last : day ≤ month_length year month

-- The test for it: the digits of n, read as year, month and day.
abbrev pub is_day : ℕ → Bool
is_day n = (nat_le 1900 (n / 10000) && nat_le (n / 10000) 2099) && (nat_le 1 (n % 100) && nat_le (n % 100) (month_length (n / 10000) (n / 100 % 100)))
