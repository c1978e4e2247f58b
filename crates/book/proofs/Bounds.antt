-- No product or sum of a unit's numbers passes 64 bits.
use Rattle.std.proofs.Common.{ℕ, ◌*◌, ◌≤◌, mul-le-mul_right, mul-le-mul_left, arith}
use Rattle.model.specs.declared.units.Burn.{Burn}
use Rattle.model.specs.Units.{burned}
use Rattle.book.specs.Burns.{Fits}

-- a product of two bounded numbers
pub product_le : (a b m n : ℕ) → a ≤ m → b ≤ n → a * b ≤ m * n
product_le a b m n h k = omega (arith, mul-le-mul_right b h, mul-le-mul_left m k)

pub burned-le : (b : Burn) → Fits b → burned b ≤ 320000000000000000
burned-le b f = grind (arith, f.quantity, f.heat, f.carbon)
