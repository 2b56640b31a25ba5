-- How bits of rising weight are summed to a word.
use mathlib.Core.Path.{◌≡◌}
use Prim.Native.Nat.{ℕ, ◌+◌, ◌*◌, ◌%◌, ◌^◌, ◌<◌, ◌≤◌}
use native.Mathlib.Nat.{mul-le-mul_right, one-mul, mul_comm, pow-suc}
use native.Mathlib.Numerals.{add-one}
use native.Mathlib.Omega.{arith}
use lib.Pow.{shl_exact, pow_mono}
use Rattle.rules.specs.Each.{sum}

-- the sum with the next bit
pub sum_more : (n : ℕ) (f : ℕ → ℕ) (w b : ℕ) → w ≡ sum n (λ i. 2 ^ i * f i) → b ≡ f n
    → w + b * 2 ^ n ≡ sum (n + 1) (λ i. 2 ^ i * f i)
unfolding sum
sum_more n f w b e h = rw (add-one n, e, h, mul_comm (f n) (2 ^ n))

-- it stays below the next weight
pub more_below : (n w b : ℕ) → w < 2 ^ n → b ≤ 1 → w + b * 2 ^ n < 2 ^ (n + 1)
more_below n w b h l =
    let t : b * 2 ^ n ≤ 1 * 2 ^ n = mul-le-mul_right (2 ^ n) l in
    rw (add-one n, pow-suc) (omega (arith, one-mul (2 ^ n)))

-- a bit shifted within a word loses nothing
pub bit_shift : (n b : ℕ) → n < 64 → b ≤ 1 → b * 2 ^ n % 2 ^ 64 ≡ b * 2 ^ n
bit_shift n b h l = shl_exact 1 n 64 (omega arith) (omega arith)

-- so a sum of at most 64 bits fits
pub more_fits : (n w b : ℕ) → n < 64 → w < 2 ^ n → b ≤ 1 → w + b * 2 ^ n % 2 ^ 64 < 2 ^ 64
more_fits n w b h l k =
    rw (bit_shift n b h k) (omega (arith, more_below n w b l k, pow_mono {i = n + 1} {j = 64} (omega arith)))
