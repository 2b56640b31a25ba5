-- How many digits a number in decimal has, and a number of 64 bits at most.
use mathlib.Core.Path.{◌≡◌}
use Prim.Native.Nat.{ℕ, ◌+◌, ◌/◌, ◌^◌, ◌<◌, ◌≤◌}
use native.Mathlib.Omega.{arith}
use lib.ListN.{length, length-append}
use Rattle.rules.specs.Text.{decimal}
use Rattle.demands.proofs.Digits.{decimal_one, decimal_more, decimal_short}

-- a number below 10 has one digit
pub single_length : (x : ℕ) → x < 10 → length (decimal x) ≡ 1
single_length x h = rw (decimal_one x h)

-- any other has one digit more than its tens
pub tens_length : (x : ℕ) → 10 ≤ x → length (decimal x) ≡ length (decimal (x / 10)) + 1
tens_length x h = rw (decimal_more x h) (length-append (decimal (x / 10)) _)

-- a number of 64 bits has at most 20 digits
pub decimal_word : (x : ℕ) → x < 2 ^ 64 → length (decimal x) ≤ 20
decimal_word x l = decimal_short x 19 (omega arith)
