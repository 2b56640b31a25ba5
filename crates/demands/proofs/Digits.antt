-- Decimal numbers: what is printed is well-written and has its value, and what is well-written is what its value prints as.
use mathlib.Core.Path.{◌≡◌, refl, ap, sym, ◌∙◌}
use mathlib.Core.Bool.{Bool, true, false, cond, not, ◌&&◌, ◌||◌, or-true, or-false, false≢true}
use mathlib.Core.List.{List, [], ◌∷◌, ◌++◌, append_assoc, append-nil}
use Prim.Native.Nat.{ℕ, zero, suc, ◌+◌, ◌-◌, ◌*◌, ◌/◌, ◌%◌, ◌^◌, ◌<◌, ◌≤◌}
use native.Mathlib.Nat.{pow-succ', pow-le-pow_right, mul_assoc}
use native.Mathlib.Omega.{arith}
use lib.Dec.{leb, ltb, eqb}
use lib.ListN.{length, get_or, drop, length-append, get_or-append}
use borrow.Author.Tests.{ltb-true, ltb-false, leb-true, eqb-true, eqb-false, lt-ltb, le-ltb, le-leb, ne_eqb}
use Rattle.rules.specs.Each.{every}
use Rattle.rules.specs.Text.{digits, decimal}
use Rattle.rules.specs.Reading.{digit, leading_digits, value_from, well_written}
use Rattle.rules.proofs.Indices.{both, and_both}

-- more digits allowed than a number has change nothing
digits_enough : (k j x : ℕ) → x ≤ k → x ≤ j → digits (suc k) x ≡ digits (suc j) x
unfolding digits
digits_enough zero j x h l = rw (lt-ltb x 10 (omega arith))
digits_enough (suc k) zero x h l = rw (lt-ltb x 10 (omega arith))
digits_enough (suc k) (suc j) x h l = go (ltb x 10) refl (λ a b. digits_enough k j (x / 10) a b)
  where
    go : (t : Bool) → ltb x 10 ≡ t → (x / 10 ≤ k → x / 10 ≤ j → digits (suc k) (x / 10) ≡ digits (suc j) (x / 10))
        → cond t [] (digits (suc k) (x / 10)) ++ (48 + x % 10) ∷ [] ≡ cond t [] (digits (suc j) (x / 10)) ++ (48 + x % 10) ∷ []
    go true e r = refl
    go false e r =
        let big : 10 ≤ x = ltb-false x 10 e in
        rw (r (omega arith) (omega arith))

-- a number below 10 is one digit
pub decimal_one : (x : ℕ) → x < 10 → decimal x ≡ (48 + x) ∷ []
unfolding decimal digits
decimal_one x h =
    let e : 48 + x % 10 ≡ 48 + x = omega arith in
    rw (lt-ltb x 10 h, e)

-- any other is the digits of its tens, and one more
pub decimal_more : (x : ℕ) → 10 ≤ x → decimal x ≡ decimal (x / 10) ++ (48 + x % 10) ∷ []
unfolding decimal digits
decimal_more zero h = absurd (omega arith)
decimal_more (suc x) h = rw (le-ltb (suc x) 10 h, digits_enough x (suc x / 10) (suc x / 10) (omega arith) (omega arith))

-- what holds below 10, and of a number where it holds of its tens, holds of all
by_tens : (P : ℕ → Type 0) → ((x : ℕ) → x < 10 → P x) → ((x : ℕ) → 10 ≤ x → P (x / 10) → P x) → (x : ℕ) → P x
by_tens P one more x = upto x x (omega arith)
  where
    go : (x : ℕ) (t : Bool) → ltb x 10 ≡ t → (10 ≤ x → P (x / 10)) → P x
    go x true e r = one x (ltb-true x 10 e)
    go x false e r = more x (ltb-false x 10 e) (r (ltb-false x 10 e))

    upto : (k x : ℕ) → x ≤ k → P x
    upto zero x h = one x (omega arith)
    upto (suc k) x h = go x (ltb x 10) refl (λ l. upto k (x / 10) (omega arith))

-- bytes that are digits, one behind the other
every_append : (a b : List ℕ) → every digit a ≡ true → every digit b ≡ true → every digit (a ++ b) ≡ true
unfolding every
every_append [] b h k = k
every_append (x ∷ a) b h k =
    let parts = both (digit x) (every digit a) h in
    and_both (digit x) (every digit (a ++ b)) parts.0 (every_append a b parts.1 k)

-- the byte of a digit
digit_byte : (x : ℕ) → x < 10 → every digit ((48 + x) ∷ []) ≡ true
unfolding every digit
digit_byte x h = rw (le-leb 48 (48 + x) (omega arith), le-leb (48 + x) 57 (omega arith))

-- a decimal number is all digits
pub decimal_digits : (x : ℕ) → every digit (decimal x) ≡ true
decimal_digits =
    by_tens (λ x. every digit (decimal x) ≡ true)
    (λ x h. rw (decimal_one x h) (digit_byte x h))
    (λ x h r. rw (decimal_more x h) (every_append (decimal (x / 10)) _ r (digit_byte (x % 10) (omega arith))))

-- the value of digits, one part behind the other
pub value_append : (v : ℕ) (a b : List ℕ) → value_from v (a ++ b) ≡ value_from (value_from v a) b
unfolding value_from
value_append v [] b = refl
value_append v (x ∷ a) b = value_append (10 * v + (x - 48)) a b

-- a decimal number has its value
pub decimal_value : (x : ℕ) → value_from 0 (decimal x) ≡ x
unfolding value_from
decimal_value =
    by_tens (λ x. value_from 0 (decimal x) ≡ x)
    (λ x h. rw (decimal_one x h) (omega arith))
    (λ x h r. rw (decimal_more x h, value_append 0 (decimal (x / 10)), r) (omega arith))

-- it has at least one digit
decimal_length : (x : ℕ) → 1 ≤ length (decimal x)
decimal_length =
    by_tens (λ x. 1 ≤ length (decimal x))
    (λ x h. rw (decimal_one x h) (omega arith))
    (λ x h r. rw (decimal_more x h) (simp length-append (omega arith)))

-- below 10 ^ (k + 1) it has at most k + 1
pub decimal_short : (x k : ℕ) → x < 10 ^ suc k → length (decimal x) ≤ suc k
decimal_short =
    by_tens (λ x. (k : ℕ) → x < 10 ^ suc k → length (decimal x) ≤ suc k)
    (λ x h k l. rw (decimal_one x h) (omega arith))
    (λ x h r k l. rw (decimal_more x h) (simp length-append (more x h r k l)))
  where
    more : (x : ℕ) → 10 ≤ x → ((k : ℕ) → x / 10 < 10 ^ suc k → length (decimal (x / 10)) ≤ suc k)
        → (k : ℕ) → x < 10 ^ suc k → length (decimal (x / 10)) + 1 ≤ suc k
    more x h r zero l = absurd (omega arith)
    more x h r (suc k) l =
        let low : x < 10 * 10 ^ suc k = rw pow-succ' at l in
        omega (arith, r k (omega arith))

-- and it begins with no 0, but for 0 itself
decimal_first : (x : ℕ) → 1 ≤ x → get_or (decimal x) 0 0 ≡ 48 → ⊥
decimal_first =
    by_tens (λ x. 1 ≤ x → get_or (decimal x) 0 0 ≡ 48 → ⊥)
    (λ x h p. rw (decimal_one x h) (λ e. omega arith))
    (λ x h r p. rw (decimal_more x h, get_or-append (decimal (x / 10)) _ 0 0 (decimal_length (x / 10))) (r (omega arith)))

-- a number of at most four digits is well-written
pub decimal_well : (x : ℕ) → x < 10000 → well_written (decimal x) ≡ true
unfolding well_written
decimal_well x h =
    and_both _ _
    (and_both _ _ (le-leb 1 _ (decimal_length x)) (le-leb _ 4 (decimal_short x 3 h)))
    (first (ltb x 10) refl)
  where
    first : (t : Bool) → ltb x 10 ≡ t
        → (eqb (length (decimal x)) 1 || not (eqb (get_or (decimal x) 0 0) 48)) ≡ true
    first true e = rw (decimal_one x (ltb-true x 10 e))
    first false e =
        let big : 10 ≤ x = ltb-false x 10 e in
        rw (ne_eqb (get_or (decimal x) 0 0) 48 (decimal_first x (omega arith))) (or-true (eqb (length (decimal x)) 1))

-- the digits that a text begins with are all digits
pub leading_every : (text : List ℕ) → every digit (leading_digits text) ≡ true
unfolding every leading_digits
leading_every [] = refl
leading_every (x ∷ text) = go (digit x) refl (leading_every text)
  where
    go : (t : Bool) → digit x ≡ t → every digit (leading_digits text) ≡ true
        → every digit (cond t (x ∷ leading_digits text) []) ≡ true
    go true e r = rw e r
    go false e r = refl

-- they stand in front of the rest of the text
pub leading_front : (text : List ℕ) → leading_digits text ++ drop (length (leading_digits text)) text ≡ text
unfolding leading_digits
leading_front [] = refl
leading_front (x ∷ text) = go (digit x) (leading_front text)
  where
    go : (t : Bool) → leading_digits text ++ drop (length (leading_digits text)) text ≡ text
        → cond t (x ∷ leading_digits text) [] ++ drop (length (cond t (x ∷ leading_digits text) [])) (x ∷ text) ≡ x ∷ text
    go true r = ap (λ (l : List ℕ). x ∷ l) r
    go false r = refl

-- of digits with another byte behind them they are just those
pub leading_number : (number : List ℕ) (end : ℕ) (rest : List ℕ) → every digit number ≡ true → digit end ≡ false
    → leading_digits (number ++ end ∷ rest) ≡ number
unfolding every leading_digits
leading_number [] end rest h e = rw e
leading_number (x ∷ number) end rest h e =
    let parts = both (digit x) (every digit number) h in
    rw (parts.0, leading_number number end rest parts.1 e)

-- a digit is at least the byte of 0
digit_low : (x : ℕ) → digit x ≡ true → 48 ≤ x
unfolding digit
digit_low x d = leb-true 48 x (both (leb 48 x) (leb x 57) d).0

-- and at most that of 9
digit_high : (x : ℕ) → digit x ≡ true → x ≤ 57
unfolding digit
digit_high x d = leb-true x 57 (both (leb 48 x) (leb x 57) d).1

-- a digit is the number that it writes
one_digit : (x : ℕ) → digit x ≡ true → decimal (0 + (x - 48)) ≡ x ∷ []
one_digit x d =
    let low : 48 ≤ x = digit_low x d in
    let high : x ≤ 57 = digit_high x d in
    let same : 48 + (0 + (x - 48)) ≡ x = omega arith in
    rw (decimal_one (0 + (x - 48)) (omega arith), same)

-- a digit behind a number that is not 0
decimal_grow : (v x : ℕ) → 1 ≤ v → digit x ≡ true → decimal (10 * v + (x - 48)) ≡ decimal v ++ x ∷ []
decimal_grow v x h d =
    let low : 48 ≤ x = digit_low x d in
    let high : x ≤ 57 = digit_high x d in
    let tens : (10 * v + (x - 48)) / 10 ≡ v = omega arith in
    let ones : 48 + (10 * v + (x - 48)) % 10 ≡ x = omega arith in
    rw (decimal_more (10 * v + (x - 48)) (omega arith), tens, ones)

-- digits behind a number that is not 0
decimal_behind : (v : ℕ) (later : List ℕ) → 1 ≤ v → every digit later ≡ true → decimal (value_from v later) ≡ decimal v ++ later
unfolding every value_from
decimal_behind v [] h d = sym (append-nil (decimal v))
decimal_behind v (x ∷ later) h d =
    let parts = both (digit x) (every digit later) d in
    decimal_behind (10 * v + (x - 48)) later (omega arith) parts.1
    ∙ rw (decimal_grow v x h parts.0) (append_assoc (decimal v) (x ∷ []) later)

-- a value is below one more than the number before it, and ten times that with each digit
value_below : (v b : ℕ) (later : List ℕ) → v < b → every digit later ≡ true → value_from v later < b * 10 ^ length later
unfolding every value_from
value_below v b [] h d = omega arith
value_below v b (x ∷ later) h d =
    let parts = both (digit x) (every digit later) d in
    let high : x ≤ 57 = digit_high x parts.0 in
    rw (pow-succ', ← mul_assoc) (value_below (10 * v + (x - 48)) (b * 10) later (omega arith) parts.1)

-- the number that a well-written text of digits is
pub record Number (number : List ℕ) : Type 0 where
  pub printed : decimal (value_from 0 number) ≡ number
  pub small : value_from 0 number < 10000

-- well-written digits are what their value prints as, and it has at most four digits
pub well_number : (number : List ℕ) → every digit number ≡ true → well_written number ≡ true → Number number
unfolding well_written every value_from
well_number [] d w = absurd (false≢true w)
well_number (x ∷ later) d w =
    record { printed = printed later parts.1 (eqb x 48) refl tests.1; small = small }
  where
    parts : (digit x ≡ true) × (every digit later ≡ true)
    parts = both (digit x) (every digit later) d

    tests : ((leb 1 (length (x ∷ later)) && leb (length (x ∷ later)) 4) ≡ true) × ((eqb (length (x ∷ later)) 1 || not (eqb x 48)) ≡ true)
    tests = both _ _ w

    printed : (later : List ℕ) → every digit later ≡ true → (t : Bool) → eqb x 48 ≡ t
        → (eqb (length (x ∷ later)) 1 || not t) ≡ true → decimal (value_from 0 (x ∷ later)) ≡ x ∷ later
    printed [] h true e l = one_digit x parts.0
    printed (y ∷ later) h true e l =
        let long : length (x ∷ y ∷ later) ≡ 1 = eqb-true _ 1 (sym (or-false _) ∙ l) in
        absurd (omega arith)
    printed later h false e l =
        decimal_behind (0 + (x - 48)) later (omega (arith, digit_low x parts.0, eqb-false x 48 e)) h
        ∙ rw (one_digit x parts.0)

    small : value_from 0 (x ∷ later) < 10000
    small =
        let short : length (x ∷ later) ≤ 4 = leb-true _ 4 (both (leb 1 (length (x ∷ later))) _ tests.0).1 in
        omega (arith, value_below 0 1 (x ∷ later) (omega arith) d, pow-le-pow_right {n = 10} (omega arith) short)
