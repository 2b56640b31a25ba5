-- The value of a set of variables, where the values are the digits of a number.
use mathlib.Core.Path.{◌≡◌, refl, ap, sym, ◌∙◌}
use mathlib.Core.Bool.{Bool, true, false}
use mathlib.Core.List.{List, [], ◌∷◌, ◌++◌}
use mathlib.Core.Logic.{◌⊎◌, inl, inr, ⊎_elim}
use Prim.Native.Nat.{ℕ, zero, suc, ◌+◌, ◌*◌, ◌/◌, ◌%◌, ◌^◌, ◌<◌, ◌≤◌}
use native.Mathlib.Nat.{eq-or-lt_of_le, one-mul, mul-zero, zero-mul, zero-add, mul_assoc, pow-succ'}
use native.Mathlib.Omega.{arith}
use lib.Arith.{lt-one}
use lib.Count.{ones, ones_step}
use lib.Dec.{leb}
use lib.ListN.{length, get_or}
use borrow.Author.Tests.{leb-true, leb-false}
use Rattle.rules.specs.Each.{listed}
use Rattle.rules.specs.Values.{bit}
use Rattle.rules.proofs.Indices.{length_listed}
use Rattle.rules.proofs.Bits.{digit_cases, bit_first, bit_next}
use Rattle.demands.specs.Polynomials.{chosen, set_value}
use Rattle.demands.proofs.Value.{set_value_none}

-- the values are the digits of u, lowest first
abbrev pub Follows : List ℕ → ℕ → Type 0
Follows [] u = Unit
Follows (x ∷ values) u = (x ≡ u % 2) × Follows values (u / 2)

-- one digit more
follows_next : (values : List ℕ) (x u : ℕ) → Follows values u → x ≡ bit u (length values) → Follows (values ++ x ∷ []) u
follows_next [] x u f e = (e ∙ bit_first u, tt)
follows_next (y ∷ values) x u f e = (f.0, follows_next values x (u / 2) f.1 (e ∙ bit_next u (length values)))

-- the first bits of a number
pub follows_listed : (n u : ℕ) → Follows (listed n (bit u)) u
unfolding listed
follows_listed zero u = tt
follows_listed (suc n) u = follows_next (listed n (bit u)) (bit u n) u (follows_listed n u) (ap (bit u) (sym (length_listed n (bit u))))

-- an entry is its digit
pub follows_bit : (values : List ℕ) (u v : ℕ) → Follows values u → v < length values → get_or values v 0 ≡ bit u v
follows_bit [] u v f l = absurd (omega arith)
follows_bit (x ∷ values) u zero f l = f.0 ∙ sym (bit_first u)
follows_bit (x ∷ values) u (suc v) f l = follows_bit values (u / 2) v f.1 (omega arith) ∙ sym (bit_next u v)

-- the digits of b behind those of a
pub follows_append : (values more : List ℕ) (a b : ℕ) → a < 2 ^ length values → Follows values a → Follows more b
    → Follows (values ++ more) (a + 2 ^ length values * b)
follows_append [] more a b h f g = rw (lt-one h, one-mul, zero-add) g
follows_append (x ∷ values) more a b h f g =
    let power : 2 ^ suc (length values) * b ≡ 2 * (2 ^ length values * b) = rw (pow-succ', mul_assoc) in
    let low : (a + 2 ^ suc (length values) * b) % 2 ≡ a % 2 = omega arith in
    let half : (a + 2 ^ suc (length values) * b) / 2 ≡ a / 2 + 2 ^ length values * b = omega arith in
    (f.0 ∙ sym low, rw half (follows_append values more (a / 2) b (omega (arith, pow-succ' 2 (length values))) f.1 g))

-- values behind those of a set's variables do not matter
pub set_value_front : (values more : List ℕ) (t : ℕ) → t < 2 ^ length values → set_value (values ++ more) t ≡ set_value values t
unfolding set_value
set_value_front [] more t h = rw (lt-one h) (set_value_none more)
set_value_front (x ∷ values) more t h =
    rw (set_value_front values more (t / 2) (omega (arith, pow-succ' 2 (length values))))

-- a digit to itself is 1
chosen_own : (d : ℕ) → d < 2 → chosen d d ≡ 1
unfolding chosen
chosen_own = digit_cases (λ d. chosen d d ≡ 1) refl refl

-- at its own digits a set has the value 1
pub set_value_own : (values : List ℕ) (u : ℕ) → Follows values u → set_value values u ≡ 1
unfolding set_value
set_value_own [] u f = refl
set_value_own (x ∷ values) u f = rw (f.0, set_value_own values (u / 2) f.1, chosen_own (u % 2) (omega arith))

-- at the digits of u, what a set t can be: its value is 0, or it is u, or it has fewer variables
abbrev pub At : List ℕ → ℕ → ℕ → Type 0
At values u t = (set_value values t ≡ 0) ⊎ ((t ≡ u) ⊎ (ones t < ones u))

-- a digit more of t, at most that of u
at_next : (values : List ℕ) (x u t : ℕ) → t % 2 ≤ u % 2 → At values (u / 2) (t / 2) → At (x ∷ values) u t
unfolding set_value
at_next values x u t h (inl zero_there) = inl (rw (zero_there, mul-zero))
at_next values x u t h (inr (inr fewer)) = inr (inr (omega (arith, ones_step t, ones_step u)))
at_next values x u t h (inr (inl same)) =
    ⊎_elim (λ (e : t % 2 ≡ u % 2). inr (inl (omega arith)))
    (λ (l : t % 2 < u % 2). inr (inr (omega (arith, ones_step t, ones_step u, ap ones same))))
    (eq-or-lt_of_le h)

-- which of these it is
pub set_value_at : (values : List ℕ) (u t : ℕ) → u < 2 ^ length values → t < 2 ^ length values → Follows values u → At values u t
unfolding set_value chosen
set_value_at [] u t h l f = inr (inl (lt-one l ∙ sym (lt-one h)))
set_value_at (x ∷ values) u t h l f =
    let power : 2 ^ suc (length values) ≡ 2 * 2 ^ length values = pow-succ' 2 (length values) in
    go (leb (t % 2) (u % 2)) refl (set_value_at values (u / 2) (t / 2) (omega arith) (omega arith) f.1)
  where
    go : (b : Bool) → leb (t % 2) (u % 2) ≡ b → At values (u / 2) (t / 2) → At (x ∷ values) u t
    go true e rest = at_next values x u t (leb-true (t % 2) (u % 2) e) rest
    go false e rest =
        let in_t : t % 2 ≡ 1 = omega (arith, leb-false (t % 2) (u % 2) e) in
        let not_in_u : x ≡ 0 = f.0 ∙ omega (arith, leb-false (t % 2) (u % 2) e) in
        inl (rw (in_t, not_in_u, zero-mul))
