-- Numbers that are the same modulo m.
use mathlib.Core.Path.{◌≡◌, refl, ap, sym, ◌∙◌}
use mathlib.Core.Bool.{Bool, true, false, xor, cond}
use Prim.Native.Nat.{ℕ, zero, suc, ◌+◌, ◌-◌, ◌*◌, ◌/◌, ◌%◌, ◌<◌}
use native.Mathlib.Nat.{mul-zero, mul_comm, mul_left_comm, mul_right_comm, add-mul, add-mul-mod_self_right, mod-add-div', add_assoc, add_comm, add_right_comm, add-zero, mul-add, mul_assoc, suc-mul, mod-lt, mod_self, mod-mod, add-mod-mod, add-mod, mul-mod_right}
use native.Mathlib.Omega.{arith}
use Rattle.rules.specs.Each.{sum}
use Rattle.rules.specs.Product.{modulo}

-- the first factor may be reduced modulo m
pub mod_mul_mod : (a b m : ℕ) → (a % m) * b % m ≡ a * b % m
mod_mul_mod a b m =
    sym (add-mul-mod_self_right ((a % m) * b) (a / m * b) m)
    ∙ ap (λ (x : ℕ). x % m) (rw (mul_right_comm (a / m) b m, ← add-mul, mod-add-div' a m))

-- the second factor may be reduced, too
pub mul_mod_mod : (a b m : ℕ) → a * (b % m) % m ≡ a * b % m
mul_mod_mod a b m = rw (mul_comm a (b % m), mul_comm a b) (mod_mul_mod b a m)

-- sums of same numbers are the same
pub same_add : (m a b x y : ℕ) → a % m ≡ b % m → x % m ≡ y % m → (a + x) % m ≡ (b + y) % m
same_add m a b x y p q = rw (add-mod a x m, add-mod b y m, p, q)

-- products of same numbers are the same
pub same_mul : (m a b x y : ℕ) → a % m ≡ b % m → x % m ≡ y % m → (a * x) % m ≡ (b * y) % m
same_mul m a b x y p q = rw (← mod_mul_mod a x m, ← mul_mod_mod (a % m) x m, p, q, mul_mod_mod (b % m) y m, mod_mul_mod b y m)

module _ (m : ℕ) (positive : 0 < m) where
  -- a number and m - 1 times it are 0 together
  pub opposite : (x : ℕ) → ((m - 1) * x + x) % m ≡ 0
  opposite x =
      let e : suc (m - 1) ≡ m = omega arith in
      rw (← suc-mul (m - 1) x, e) (mul-mod_right m x)

  -- so adding both changes nothing
  pub without : (a x : ℕ) → (a + (m - 1) * x + x) % m ≡ a % m
  without a x = rw (add_assoc, ← add-mod-mod a ((m - 1) * x + x) m, opposite x, add-zero)

  -- what is added may be taken away
  pub same_cancel : (a b x : ℕ) → (a + x) % m ≡ (b + x) % m → a % m ≡ b % m
  same_cancel a b x h = sym (back a) ∙ same_add m (a + x) (b + x) ((m - 1) * x) ((m - 1) * x) h refl ∙ back b
    where
      back : (c : ℕ) → (c + x + (m - 1) * x) % m ≡ c % m
      back c = rw (add_right_comm c x ((m - 1) * x)) (without c x)

  -- m less the rest is m - 1 times the number
  less_rest : (x : ℕ) → (m - x % m) % m ≡ ((m - 1) * x) % m
  less_rest x = same_cancel (m - x % m) ((m - 1) * x) x (back ∙ sym (opposite x))
    where
      back : (m - x % m + x) % m ≡ 0
      back =
          let e : m - x % m + x % m ≡ m = omega (arith, mod-lt x positive) in
          rw (← add-mod-mod (m - x % m) x m, e) (mod_self m)

  -- m - 1 times m - 1 times a number is the number
  twice_opposite : (x : ℕ) → ((m - 1) * ((m - 1) * x)) % m ≡ x % m
  twice_opposite x =
      same_cancel ((m - 1) * ((m - 1) * x)) x ((m - 1) * x) (opposite ((m - 1) * x) ∙ sym (rw (add_comm x ((m - 1) * x)) (opposite x)))

  -- a whole number as m - 1 times its size, or its size
  pub modulo_cond : (p : Bool) (x : ℕ) → modulo m p x ≡ cond p ((m - 1) * x) x % m
  unfolding modulo
  modulo_cond true x = less_rest x
  modulo_cond false x = refl

  -- it is less than m
  pub modulo_rest : (p : Bool) (x : ℕ) → modulo m p x % m ≡ modulo m p x
  modulo_rest p x = rw (modulo_cond p x, mod-mod)

  -- the sign and the size of a product
  pub modulo_mul : (p q : Bool) (a b x y : ℕ) → a % m ≡ modulo m p x → b % m ≡ modulo m q y
      → (a * b) % m ≡ modulo m (xor p q) (x * y)
  unfolding xor
  modulo_mul p q a b x y f g =
      same_mul m a (cond p ((m - 1) * x) x) b (cond q ((m - 1) * y) y) (f ∙ modulo_cond p x) (g ∙ modulo_cond q y)
      ∙ go p q ∙ sym (modulo_cond (xor p q) (x * y))
    where
      go : (p q : Bool) → (cond p ((m - 1) * x) x * cond q ((m - 1) * y) y) % m ≡ cond (xor p q) ((m - 1) * (x * y)) (x * y) % m
      go true true = rw (mul_assoc (m - 1) x ((m - 1) * y), mul_left_comm x (m - 1) y) (twice_opposite (x * y))
      go true false = rw (mul_assoc (m - 1) x y)
      go false true = rw (mul_left_comm x (m - 1) y)
      go false false = refl

  -- with the sign turned: m less the size, or the size, is m - 1 times the whole number
  pub modulo_turned : (p : Bool) (a x : ℕ) → a % m ≡ modulo m p x → cond p (x % m) (m - x % m) % m ≡ ((m - 1) * a) % m
  modulo_turned p a x f =
      go p ∙ same_mul m (m - 1) (m - 1) (cond p ((m - 1) * x) x) a refl (sym (f ∙ modulo_cond p x))
    where
      go : (p : Bool) → cond p (x % m) (m - x % m) % m ≡ ((m - 1) * cond p ((m - 1) * x) x) % m
      go true = mod-mod x m ∙ sym (twice_opposite x)
      go false = less_rest x

-- sums over an index, of numbers that are the same at each, are the same
pub sum_mod : (m n : ℕ) (f g : ℕ → ℕ) → ((i : ℕ) → i < n → f i % m ≡ g i % m) → sum n f % m ≡ sum n g % m
unfolding sum
sum_mod m zero f g h = refl
sum_mod m (suc n) f g h = same_add m (sum n f) (sum n g) (f n) (g n) (sum_mod m n f g (λ i l. h i (omega arith))) (h n (omega arith))

-- a factor of every number of a sum
pub sum_factor : (n k : ℕ) (f : ℕ → ℕ) → sum n (λ i. k * f i) ≡ k * sum n f
unfolding sum
sum_factor zero k f = sym (mul-zero k)
sum_factor (suc n) k f = rw (sum_factor n k f, mul-add)
