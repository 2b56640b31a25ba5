-- The terms of the outputs and of c: each is a constant or has one variable, so that its weights say all of it.
use mathlib.Core.Path.{◌≡◌, refl, ap, sym, ◌∙◌}
use mathlib.Core.Bool.{Bool, true, false}
use mathlib.Core.List.{List, [], ◌∷◌, ◌++◌}
use Prim.Native.Nat.{ℕ, zero, suc, ◌+◌, ◌-◌, ◌*◌, ◌^◌, ◌<◌}
use native.Mathlib.Nat.{zero-add, one-mul, zero-div}
use native.Mathlib.Omega.{arith}
use lib.Dec.{ltb}
use lib.Pow.{pow_pos, pow-lt}
use borrow.Author.Tests.{ltb-true, ltb-false}
use Rattle.rules.specs.Each.{sum, joined}
use Rattle.rules.specs.Netlist.{counts_right, variable, inverted, output, table_sound}
use Rattle.rules.specs.Values.{bit}
use Rattle.rules.specs.Polynomial.{Polynomial, hit, coefficient_at, minus, with_variable, times_variable, times_literal}
use Rattle.rules.specs.Product.{Kind, operand_width, addend_width, addend_term}
use Rattle.rules.specs.declared.counts.Counts.{Counts}
use Rattle.rules.proofs.Indices.{sum_same, sum_add}
use Rattle.rules.proofs.Sound.{right_counts, sound_table}
use Rattle.rules.proofs.Places.{operands_within}
use Rattle.rules.proofs.Terms.{hit_same, hit_other, hit_add, hit_zero}
use Rattle.start.specs.Start.{single, output_terms, addend_terms, single_terms}
use Rattle.start.proofs.Sums.{sum_none, sum_one}

-- a variable's set
pub single_up : (v : ℕ) → 0 < v → single v ≡ 2 ^ v
unfolding single
single_up zero h = absurd (omega arith)
single_up (suc v) h = refl

-- sets of one variable are ordered as the variables
pub single_lt : (a b : ℕ) → a < b → single a < single b
unfolding single
single_lt a zero h = absurd (omega arith)
single_lt zero (suc b) h = pow_pos (suc b)
single_lt (suc a) (suc b) h = pow-lt h

-- different variables have different sets
pub single_other : (a b : ℕ) → (a ≡ b → ⊥) → single b ≡ single a → ⊥
single_other a b n e = go (ltb a b) refl
  where
    go : (t : Bool) → ltb a b ≡ t → ⊥
    go true h = omega (arith, single_lt a b (ltb-true a b h))
    go false h = omega (arith, single_lt b a (omega (arith, ltb-false a b h, n)))

-- every set is that of one variable below the bound
abbrev Singly : ℕ → Polynomial → Type 0
Singly bound [] = Unit
Singly bound (t ∷ p) = ((v : ℕ) × (v < bound) × (t.1 ≡ single v)) × Singly bound p

-- so are those of two lists, one behind the other
singly_append : (bound : ℕ) (p q : Polynomial) → Singly bound p → Singly bound q → Singly bound (p ++ q)
singly_append bound [] q h k = k
singly_append bound (t ∷ p) q h k = (h.0, singly_append bound p q h.1 k)

-- its coefficients are those at the sets of one variable
spread : (bound : ℕ) (p : Polynomial) (u : ℕ) → Singly bound p
    → coefficient_at p u ≡ sum bound (λ v. hit u (single v) (coefficient_at p (single v)))
unfolding coefficient_at
spread bound [] u h = sym (sum_none bound _ (λ v l. hit_zero (single v) u))
spread bound (t ∷ p) u h =
    let v = h.0.0 in
    let e : t.1 ≡ single v = h.0.2 in
    let one : sum bound (λ w. hit u (single w) (hit (single w) t.1 t.0)) ≡ hit u t.1 t.0 =
    sum_one bound (λ w. hit u (single w) (hit (single w) t.1 t.0)) v h.0.1
    (λ w n. rw (hit_other t.1 (single w) t.0 (λ q. single_other w v n (sym e ∙ q))) (hit_zero (single w) u))
    ∙ rw (hit_same t.1 (single v) t.0 e, e) in
    ap (λ (x : ℕ). hit u t.1 t.0 + x) (spread bound p u h.1)
    ∙ ap (λ (x : ℕ). x + sum bound (λ w. hit u (single w) (coefficient_at p (single w)))) (sym one)
    ∙ sym (sum_add bound (λ w. hit u (single w) (hit (single w) t.1 t.0)) (λ w. hit u (single w) (coefficient_at p (single w))))
    ∙ sum_same bound _ _ (λ w l. sym (hit_add (single w) u (hit (single w) t.1 t.0) (coefficient_at p (single w))))

-- the empty set with one variable in it
with_none : (v : ℕ) → with_variable 0 (suc v) ≡ single (suc v)
unfolding with_variable bit single
with_none v = rw (zero-div, one-mul, zero-add)

-- c times the literals false, true, v and its inverse
module _ (m c x : ℕ) where
  -- by its variable and whether it is inverted
  literal_form : (v k : ℕ) → variable x ≡ v → inverted x ≡ k → times_literal m x ((c, 0) ∷ []) ≡ times_variable m v k (c, 0) ++ []
  unfolding times_literal
  literal_form v k e f = rw (e, f)

  -- false: nothing
  pub literal_false : variable x ≡ 0 → inverted x ≡ 0 → times_literal m x ((c, 0) ∷ []) ≡ []
  unfolding times_variable
  literal_false e f = literal_form 0 0 e f

  -- true: the constant
  pub literal_true : variable x ≡ 0 → inverted x ≡ 1 → times_literal m x ((c, 0) ∷ []) ≡ (c, single 0) ∷ []
  unfolding times_variable single
  literal_true e f = literal_form 0 1 e f

  -- a variable
  pub literal_plain : 0 < variable x → inverted x ≡ 0 → times_literal m x ((c, 0) ∷ []) ≡ (c, single (variable x)) ∷ []
  unfolding times_variable
  literal_plain h f = go (variable x) refl h
    where
      go : (v : ℕ) → variable x ≡ v → 0 < v → times_literal m x ((c, 0) ∷ []) ≡ (c, single v) ∷ []
      go zero e h = absurd (omega arith)
      go (suc v) e h = literal_form (suc v) 0 e f ∙ rw (with_none v)

  -- 1 less a variable
  pub literal_inverse : 0 < variable x → inverted x ≡ 1 → times_literal m x ((c, 0) ∷ []) ≡ (c, single 0) ∷ (m - c, single (variable x)) ∷ []
  unfolding times_variable single
  literal_inverse h f = go (variable x) refl h
    where
      go : (v : ℕ) → variable x ≡ v → 0 < v → times_literal m x ((c, 0) ∷ []) ≡ (c, 0) ∷ (m - c, single v) ∷ []
      go zero e h = absurd (omega arith)
      go (suc v) e h = literal_form (suc v) 1 e f ∙ rw (with_none v)

  -- each set is that of one variable or empty
  singly_literal : (bound : ℕ) → variable x < bound → Singly bound (times_literal m x ((c, 0) ∷ []))
  unfolding times_variable single
  singly_literal bound h = rw (literal_form (variable x) (inverted x) refl refl) (go (variable x) (inverted x) h)
    where
      go : (v k : ℕ) → v < bound → Singly bound (times_variable m v k (c, 0) ++ [])
      go zero zero h = tt
      go zero (suc k) h = ((0, h, refl), tt)
      go (suc v) zero h = ((suc v, h, with_none v), tt)
      go (suc v) (suc k) h = ((0, omega arith, refl), ((suc v, h, with_none v), tt))

-- so are those of lists one behind the other
singly_joined : (bound k : ℕ) (list : ℕ → Polynomial) → ((i : ℕ) → i < k → Singly bound (list i)) → Singly bound (joined k list)
unfolding joined
singly_joined bound zero list h = tt
singly_joined bound (suc k) list h =
    singly_append bound (joined k list) (list k) (singly_joined bound k list (λ i l. h i (omega arith))) (h k (omega arith))

-- of minus a list
singly_minus : (bound m : ℕ) (p : Polynomial) → Singly bound p → Singly bound (minus m p)
unfolding minus
singly_minus bound m [] h = tt
singly_minus bound m (t ∷ p) h = (h.0, singly_minus bound m p h.1)

-- of the first bits of c
singly_addends : (bound n count : ℕ) → n + n + count < bound → Singly bound (addend_terms n count)
unfolding addend_terms addend_term
singly_addends bound n count h =
    singly_joined bound count _ (λ k l. ((2 * n + 1 + k, omega arith, sym (single_up (2 * n + 1 + k) (omega arith))), tt))

-- the coefficients of the outputs of a sound table, less c, are those of its variables and of the constant
pub singles_spread : (kind : Kind) (c : Counts) (table : List ℕ) (u : ℕ) → counts_right c ≡ true → table_sound c table ≡ true
    → coefficient_at (single_terms kind c table) u ≡ sum (c.m + 1) (λ v. hit u (single v) (coefficient_at (single_terms kind c table) (single v)))
unfolding single_terms output_terms
singles_spread kind c table u right sound =
    let n = operand_width kind c in
    spread (c.m + 1) (single_terms kind c table) u
    (singly_append (c.m + 1) (output_terms (2 ^ c.o) table c.o) _
    (singly_joined (c.m + 1) c.o _
    (λ i l. singly_literal (2 ^ c.o) (2 ^ i) (output table i) (c.m + 1) (omega (arith, (sound_table c table sound).output_variables i l))))
    (singly_minus (c.m + 1) (2 ^ c.o) (addend_terms n (addend_width kind n))
    (singly_addends (c.m + 1) n (addend_width kind n) (omega (arith, operands_within kind c, (right_counts c right).variables)))))
