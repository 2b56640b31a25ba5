-- How numbers move: by what goes and what comes, one move behind the other.
use Rattle.std.proofs.Common.{◌≡◌, ℕ, ◌+◌, ◌*◌, ◌%◌, ◌^◌, List, get_or, refl, ◌∙◌, add-zero, one-mul, arith}
use native.Mathlib.Nat.{mod-mod, mod-add-mod, add-mul-mod_self_left}
use Rattle.tally.specs.Marks.{Marked, Moved}

-- two moves of one number, modulo m
two_moves : (m a b c gone gone' come come' : ℕ) → (b + gone) % m ≡ (a + come) % m → (c + gone') % m ≡ (b + come') % m
    → (c + (gone + gone')) % m ≡ (a + (come + come')) % m
two_moves m a b c gone gone' come come' first second =
    let front : c + (gone + gone') ≡ c + gone' + gone = omega arith in
    let middle : b + come' + gone ≡ b + gone + come' = omega arith in
    let last : a + (come + come') ≡ a + come + come' = omega arith in
    rw (front, last, ← mod-add-mod (c + gone') m gone, second, mod-add-mod (b + come') m gone, middle, ← mod-add-mod (b + gone) m come', first, mod-add-mod (a + come) m come')

-- one move behind the other
pub moved_add : {gone come gone' come' goes comes : ℕ → ℕ} {n₀ n₁ n₂ : List ℕ} → ((u : ℕ) → goes u ≡ gone u + gone' u) → ((u : ℕ) → comes u ≡ come u + come' u)
    → Moved gone come n₀ n₁ → Moved gone' come' n₁ n₂ → Moved goes comes n₀ n₂
moved_add {n₀ = n₀} {n₁} {n₂} g h first second =
    record {
      long = second.long ∙ first.long;
      each = λ u l. rw (g u, h u) (two_moves (2 ^ 32) (get_or n₀ u 0) (get_or n₁ u 0) (get_or n₂ u 0) _ _ _ _ (first.each u l) (second.each u (rw first.long l)));
    }

-- as much goes as comes
pub moved_same : {gone come : ℕ → ℕ} {n : List ℕ} → ((u : ℕ) → gone u ≡ come u) → Moved gone come n n
moved_same e = record { long = refl; each = λ u l. rw (e u) }

-- what is marked by 1 comes
pub moved_come : {gone come : ℕ → ℕ} {n₀ n : List ℕ} → ((u : ℕ) → gone u ≡ 0) → Marked 1 come n₀ n → Moved gone come n₀ n
moved_come none m = record { long = m.long; each = λ u l. rw (none u, add-zero, m.each u l, one-mul, mod-mod) }

-- what is marked by 2^32 - 1 goes
pub moved_gone : {gone come : ℕ → ℕ} {n₀ n : List ℕ} → ((u : ℕ) → come u ≡ 0) → Marked 4294967295 gone n₀ n → Moved gone come n₀ n
moved_gone {gone} {come} {n₀} {n} none m =
    record {
      long = m.long;
      each = λ u l.
          let whole : get_or n₀ u 0 + 4294967295 * gone u + gone u ≡ get_or n₀ u 0 + 2 ^ 32 * gone u = omega arith in
          rw (none u, add-zero, m.each u l, mod-add-mod, whole) (add-mul-mod_self_left (get_or n₀ u 0) (2 ^ 32) (gone u));
    }
