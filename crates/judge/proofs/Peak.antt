-- The terms of a step before gathering, from what its record makes of one and the number of terms that hold the gate.
use mathlib.Core.Path.{◌≡◌, refl, ap, sym, ◌∙◌}
use mathlib.Core.List.{List}
use mathlib.Core.Logic.{◌⊎◌, inl, inr, ⊎_elim}
use Prim.Native.Nat.{ℕ, zero, suc, ◌+◌, ◌-◌, ◌*◌, ◌^◌, ◌<◌, ◌≤◌}
use native.Mathlib.Omega.{arith}
use lib.ListN.{length, get_or}
use Rattle.rules.specs.Judging.{set_width}
use Rattle.rules.specs.Netlist.{record_at}
use Rattle.rules.specs.Occurrences.{occurring}
use Rattle.rules.specs.Polynomial.{Polynomial}
use Rattle.rules.specs.Steps.{made, all_replaced}
use Rattle.rules.specs.Values.{bit}
use Rattle.rules.specs.declared.counts.Counts.{Counts}
use Rattle.rules.specs.declared.records.Record.{Record}
use Rattle.rules.proofs.Bits.{bit_cases}
use Rattle.rules.proofs.Counted.{length_all_replaced}
use Rattle.demands.proofs.Entries.{occurs_counts, counts_occurs}
use Rattle.demands.proofs.Idle.{eight_of_a_term, replaced_nowhere}
use Rattle.words.specs.Stored.{decoded}
use Rattle.gates.specs.Apart.{Making}
use Rattle.poly.specs.Stepping.{Each}
use Rattle.judge.specs.Running.{Running}
use Rattle.judge.proofs.Numbers.{with_entry}

module _ {v : ℕ} {r : Record} {p : Polynomial} {each : ℕ} (l : 0 < v) (e : Each v r p each) where
  -- some term holds v, and the record makes that many of one; or none does
  each_cases : Making r each ⊎ ((each ≡ 0) × (occurring p v ≡ 0) × ((i : ℕ) → i < length p → bit (get_or p i (0, 0)).1 v ≡ 0))
  each_cases = go (occurring p v) refl
    where
      go : (n : ℕ) → occurring p v ≡ n → Making r each ⊎ ((each ≡ 0) × (occurring p v ≡ 0) × ((i : ℕ) → i < length p → bit (get_or p i (0, 0)).1 v ≡ 0))
      go zero z =
          let free : (i : ℕ) → i < length p → bit (get_or p i (0, 0)).1 v ≡ 0 =
          λ i k. ⊎_elim (λ (lacks : bit (get_or p i (0, 0)).1 v ≡ 0). lacks) (λ (holds : bit (get_or p i (0, 0)).1 v ≡ 1). absurd (omega (arith, occurs_counts v l p i k holds)))
          (bit_cases (get_or p i (0, 0)).1 v) in
          inr (e.none (λ i a k. free i k), z, free)
      go (suc n) s = let here = counts_occurs v l p (omega arith) in inl (e.some here.0 here.1 here.2)

  -- at most eight are made of one
  pub each_most : each ≤ 8
  each_most =
      ⊎_elim (λ (making : Making r each). rw (making 1 (0, 0)) (eight_of_a_term 1 r (0, 0)))
      (λ (none : (each ≡ 0) × (occurring p v ≡ 0) × ((i : ℕ) → i < length p → bit (get_or p i (0, 0)).1 v ≡ 0)). omega (arith, none.0))
      each_cases

  -- the terms before gathering: those that do not hold v, and what is made of the others
  raw_length : (m : ℕ) → length p - occurring p v + each * occurring p v ≡ length (all_replaced m v r p)
  raw_length m =
      ⊎_elim (λ (making : Making r each). sym (length_all_replaced m v r each (making m) l p))
      (λ (none : (each ≡ 0) × (occurring p v ≡ 0) × ((i : ℕ) → i < length p → bit (get_or p i (0, 0)).1 v ≡ 0)).
      rw (none.0, none.1, replaced_nowhere m v r p none.2) (omega arith))
      each_cases

-- the terms of a turn before gathering, from the number of those that hold the gate
pub step_peak : {c : Counts} {table : List ℕ} {limit count : ℕ} {store scratch occurrences : List ℕ}
    → Running c table limit count (decoded (set_width c) count store) store scratch occurrences → {v each o : ℕ} {part : Record} → c.i < v → v ≤ c.m
    → part ≡ record_at c table v → Each v part (decoded (set_width c) count store) each → o ≡ count - get_or occurrences v 0 + each * get_or occurrences v 0
    → o ≡ made (2 ^ c.o) c table v (decoded (set_width c) count store)
unfolding made
step_peak {c} {count = count} {store = store} {occurrences = occurrences} r {v} {each} above below e makes sum =
    let p = decoded (set_width c) count store in
    rw (← e)
    (sum ∙ ap (λ (n : ℕ). n - get_or occurrences v 0 + each * get_or occurrences v 0) r.counted
    ∙ ap (λ (n : ℕ). length p - n + each * n) (with_entry c p occurrences r.numbers v below)
    ∙ raw_length (omega arith) makes (2 ^ c.o))
