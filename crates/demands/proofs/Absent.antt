-- Which variables occur in a polynomial after steps: none but those that occurred before and those that the gates read; variable 0
-- never does.
use mathlib.Core.Path.{◌≡◌, sym, ◌∙◌}
use mathlib.Core.Bool.{false}
use mathlib.Core.List.{List, []}
use mathlib.Core.Logic.{◌⊎◌, inl, inr, ⊎_elim}
use Prim.Native.Nat.{ℕ, suc, ◌+◌, ◌*◌, ◌^◌, ◌<◌, ◌≤◌}
use native.Mathlib.Omega.{arith}
use lib.ListN.{length, get_or}
use Rattle.rules.specs.Netlist.{record_at, EveryVariable, reads}
use Rattle.rules.specs.Values.{bit}
use Rattle.rules.specs.Product.{Kind, operand_width, addend_width}
use Rattle.rules.specs.Polynomial.{Term, Polynomial}
use Rattle.rules.specs.Steps.{modulus, start_terms, start, step, trail, run, after}
use Rattle.rules.specs.declared.counts.Counts.{Counts}
use Rattle.rules.specs.declared.records.Record.{Record}
use Rattle.rules.specs.declared.records.Record.TheVariants.{Gate, Cell}
use Rattle.rules.proofs.Indices.{below_suc}
use Rattle.rules.proofs.Sound.{every_variable, reads_others}
use Rattle.rules.proofs.All.{all_map, all_always}
use Rattle.rules.proofs.AllSets.{AllSets, Joins, all_start, all_gather, all_step}
use Rattle.rules.proofs.Bits.{bit_none, bit_put, bit_other, bit_with, bit_without}
use Rattle.rules.proofs.Trails.{trail_keeps}

-- variable u is not in the set
abbrev pub Lacks : ℕ → ℕ → Type 0
Lacks u s = bit s u ≡ 0

-- variable u occurs in no set
abbrev pub Absent : ℕ → Polynomial → Type 0
Absent u = AllSets (Lacks u)

-- what holds of every number holds of every variable of a record
any_variable : (P : ℕ → Type 0) → ((w : ℕ) → P w) → (r : Record) → EveryVariable P r
any_variable P holds (Gate x y) = (holds _, holds _)
any_variable P holds (Cell byte x1 x2 x3) = (holds x1, holds x2, holds x3)

-- a set with another variable put in lacks what it lacked
lacks_joins : (u v : ℕ) → (0 < v → u ≡ v → ⊥) → Joins (Lacks u) v
lacks_joins u v other l s h = bit_with s v u (other l) ∙ h

module _ (m : ℕ) (c : Counts) (table : List ℕ) (u : ℕ) where
  -- after a step of v: v does not occur, nor does what did not occur, unless v reads it
  step_absent : (v : ℕ) (p : Polynomial) → EveryVariable (Joins (Lacks u)) (record_at c table v)
      → Absent u p ⊎ (u ≡ v) → Absent u (step m c table v p)
  step_absent v p joins a =
      all_step (λ s. Lacks u s ⊎ (u ≡ v)) (Lacks u) m v
      (λ s e h. ⊎_elim (λ (none : Lacks u s). none) (λ (same : u ≡ v). rw same e) h)
      (λ s e h. bit_without s v u e h) c table joins p
      (⊎_elim
      (λ (none : Absent u p). all_map p (λ t h. inl h) none)
      (λ (same : u ≡ v). all_always (λ (t : Term). Lacks u t.1 ⊎ (u ≡ v)) (λ t. inr same) p) a)

  -- a gate that does not read u reads other variables
  unread_joins : (v : ℕ) → reads c table v u ≡ false → EveryVariable (Joins (Lacks u)) (record_at c table v)
  unfolding reads
  unread_joins v h =
      let r = record_at c table v in
      every_variable (λ w. w ≡ u → ⊥) (Joins (Lacks u)) (λ w other. lacks_joins u w (λ l e. other (sym e))) r (reads_others r u h)

  -- a variable that is replaced, and that no gate from there on reads, does not occur at the end
  pub absent_after : (order : List ℕ) (p : Polynomial) (k : ℕ) → k < length order → get_or order k 0 ≡ u
      → ((j : ℕ) → k ≤ j → j < length order → reads c table (get_or order j 0) u ≡ false)
      → Absent u (get_or (trail m c table p order) (length order) [])
  absent_after order p k l e unread =
      trail_keeps (λ j q. k < j → Absent u q) m c table order keeps p (λ b. absurd (omega arith)) (length order) (omega arith) l
    where
      keeps : (j : ℕ) → j < length order → (q : Polynomial) → (k < j → Absent u q) → k < suc j → Absent u (step m c table (get_or order j 0) q)
      keeps j lj q h b =
          step_absent (get_or order j 0) q (unread_joins (get_or order j 0) (unread j (omega arith) lj))
          (⊎_elim (λ (same : k ≡ j). inr (sym (rw same at e))) (λ (before : k < j). inl (h before)) (below_suc k j b))

-- variable 0 is in no set of the run
pub false_absent : (kind : Kind) (c : Counts) (table order : List ℕ) (k : ℕ) → k ≤ length order → Absent 0 (after kind c table order k)
unfolding start after run
false_absent kind c table order =
    trail_keeps (λ j. Absent 0) m c table order
    (λ j l p none. step_absent m c table 0 (get_or order j 0) p (any_variable (Joins (Lacks 0)) other (record_at c table (get_or order j 0))) (inl none))
    (start kind c table)
    (all_gather (Lacks 0) m (start_terms kind c table) (all_start (Lacks 0) kind c table (bit_none 0) (λ i l. other _) two one))
  where
    m : ℕ
    m = modulus kind c

    other : (v : ℕ) → Joins (Lacks 0) v
    other v = lacks_joins 0 v (λ l e. omega arith)

    n : ℕ
    n = operand_width kind c

    two : (i j : ℕ) → i < n → j < n → Lacks 0 (2 ^ (1 + i) + 2 ^ (n + 1 + j))
    two i j k l =
        bit_put (2 ^ (1 + i)) (n + 1 + j) 0 (bit_other (1 + i) (n + 1 + j) (λ e. omega arith)) (λ e. omega arith)
        ∙ bit_other (1 + i) 0 (λ e. omega arith)

    one : (i : ℕ) → i < addend_width kind n → Lacks 0 (2 ^ (2 * n + 1 + i))
    one i l = bit_other (2 * n + 1 + i) 0 (λ e. omega arith)
