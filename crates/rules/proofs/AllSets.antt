-- What holds of every set of a polynomial, or of every term, and what a step keeps of it.
use mathlib.Core.Path.{◌≡◌}
use mathlib.Core.Bool.{Bool, true, false, cond}
use mathlib.Core.List.{List, [], ◌∷◌}
use mathlib.Core.Logic.{⊎_elim}
use Prim.Native.Nat.{ℕ, zero, suc, ◌+◌, ◌-◌, ◌*◌, ◌%◌, ◌^◌, ◌<◌}
use native.Mathlib.Omega.{arith}
use lib.Dec.{eqb, ltb}
use lib.IntN.{ℤ}
use Rattle.rules.specs.Each.{joined}
use Rattle.rules.specs.Netlist.{variable, inverted, output, record_at, EveryVariable}
use Rattle.rules.specs.Values.{bit}
use Rattle.rules.specs.Product.{Kind, operand_width, addend_width, product_term, addend_term, specification}
use Rattle.rules.specs.Polynomial.{Term, Polynomial, Under, keep, place, insert, gather, minus, with_variable, times_variable, times_literal, times_chosen}
use Rattle.rules.specs.Cells.{coefficient, above, below, scaled}
use Rattle.rules.specs.Steps.{modulus, start_terms, where_held, times_subset, times_whole, times_record, replaced, all_replaced, step}
use Rattle.rules.specs.declared.counts.Counts.{Counts}
use Rattle.rules.specs.declared.records.Record.{Record}
use Rattle.rules.specs.declared.records.Record.TheVariants.{Gate, Cell}
use Rattle.rules.proofs.All.{All, all_append, all_joined}
use Rattle.rules.proofs.Bits.{bit_cases}

-- P holds of every set
abbrev pub AllSets : (ℕ → Type 0) → Polynomial → Type 0
AllSets P = All (λ (t : Term). P t.1)

-- every set is below a bound
pub sets_under : (b : ℕ) (p : Polynomial) → AllSets (λ s. s < b) p → Under b p
sets_under b [] h = tt
sets_under b (t ∷ p) h = (h.0, sets_under b p h.1)

module _ (P : ℕ → Type 0) where
  -- of one term more
  all_keep : (c s : ℕ) (p : Polynomial) → P s → AllSets P p → AllSets P (keep c s p)
  unfolding keep
  all_keep zero s p e h = h
  all_keep (suc c) s p e h = (e, h)

  -- of one term more, put at its place
  all_place : (m c s : ℕ) (t : Term) (p lower : Polynomial) (same less : Bool) → P s → AllSets P (t ∷ p) → AllSets P lower
      → AllSets P (place m c s t p lower same less)
  unfolding place
  all_place m c s t p lower true less e h k = all_keep _ s p e h.1
  all_place m c s t p lower false true e h k = (h.0, k)
  all_place m c s t p lower false false e h k = all_keep _ s (t ∷ p) e h

  -- of one term more, gathered
  all_insert : (m c s : ℕ) (p : Polynomial) → P s → AllSets P p → AllSets P (insert m c s p)
  unfolding insert
  all_insert m c s [] e h = all_keep (c % m) s [] e tt
  all_insert m c s (t ∷ p) e h = all_place m c s t p (insert m c s p) (eqb s t.1) (ltb s t.1) e h (all_insert m c s p e h.1)

  -- of what is gathered
  pub all_gather : (m : ℕ) (p : Polynomial) → AllSets P p → AllSets P (gather m p)
  unfolding gather
  all_gather m [] h = tt
  all_gather m (t ∷ p) h = all_insert m t.0 t.1 (gather m p) h.0 (all_gather m p h.1)

-- P stays where variable v is put into a term's set, also with m less its coefficient
abbrev pub TermJoins : ℕ → (Term → Type 0) → ℕ → Type 0
TermJoins m P v = 0 < v → (t : Term) → P t → P (t.0, with_variable t.1 v) × P (m - t.0, with_variable t.1 v)

module _ (P : Term → Type 0) (m : ℕ) where
  -- of a term times a variable or its inverse
  all_variable : (v n : ℕ) (t : Term) → TermJoins m P v → P t → All P (times_variable m v n t)
  unfolding times_variable
  all_variable zero zero t joins h = tt
  all_variable zero (suc k) t joins h = (h, tt)
  all_variable (suc v) zero t joins h = ((joins (omega arith) t h).0, tt)
  all_variable (suc v) (suc k) t joins h = (h, ((joins (omega arith) t h).1, tt))

  -- of a polynomial times a literal
  pub all_literal : (x : ℕ) (p : Polynomial) → TermJoins m P (variable x) → All P p → All P (times_literal m x p)
  unfolding times_literal
  all_literal x [] joins h = tt
  all_literal x (t ∷ p) joins h =
      all_append P (times_variable m (variable x) (inverted x) t) (times_literal m x p)
      (all_variable (variable x) (inverted x) t joins h.0)
      (all_literal x p joins h.1)

-- P stays where variable v is put into a set
abbrev pub Joins : (ℕ → Type 0) → ℕ → Type 0
Joins P v = 0 < v → (s : ℕ) → P s → P (with_variable s v)

-- of the sets of a polynomial times a literal
pub all_literal_sets : (P : ℕ → Type 0) (m x : ℕ) (p : Polynomial) → Joins P (variable x) → AllSets P p → AllSets P (times_literal m x p)
all_literal_sets P m x p joins = all_literal (λ t. P t.1) m x p (λ l t h. (joins l t.1 h, joins l t.1 h))

-- of the sets of minus a polynomial
all_minus : (P : ℕ → Type 0) (m : ℕ) (p : Polynomial) → AllSets P p → AllSets P (minus m p)
unfolding minus
all_minus P m [] h = tt
all_minus P m (t ∷ p) h = (h.0, all_minus P m p h.1)

-- of the sets of a specification: two bits of a and b, and one bit of c
all_specification : (P : ℕ → Type 0) (kind : Kind) (m n : ℕ)
    → ((i j : ℕ) → i < n → j < n → P (2 ^ (1 + i) + 2 ^ (n + 1 + j)))
    → ((k : ℕ) → k < addend_width kind n → P (2 ^ (2 * n + 1 + k)))
    → AllSets P (specification kind m n)
unfolding specification product_term addend_term
all_specification P kind m n two one =
    let products : ℕ → ℕ → Polynomial = λ i j. product_term kind m n i j ∷ [] in
    let addends : ℕ → Polynomial = λ k. addend_term n k ∷ [] in
    all_append (λ t. P t.1) (joined n (λ i. joined n (products i))) (joined (addend_width kind n) addends)
    (all_joined (λ t. P t.1) n (λ i. joined n (products i)) (λ i k. all_joined (λ t. P t.1) n (products i) (λ j l. (two i j k l, tt))))
    (all_joined (λ t. P t.1) (addend_width kind n) addends (λ k l. (one k l, tt)))

-- of the start's terms: P holds of the empty set, stays with the outputs' variables, and holds of the sets of the specification
pub all_start : (P : ℕ → Type 0) (kind : Kind) (c : Counts) (table : List ℕ) → P 0
    → ((i : ℕ) → i < c.o → Joins P (variable (output table i)))
    → ((i j : ℕ) → i < operand_width kind c → j < operand_width kind c → P (2 ^ (1 + i) + 2 ^ (operand_width kind c + 1 + j)))
    → ((k : ℕ) → k < addend_width kind (operand_width kind c) → P (2 ^ (2 * operand_width kind c + 1 + k)))
    → AllSets P (start_terms kind c table)
unfolding start_terms
all_start P kind c table none joins two one =
    let m = modulus kind c in
    let n = operand_width kind c in
    let outputs : ℕ → Polynomial = λ i. times_literal m (output table i) ((2 ^ i, 0) ∷ []) in
    all_append (λ t. P t.1) (joined c.o outputs) (minus m (specification kind m n))
    (all_joined (λ t. P t.1) c.o outputs (λ i l. all_literal_sets P m (output table i) ((2 ^ i, 0) ∷ []) (joins i l) (none, tt)))
    (all_minus P m (specification kind m n) (all_specification P kind m n two one))

-- of the sets of a polynomial times a variable, where it is chosen
all_chosen : (P : ℕ → Type 0) (d v : ℕ) (p : Polynomial) → Joins P v → AllSets P p → AllSets P (times_chosen d v p)
unfolding times_chosen
all_chosen P zero v p joins h = h
all_chosen P (suc d) v [] joins h = tt
all_chosen P (suc d) zero (t ∷ p) joins h = tt
all_chosen P (suc d) (suc v) (t ∷ p) joins h = (joins (omega arith) t.1 h.0, all_chosen P (suc d) (suc v) p joins h.1)

-- of the sets of a term times what a record stands for
pub all_record : (P : ℕ → Type 0) (m : ℕ) (r : Record) (t : Term) → EveryVariable (Joins P) r → P t.1 → AllSets P (times_record m r t)
unfolding times_record times_whole times_subset
all_record P m (Gate x y) t joins h = all_literal_sets P m x _ joins.0 (all_literal_sets P m y _ joins.1 (h, tt))
all_record P m (Cell byte x1 x2 x3) t joins h =
    all_joined (λ t. P t.1) 8 (λ u. times_whole m (coefficient byte u) u x1 x2 x3 t) (λ u l. some (coefficient byte u) u (eqb (above (coefficient byte u) + below (coefficient byte u)) 0))
  where
    some : (z : ℤ) (u : ℕ) (none : Bool)
        → AllSets P (cond none [] (times_chosen (bit u 0) x1 (times_chosen (bit u 1) x2 (times_chosen (bit u 2) x3 ((scaled m z t.0, t.1) ∷ [])))))
    some z u true = tt
    some z u false =
        all_chosen P (bit u 0) x1 _ joins.0 (all_chosen P (bit u 1) x2 _ joins.1 (all_chosen P (bit u 2) x3 _ joins.2 (h, tt)))

-- P before, and Q after v is replaced by a record whose variables keep Q: Q holds without v, and where v is taken out
module _ (P Q : ℕ → Type 0) (m v : ℕ) (without : (s : ℕ) → bit s v ≡ 0 → P s → Q s) (out : (s : ℕ) → bit s v ≡ 1 → P s → Q (s - 2 ^ v)) where
  module _ (r : Record) (joins : EveryVariable (Joins Q) r) where
    -- of a term
    all_term_replaced : (t : Term) → P t.1 → AllSets Q (replaced m v r t)
    unfolding replaced where_held
    all_term_replaced t h = ⊎_elim
        (λ (e : bit t.1 v ≡ 0). rw e (without t.1 e h, tt))
        (λ (e : bit t.1 v ≡ 1). rw e (all_record Q m r _ joins (out t.1 e h)))
        (bit_cases t.1 v)

    -- of every term
    pub all_terms_replaced : (p : Polynomial) → AllSets P p → AllSets Q (all_replaced m v r p)
    unfolding all_replaced
    all_terms_replaced [] h = tt
    all_terms_replaced (t ∷ p) h =
        all_append (λ t. Q t.1) (replaced m v r t) (all_replaced m v r p) (all_term_replaced t h.0) (all_terms_replaced p h.1)

  -- of a step
  pub all_step : (c : Counts) (table : List ℕ) → EveryVariable (Joins Q) (record_at c table v)
      → (p : Polynomial) → AllSets P p → AllSets Q (step m c table v p)
  unfolding step
  all_step c table joins p h =
      all_gather Q m (all_replaced m v (record_at c table v) p) (all_terms_replaced (record_at c table v) joins p h)
