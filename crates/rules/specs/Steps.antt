-- The start polynomial, a step, and the polynomials after every number of steps.
use Rattle.std.specs.Prelude.{Bool, not, cond, ◌||◌, ◌&&◌, List, [], ◌∷◌, ◌++◌, ℕ, zero, suc, ◌+◌, ◌-◌, ◌^◌, ltb, eqb, ℤ, length, get_or}
use Rattle.rules.specs.Each.{each, joined}
use Rattle.rules.specs.Netlist.{gate, output, record_at, reads}
use Rattle.rules.specs.Values.{bit}
use Rattle.rules.specs.Product.{Kind, operand_width, outputs_of, specification}
use Rattle.rules.specs.Polynomial.{Term, Polynomial, gather, minus, times_literal, times_chosen}
use Rattle.rules.specs.Cells.{coefficient, above, below, scaled}
use Rattle.rules.specs.declared.counts.Counts.{Counts}
use Rattle.rules.specs.declared.records.Record.{Record}
use Rattle.rules.specs.declared.records.Record.TheVariants.{Gate, Cell}

-- 2^l for the outputs of a block
unfoldable pub modulus : Kind → Counts → ℕ
modulus kind c = 2 ^ outputs_of kind (operand_width kind c)

-- the sum of 2^i times output i, minus the specification polynomial; not yet gathered
unfoldable pub start_terms : Kind → Counts → List ℕ → Polynomial
start_terms kind c table =
    joined c.o (λ i. times_literal (modulus kind c) (output table i) ((2 ^ i, 0) ∷ []))
    ++ minus (modulus kind c) (specification kind (modulus kind c) (operand_width kind c))

-- the start polynomial
unfoldable pub start : Kind → Counts → List ℕ → Polynomial
start kind c table = gather (modulus kind c) (start_terms kind c table)

-- the first where v is not in the set, the second where it is
unfoldable pub where_held : ℕ → Polynomial → Polynomial → Polynomial
where_held zero without held = without
where_held (suc k) without held = held

-- a term times the variables of the subset u of x1, x2, x3
unfoldable pub times_subset : ℕ → ℕ → ℕ → ℕ → Term → Polynomial
times_subset u x1 x2 x3 t = times_chosen (bit u 0) x1 (times_chosen (bit u 1) x2 (times_chosen (bit u 2) x3 (t ∷ [])))

-- a term times a whole number, and times those variables; nothing where the number is 0
unfoldable pub times_whole : ℕ → ℤ → ℕ → ℕ → ℕ → ℕ → Term → Polynomial
times_whole m z u x1 x2 x3 t = cond (eqb (above z + below z) 0) [] (times_subset u x1 x2 x3 (scaled m z t.0, t.1))

-- a term times what a record stands for: the product of its two literals, or for each of its eight coefficients that is not 0, and whose
-- subset has no constant false, a term
unfoldable pub times_record : ℕ → Record → Term → Polynomial
times_record m (Gate x y) t = times_literal m x (times_literal m y (t ∷ []))
times_record m (Cell byte x1 x2 x3) t = joined 8 (λ u. times_whole m (coefficient byte u) u x1 x2 x3 t)

-- a term, with v replaced by its record where it holds v
unfoldable pub replaced : ℕ → ℕ → Record → Term → Polynomial
replaced m v r t = where_held (bit t.1 v) (t ∷ []) (times_record m r (t.0, t.1 - 2 ^ v))

-- every term so replaced; not yet gathered
unfoldable pub all_replaced : ℕ → ℕ → Record → Polynomial → Polynomial
all_replaced m v r [] = []
all_replaced m v r (t ∷ p) = replaced m v r t ++ all_replaced m v r p

-- the terms of a step of gate v before gathering: those without the gate, and all that the replacement made
unfoldable pub made : ℕ → Counts → List ℕ → ℕ → Polynomial → ℕ
made m c table v p = length (all_replaced m v (record_at c table v) p)

-- a step of gate v
unfoldable pub step : ℕ → Counts → List ℕ → ℕ → Polynomial → Polynomial
step m c table v p = gather m (all_replaced m v (record_at c table v) p)

-- p, and the polynomials after 1, 2, .. steps of the order from it, with no limit
unfoldable pub trail : ℕ → Counts → List ℕ → Polynomial → List ℕ → List Polynomial
trail m c table p [] = p ∷ []
trail m c table p (v ∷ order) = p ∷ trail m c table (step m c table v p) order

-- the polynomials after 0, 1, 2, .. steps from the start
unfoldable pub run : Kind → Counts → List ℕ → List ℕ → List Polynomial
run kind c table order = trail (modulus kind c) c table (start kind c table) order

-- the polynomial after k steps
unfoldable pub after : Kind → Counts → List ℕ → List ℕ → ℕ → Polynomial
after kind c table order k = get_or (run kind c table order) k []

-- how often v stands in an order
unfoldable pub times_named : ℕ → List ℕ → ℕ
times_named v [] = 0
times_named v (w ∷ order) = cond (eqb w v) 1 0 + times_named v order

-- an order has each gate exactly once, after every gate that reads it
unfoldable pub honest : Counts → List ℕ → List ℕ → Bool
honest c table order =
    each c.a (λ k. eqb (times_named (gate c k) order) 1)
    && each (length order) (λ j. each (length order) (λ k. ltb j k || not (reads c table (get_or order j 0) (get_or order k 0))))
