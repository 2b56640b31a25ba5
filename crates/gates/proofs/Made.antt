-- How many terms a record makes of one.
use mathlib.Core.Path.{◌≡◌, refl, ap, sym, ◌∙◌}
use mathlib.Core.Bool.{Bool, true, false, cond, not, true≢false}
use mathlib.Core.List.{List, [], ◌∷◌}
use Prim.Native.Nat.{ℕ, zero, suc, ◌+◌, ◌≤◌}
use native.Mathlib.Omega.{arith}
use lib.Dec.{eqb}
use lib.IntN.{ℤ, pos}
use lib.ListN.{length, get_or, take, length-append}
use Rattle.std.proofs.Common.{count_by}
use Rattle.std.proofs.lemmas.List.Sums.{sum_by_more}
use Rattle.std.proofs.lemmas.Bool.Decides.{Decides-int_eq}
use Rattle.std.specs.Ordering.{int_eq}
use native.Mathlib.Numerals.{add-one}
use borrow.Author.Tests.{ne_eqb}
use Rattle.rules.specs.Cells.{above, below}
use Rattle.rules.specs.Each.{sum, joined}
use Rattle.rules.specs.Netlist.{variable, inverted}
use Rattle.rules.specs.Occurrences.{present}
use Rattle.rules.specs.Polynomial.{Term, Polynomial, times_variable, times_literal, times_chosen}
use Rattle.rules.specs.Steps.{times_subset, times_whole, times_record}
use Rattle.rules.specs.Values.{bit}
use Rattle.rules.specs.declared.records.Record.{Record}
use Rattle.rules.specs.declared.records.Record.TheVariants.{Gate, Cell}
use Rattle.rules.proofs.Indices.{sum_same}
use Rattle.gates.specs.Apart.{Free, and_row, record_row, record_variables}
use Rattle.gates.specs.Rows.{row_of, Same, not_zero, times_row, leaving}
use Rattle.gates.specs.declared.apart.Variables.{Variables}
use Rattle.gates.proofs.Parted.{by_literal, literal_by, left_makes, all_left}
use Rattle.gates.proofs.Spread.{whole_makes}
use Rattle.gates.proofs.Whole.{whole_none}

-- a number that is not 0 counts once
pub present_one : (n : ℕ) → (n ≡ 0 → ⊥) → present n ≡ 1
unfolding present
present_one zero h = absurd (h refl)
present_one (suc n) h = refl

-- so does a coefficient
present_whole : (z : ℤ) (none : Bool) → int_eq z (pos 0) ≡ none → present (above z + below z) ≡ cond (not none) 1 0
unfolding above below present
present_whole z true e = rw ((Decides-int_eq z (pos 0)).0 e)
present_whole z false e = present_one (above z + below z) (λ q. absurd (true≢false (sym ((Decides-int_eq z (pos 0)).1 (whole_none z q)) ∙ e)))

-- as many of the first n count as are not 0
pub counted_front : (row : List ℤ) (n : ℕ) → n ≤ length row → count_by (λ z. not (int_eq z (pos 0))) (take n row) ≡ not_zero n (row_of row)
unfolding not_zero sum row_of
counted_front row zero h = refl
counted_front row (suc n) h =
    ap (λ (k : ℕ). count_by (λ z. not (int_eq z (pos 0))) (take k row)) (sym (add-one n))
    ∙ sum_by_more (λ (z : ℤ). cond (not (int_eq z (pos 0))) 1 0) row n (pos 0) (omega arith)
    ∙ rw (counted_front row n (omega arith), present_whole (get_or row n (pos 0)) _ refl)

-- a list of one term, or of none where n is 0
one_long : (q : Term) (n : ℕ) → length (cond (eqb n 0) [] (q ∷ [])) ≡ present n
unfolding present
one_long q zero = refl
one_long q (suc n) = rw (ne_eqb (suc n) 0 (λ e. omega arith))

-- lists one behind the other are as long as all of them together
joined_long : (n : ℕ) (list : ℕ → Polynomial) → length (joined n list) ≡ sum n (λ i. length (list i))
unfolding joined sum
joined_long zero list = refl
joined_long (suc n) list = rw (length-append, joined_long n list)

-- coefficients of which none puts constant false in make as many terms as are not 0
row_long : (m : ℕ) (row : ℕ → ℤ) (x y z : ℕ) (t : Term) → (x ≡ 0 → Free 0 row) → (y ≡ 0 → Free 1 row) → (z ≡ 0 → Free 2 row)
    → length (times_row m row x y z t) ≡ not_zero 8 row
unfolding times_row not_zero
row_long m row x y z t fx fy fz =
    joined_long 8 (λ u. times_whole m (row u) u x y z t)
    ∙ sum_same 8 (λ u. length (times_whole m (row u) u x y z t)) (λ u. present (above (row u) + below (row u)))
    (λ u l. rw (whole_makes m (row u) u x y z t (λ e. fx e u l) (λ e. fy e u l) (λ e. fz e u l)) (one_long _ (above (row u) + below (row u))))

-- the product of two literals makes as many terms as its coefficients do
product_long : (m : ℕ) (t : Term) (v n w k : ℕ) → length (by_literal m v n (by_literal m w k (t ∷ []))) ≡ length (times_row m (row_of (and_row n k)) v w 0 t)
unfolding by_literal times_variable times_row joined times_whole times_subset times_chosen and_row row_of above below bit
product_long m t zero zero zero zero = refl
product_long m t zero zero zero (suc k) = refl
product_long m t zero zero (suc w) zero = refl
product_long m t zero zero (suc w) (suc k) = refl
product_long m t zero (suc n) zero zero = refl
product_long m t zero (suc n) zero (suc k) = refl
product_long m t zero (suc n) (suc w) zero = refl
product_long m t zero (suc n) (suc w) (suc k) = refl
product_long m t (suc v) zero zero zero = refl
product_long m t (suc v) zero zero (suc k) = refl
product_long m t (suc v) zero (suc w) zero = refl
product_long m t (suc v) zero (suc w) (suc k) = refl
product_long m t (suc v) (suc n) zero zero = refl
product_long m t (suc v) (suc n) zero (suc k) = refl
product_long m t (suc v) (suc n) (suc w) zero = refl
product_long m t (suc v) (suc n) (suc w) (suc k) = refl

-- a record makes as many terms as its coefficients do
record_long : (r : Record) (m : ℕ) (t : Term)
    → length (times_record m r t) ≡ length (times_row m (record_row r) (record_variables r).x (record_variables r).y (record_variables r).z t)
unfolding times_record times_row record_row record_variables
record_long (Gate x y) m t =
    ap length (literal_by m x (times_literal m y (t ∷ [])) ∙ ap (by_literal m (variable x) (inverted x)) (literal_by m y (t ∷ [])))
    ∙ product_long m t (variable x) (inverted x) (variable y) (inverted y)
record_long (Cell byte x1 x2 x3) m t = refl

-- as many terms as coefficients are not 0, once what puts constant false in is left out of them
pub made_long : (r : Record) (q : Variables) (one two three : ℕ → ℤ) → q ≡ record_variables r → Same one (leaving (record_variables r).z 2 (record_row r))
    → Same two (leaving q.x 0 one) → Same three (leaving q.y 1 two) → (m : ℕ) (t : Term) → not_zero 8 three ≡ length (times_record m r t)
made_long r q one two three k e1 e2 e3 m t =
    let p = all_left r q k one two three e1 e2 e3 in
    sym (record_long r m t ∙ ap length (left_makes r one two three e1 (rw k at e2) (rw k at e3) m t)
    ∙ rw (← k) (row_long m three q.x q.y q.z t p.no_x p.no_y p.no_z))
