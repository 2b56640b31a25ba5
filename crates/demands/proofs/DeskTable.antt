-- The desk's table has room for every netlist within the limits, so refusal 3 is never met.
use mathlib.Core.Path.{◌≡◌, ap, sym, ◌∙◌}
use mathlib.Core.Bool.{Bool, true, false, not, ◌&&◌, true≢false}
use mathlib.Core.List.{List, [], ◌∷◌, append-nil}
use mathlib.Core.Logic.{inl, inr}
use Prim.Native.Nat.{ℕ, ◌*◌, ◌≤◌}
use native.Mathlib.Omega.{arith}
use lib.Dec.{eqb}
use lib.ListN.{length, get_or, drop}
use borrow.Author.Tests.{le-ltb, eq-eqb}
use Rattle.rules.specs.Each.{every}
use Rattle.rules.specs.Says.{refuses}
use Rattle.rules.specs.Netlist.{needed, counts_wrong, table_short}
use Rattle.rules.specs.Judging.{judge_checks}
use Rattle.rules.specs.Text.{line_feed, decimal}
use Rattle.rules.specs.Reading.{value_from}
use Rattle.rules.specs.Desk.{desk_table, desk_checks, spaced, printed}
use Rattle.rules.specs.declared.counts.Counts.{Counts}
use Rattle.rules.specs.declared.records.RecordKind.TheVariants.{Gates}
use Rattle.rules.proofs.Indices.{both}
use Rattle.rules.proofs.Sound.{not_wrong}
use Rattle.demands.specs.Refusals.{First, Unread, header, counts, short, inputs, outputs, gates, after, DeskUnfit, long, kindless, unread, large, unjudged, DeskNeverShort}
use Rattle.demands.proofs.Digits.{decimal_value, value_append}
use Rattle.demands.proofs.Tables.{needed_gates}
use Rattle.demands.proofs.DeskRefused.{desk_refused_exact}

-- O + 2A is at most 64 + 2 · 1,021
needed_most : (c : Counts) → c.records ≡ Gates → counts_wrong c ≡ false → needed c ≤ desk_table
needed_most c all_gates h =
    let r = not_wrong c h in
    omega (arith, needed_gates c all_gates, r.variables, r.most, r.inputs, r.outputs)

-- a table with room is not too short
not_short : (c : Counts) (lent : ℕ) → needed c ≤ lent → table_short c lent ≡ false
unfolding table_short
not_short c lent h = le-ltb lent (needed c) h

-- a check has another number, or its condition does not hold
unfoldable passes : ℕ → ℕ × Bool → Bool
passes k check = not (eqb check.0 k && check.1)

-- where every check does so, the number is not that of the first condition that holds
not_first : (list : List (ℕ × Bool)) (k : ℕ) → every (passes k) list ≡ true → First list k → ⊥
unfolding every passes
not_first [] k n f = f
not_first (check ∷ later) k n (inl e) =
    let own : passes k check ≡ true = (both (passes k check) (every (passes k) later) n).0 in
    true≢false (sym own ∙ rw (eq-eqb check.0 k e.0, e.1))
not_first (check ∷ later) k n (inr e) = not_first later k (both (passes k check) (every (passes k) later) n).1 e.1

-- no text has a table that is too short wrong with it
unread_else : (text : List ℕ) (k : ℕ) → Unread desk_table text k → k ≡ 3 → ⊥
unread_else text k (header h) e = omega arith
unread_else text k (counts c h w) e = omega arith
unread_else text k (short c h w r) e = true≢false (sym r ∙ not_short c desk_table (needed_most c h.gates w))
unread_else text k (inputs c h n) e = omega arith
unread_else text k (outputs c h b n) e = omega arith
unread_else text k (gates c h b n) e = omega arith
unread_else text k (after c table x rest h s t) e = omega arith

-- and no input has
unfit_else : (input : List ℕ) (k : ℕ) → DeskUnfit input k → k ≡ 3 → ⊥
unfolding desk_checks judge_checks every passes
unfit_else input k (long h) e = omega arith
unfit_else input k (kindless s n) e = omega arith
unfit_else input k (unread s kind text a j u) e = unread_else text j u e
unfit_else input k (large s kind text a c table w h) e = omega arith
unfit_else input k (unjudged s kind text a c table w h j f) e =
    let room : table_short c (length table) ≡ false = not_short c (length table) (omega (arith, w.words)) in
    not_first (desk_checks kind c table) j (rw (e, room)) f

-- a refusal's line has its number: ten times that is the value of what stands behind X and the space
printed_value : (k : ℕ) → value_from 0 (drop 2 (printed (refuses k))) ≡ 10 * k
unfolding printed spaced value_from
printed_value k = rw (append-nil (decimal k), value_append 0 (decimal k) (line_feed ∷ []), decimal_value k) (omega arith)

-- the desk never prints `X 3`
pub desk_never_short : DeskNeverShort
unfolding printed
desk_never_short input r lined e =
    let (k, unfit, line) = (desk_refused_exact input r lined).1 (ap (λ (line : List ℕ). get_or line 0 0) e) in
    let same : 10 * k ≡ 10 * 3 =
    sym (printed_value k) ∙ ap (λ (line : List ℕ). value_from 0 (drop 2 line)) (sym line ∙ e) ∙ printed_value 3 in
    unfit_else input k unfit (omega arith)
