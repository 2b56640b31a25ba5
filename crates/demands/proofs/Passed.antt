-- An answer says that nothing is refused; and then every check passed.
use mathlib.Core.Path.{◌≡◌, refl}
use mathlib.Core.Bool.{Bool, true, false}
use mathlib.Core.List.{List, ◌∷◌}
use Prim.Native.Nat.{ℕ, zero, suc, ◌≤◌}
use native.Mathlib.Omega.{arith}
use lib.ListN.{length}
use borrow.Author.Tests.{ltb-false, not-false}
use Rattle.rules.specs.Each.{every}
use Rattle.rules.specs.Says.{Says, refuses, answers, first, refuse_or}
use Rattle.rules.specs.Limits.{terms_wrong, steps_wrong}
use Rattle.rules.specs.Netlist.{counts_right, counts_wrong, needed, table_short, table_sound, table_unsound}
use Rattle.rules.specs.Product.{kind_of, kind_unknown}
use Rattle.rules.specs.Judging.{Inputs, misfits, kind_wrong, is_gate, order_wrong, lent_short, judge_checks, checks, refusal}
use Rattle.rules.proofs.Indices.{neither}

-- an answer is no refusal
pub apart : {A : Type 0} (number k : ℕ) (given : List ℕ) → answers number given ≡ refuses k → A
apart number k given e = let z : ◌≡◌ {A = ℕ} 0 1 = cc in absurd (omega arith)

-- an answer behind checks says that none refused, and is what follows them
pub answered : (k : ℕ) (later : Says) (number : ℕ) (given : List ℕ) → answers number given ≡ refuse_or k later
    → (k ≡ 0) × (answers number given ≡ later)
unfolding refuse_or
answered zero later number given e = (refl, e)
answered (suc k) later number given e = apart number (suc k) given e

-- what the checks of judging ask
pub record Passed (x : Inputs) : Type 0 where
  pub counts : counts_right x.counts ≡ true
  pub words : needed x.counts ≤ length x.table
  pub sound : table_sound x.counts x.table ≡ true
  pub kind : kind_unknown x.kind ≡ false
  pub fitting : misfits x.counts (kind_of x.kind) ≡ false
  pub limit : terms_wrong x.limit ≡ false
  pub steps : steps_wrong (length x.order) ≡ false
  pub gates : every (is_gate x.counts) x.order ≡ true
  pub lent : lent_short x.counts x.limit (length x.order) (length x.store) (length x.scratch) (length x.log) (length x.occurrences) ≡ false

-- no check with a number above 0 has a condition that holds
pub none_holds : (k : ℕ) (t : Bool) (later : List (ℕ × Bool)) → first ((suc k, t) ∷ later) ≡ 0 → (t ≡ false) × (first later ≡ 0)
unfolding first
none_holds k true later h = absurd (omega arith)
none_holds k false later h = (refl, h)

-- nothing is refused: every check passed
pub passed : (x : Inputs) → refusal x ≡ 0 → Passed x
unfolding refusal checks judge_checks counts_wrong table_short table_unsound kind_wrong order_wrong
passed x h =
    let counts = none_holds 1 _ _ h in
    let words = none_holds 2 _ _ counts.1 in
    let sound = none_holds 7 _ _ words.1 in
    let kind = none_holds 8 _ _ sound.1 in
    let limit = none_holds 9 _ _ kind.1 in
    let order = none_holds 10 _ _ limit.1 in
    let lent = none_holds 11 _ _ order.1 in
    let kinds = neither _ _ kind.0 in
    let steps = neither _ _ order.0 in
    record {
      counts = not-false _ counts.0;
      words = ltb-false _ _ words.0;
      sound = not-false _ sound.0;
      kind = kinds.0;
      fitting = kinds.1;
      limit = limit.0;
      steps = steps.0;
      gates = not-false _ steps.1;
      lent = lent.0;
    }
