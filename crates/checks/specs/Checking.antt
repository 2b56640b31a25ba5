-- The checks of judging in two rows: those of the block, and those of what is asked of it.
use Rattle.std.specs.Prelude.{Bool, List, [], ◌∷◌, ℕ, length}
use Rattle.rules.specs.Netlist.{counts_wrong, table_short, table_unsound}
use Rattle.rules.specs.Limits.{terms_wrong}
use Rattle.rules.specs.Judging.{kind_wrong, order_wrong, lent_short}
use Rattle.rules.specs.declared.counts.Counts.{Counts}
use Rattle.checks.specs.declared.Lent.{Lent}

-- counts, table and kind
unfoldable pub block_checks : Counts → List ℕ → ℕ → List (ℕ × Bool)
block_checks c table kind =
    (2, counts_wrong c)
    ∷ (3, table_short c (length table))
    ∷ (8, table_unsound c table)
    ∷ (9, kind_wrong c kind)
    ∷ []

-- limit, order and lent buffers
unfoldable pub run_checks : Counts → ℕ → List ℕ → Lent → List (ℕ × Bool)
run_checks c limit order lent =
    (10, terms_wrong limit)
    ∷ (11, order_wrong c order)
    ∷ (12, lent_short c limit (length order) lent.store lent.scratch lent.log lent.occurrences)
    ∷ []
