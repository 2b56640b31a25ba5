-- Reading refuses with a number exactly when that is what is wrong with the text, and then keeps the table.
use mathlib.Core.Path.{◌≡◌, ap, sym, ◌∙◌}
use Prim.Native.Nat.{ℕ}
use lib.ListN.{length}
use Rattle.rules.specs.Says.{refuses}
use Rattle.rules.specs.Reading.{Netlist, netlist, refused, reading, reading_says, table_after}
use Rattle.demands.specs.Refusals.{ReadRefusedExact, ReadRefusalKeeps}
use Rattle.demands.proofs.Passed.{apart}
use Rattle.demands.proofs.Readings.{said, unread_refused}

-- what is answered with a refusal was refused
refused_with : (n : Netlist) (k : ℕ) → reading_says n ≡ refuses k → n ≡ refused k
unfolding reading_says
refused_with (netlist c words) k e = apart 0 k _ e
refused_with (refused j) k e = cc

-- refused are the texts with this wrong, and no others
pub read_refused_exact : ReadRefusedExact
unfolding reading_says
read_refused_exact text table r table_exit h k = (
  λ e.
      let known : reading (length table) text ≡ refused k = refused_with _ k (sym h.said ∙ e) in
      rw known at (said (length table) text),
  λ u. h.said ∙ ap reading_says (unread_refused (length table) text u),
)

-- a refusal changes no word of the table
pub read_refusal_keeps : ReadRefusalKeeps
unfolding table_after
read_refusal_keeps text table r table_exit h k e =
    h.table_words ∙ ap (λ (n : Netlist). table_after n table) (refused_with (reading (length table) text) k (sym h.said ∙ e))
