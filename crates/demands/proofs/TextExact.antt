-- A text is accepted with counts and words exactly when it is the text of these.
use mathlib.Core.Path.{◌≡◌, refl, ap, sym, ◌∙◌}
use mathlib.Core.List.{List, ◌++◌}
use Prim.Native.Nat.{ℕ}
use lib.ListN.{length, take, drop}
use lib.Seq.{take_at}
use Rattle.rules.specs.Netlist.{needed}
use Rattle.rules.specs.Says.{text_says, text_records}
use Rattle.rules.specs.Reading.{Netlist, netlist, refused, reading, reading_says, table_after}
use Rattle.std.specs.Prelude.{Result, Ok}
use Rattle.rules.specs.declared.refusals.Refusal.{Refusal}
use Rattle.rules.specs.declared.counts.Counts.{Counts}
use Rattle.rules.specs.declared.records.RecordKind.TheVariants.{Gates}
use Rattle.rules.proofs.OneOutcome.{text_known}
use Rattle.demands.specs.Netlists.{TextExact, Written}
use Rattle.demands.proofs.Passed.{apart}
use Rattle.demands.proofs.Readings.{Outcome, said, written_read}

-- what is answered with counts was read with them
read_with : (lent : ℕ) (text : List ℕ) (n : Netlist) (c : Counts) → c.records ≡ Gates → Outcome lent text n
    → text_says (Ok c) ≡ reading_says n → (words : List ℕ) × (n ≡ netlist c words)
unfolding text_records reading_says
read_with lent text (netlist d words) c gates so e =
    let same : ◌≡◌ {A = Result Counts Refusal} (Ok c) (Ok d) = text_known (Ok c) (Ok d) (gates ∙ sym so.gates) e in
    let own : d ≡ c = cc in
    (words, ap (λ (c : Counts). netlist c words) own)
read_with lent text (refused k) c gates so e = apart 0 k _ e

-- parts of one length that begin the same list are the same
begin_same : (a b x y : List ℕ) → length a ≡ length b → a ++ x ≡ b ++ y → a ≡ b
begin_same a b x y l e = sym (take_at a x (length b) l) ∙ ap (take (length b)) e ∙ take_at b y (length b) refl

-- what is read is what is written
pub text_exact : TextExact
unfolding table_after text_records reading_says
text_exact text lent r exit h c table = (there, back)
  where
    words_of : (words : List ℕ) → reading (length lent) text ≡ netlist c words → length words ≡ needed c → exit ≡ words ++ drop (needed c) lent
    words_of words e l =
        h.table_words ∙ ap (λ (n : Netlist). table_after n lent) e ∙ ap (λ (n : ℕ). words ++ drop n lent) l

    there : (r ≡ Ok c) × (exit ≡ table ++ drop (needed c) lent) × (length table ≡ needed c) → Written text (length lent) c table
    there (e, x, l) =
        let (words, known) =
        read_with (length lent) text (reading (length lent) text) c (rw e at h.records) (said (length lent) text) (rw e at h.said) in
        let so : Written text (length lent) c words = rw known at (said (length lent) text) in
        let same : table ≡ words = begin_same table words _ _ (l ∙ sym so.words) (sym x ∙ words_of words known so.words) in
        rw same so

    back : Written text (length lent) c table → (r ≡ Ok c) × (exit ≡ table ++ drop (needed c) lent) × (length table ≡ needed c)
    back so =
        let e : reading (length lent) text ≡ netlist c table = written_read (length lent) text c table so in
        (text_known r (Ok c) (h.records ∙ sym so.gates) (rw e at h.said), words_of table e so.words, so.words)
