-- Reading, stage by stage: how far it goes into a text that begins rightly, and what it says of any text.
use mathlib.Core.Path.{◌≡◌, refl, ap, sym, ◌∙◌}
use mathlib.Core.Bool.{Bool, true, false, cond}
use mathlib.Core.List.{List, [], ◌∷◌, ◌++◌, append_assoc, append-nil}
use Prim.Native.Nat.{ℕ}
use lib.ListN.{length, drop}
use lib.Seq.{drop-append_seam}
use Rattle.rules.specs.Each.{joined}
use Rattle.rules.specs.Netlist.{needed, counts_wrong, table_short, table_sound}
use Rattle.rules.specs.Says.{first}
use Rattle.rules.specs.Text.{header_text, input_text, output_text, text_of}
use Rattle.rules.specs.Reading.{Scan, found, missing, header_line, input_line, output_line, gate_line, lines, Netlist, netlist, refused, end_read, gates_read, outputs_read, inputs_read, counts_read, counts_of, header_read, reading}
use Rattle.rules.specs.declared.counts.Counts.{Counts}
use Rattle.rules.specs.declared.records.RecordKind.TheVariants.{Gates}
use Rattle.rules.proofs.Indices.{both}
use Rattle.rules.proofs.Sound.{not_wrong}
use Rattle.demands.specs.Netlists.{Written}
use Rattle.demands.specs.Refusals.{FourDigits, Headed, Counted, inputs_part, outputs_part, Unread, header, counts, short, inputs, outputs, gates, after}
use Rattle.demands.proofs.Scans.{never}
use Rattle.demands.proofs.NetlistLines.{header_back, header_forth}
use Rattle.demands.proofs.Tables.{four_digits, inputs_back, inputs_forth, output_words, gate_words, outputs_right, gates_right, gates_text, outputs_back, outputs_forth, table_back, gates_forth, all_words}

-- counts of AND gates are told by their five numbers
own_counts : (c : Counts) → c.records ≡ Gates → counts_of (c.m ∷ c.i ∷ c.l ∷ c.o ∷ c.a ∷ []) ≡ c
unfolding counts_of
own_counts c all_gates = λ k. record { m = c.m; i = c.i; l = c.l; o = c.o; a = c.a; records = sym all_gates k }

-- past the header
counts_reached : (lent : ℕ) (c : Counts) (rest : List ℕ) → FourDigits c → c.records ≡ Gates
    → reading lent (header_text c ++ rest) ≡ counts_read c rest (first ((2, counts_wrong c) ∷ (3, table_short c lent) ∷ []))
unfolding reading header_read
counts_reached lent c rest d all_gates = rw (header_forth c rest d, own_counts c all_gates)

-- counts within their limits, of AND gates, and a table that is long enough
module _ (lent : ℕ) (c : Counts) (right : counts_wrong c ≡ false) (all_gates : c.records ≡ Gates) (room : table_short c lent ≡ false) where
  -- past the counts
  inputs_reached : (rest : List ℕ) → reading lent (header_text c ++ rest) ≡ inputs_read c (lines c.i input_line rest)
  unfolding first counts_read
  inputs_reached rest = counts_reached lent c rest (four_digits c (not_wrong c right)) all_gates ∙ rw (right, room)

  -- past the input lines
  outputs_reached : (rest : List ℕ) → reading lent (inputs_part c ++ rest) ≡ outputs_read c (lines c.o (output_line c) rest)
  unfolding inputs_read
  outputs_reached rest =
      rw (append_assoc (header_text c)) (inputs_reached (joined c.i input_text ++ rest) ∙ rw (inputs_forth c rest (not_wrong c right)))

  -- past the output lines
  gates_reached : (table rest : List ℕ) → outputs_right c table ≡ true
      → reading lent (outputs_part c table ++ rest) ≡ gates_read c (output_words c table) (lines c.a (gate_line c) rest)
  unfolding outputs_read
  gates_reached table rest s =
      rw (append_assoc (inputs_part c))
      (outputs_reached (joined c.o (output_text table) ++ rest) ∙ rw (outputs_forth c table rest (not_wrong c right) s))

  -- past the gate lines
  end_reached : (table rest : List ℕ) → table_sound c table ≡ true
      → reading lent (text_of c table ++ rest) ≡ end_read c (output_words c table ++ gate_words c table) rest
  unfolding table_sound text_of gates_read
  end_reached table rest s =
      let parts = both (outputs_right c table) (gates_right c table) s in
      rw (append_assoc (outputs_part c table))
      (gates_reached table (gates_text c table ++ rest) parts.0 ∙ rw (gates_forth c all_gates table rest (not_wrong c right) parts.1))

-- what is said of a text: with what it is read, or what is wrong with it
abbrev pub Outcome : ℕ → List ℕ → Netlist → Type 0
Outcome lent text (netlist c words) = Written text lent c words
Outcome lent text (refused k) = Unread lent text k

-- what follows the same part is the same
after_same : (part a b : List ℕ) → part ++ a ≡ part ++ b → a ≡ b
after_same part a b e = sym (drop-append_seam part a) ∙ ap (drop (length part)) e ∙ drop-append_seam part b

-- a text in which a header line is found begins with that of its counts
headed_by : (text numbers rest : List ℕ) → header_line text ≡ found numbers rest → Headed text (counts_of numbers)
unfolding counts_of
headed_by text numbers rest e =
    let known = header_back text numbers rest e in
    record { digits = known.0; gates = refl; begins = (rest, known.1) }

-- what reading says of a text is so
module _ (lent : ℕ) (text : List ℕ) where
  -- of what follows the gate lines
  end_said : (c : Counts) → Counted lent text c → (words rest : List ℕ) → length words ≡ needed c → table_sound c words ≡ true
      → text ≡ text_of c words ++ rest → Outcome lent text (end_read c words rest)
  unfolding end_read
  end_said c h words [] l s t =
      record {
        limits = h.limits;
        gates = h.headed.gates;
        words = l;
        room = h.room;
        sound = s;
        written = t ∙ append-nil (text_of c words);
      }
  end_said c h words (x ∷ rest) l s t = after c words x rest h s t

  -- of the gate lines
  gates_said : (c : Counts) → Counted lent text c → (words middle rest : List ℕ) → text ≡ inputs_part c ++ middle
      → lines c.o (output_line c) middle ≡ found words rest
      → (s : Scan) → lines c.a (gate_line c) rest ≡ s → Outcome lent text (gates_read c words s)
  unfolding gates_read table_sound text_of
  gates_said c h words middle rest t e (found later end) f =
      let all = table_back c h.headed.gates middle words rest later end e f in
      end_said c h (words ++ later) end all.0 all.1 (t ∙ all.2)
  gates_said c h words middle rest t e missing f =
      let known = outputs_back c middle words rest e in
      gates c h (words, known.0, (rest, t ∙ known.1))
      (λ g. contrary g.0 g.2.0 g.1 g.2.1)
    where
      contrary : (table end : List ℕ) → table_sound c table ≡ true → text ≡ text_of c table ++ end → ⊥
      contrary table end s u =
          let bounds = not_wrong c h.limits in
          let parts = both (outputs_right c table) (gates_right c table) s in
          let behind : List ℕ = gates_text c table ++ end in
          let same : middle ≡ joined c.o (output_text table) ++ behind =
          after_same (inputs_part c) middle (joined c.o (output_text table) ++ behind) (sym t ∙ u ∙ simp append_assoc) in
          let lines_read : lines c.o (output_line c) middle ≡ found (output_words c table) behind =
          rw same (outputs_forth c table behind bounds parts.0) in
          let next : rest ≡ behind = cc in
          never (lines c.a (gate_line c) rest) (gate_words c table) end f (rw next (gates_forth c h.headed.gates table end bounds parts.1))

  -- of the output lines
  outputs_said : (c : Counts) → Counted lent text c → (middle : List ℕ) → text ≡ inputs_part c ++ middle
      → (s : Scan) → lines c.o (output_line c) middle ≡ s → Outcome lent text (outputs_read c s)
  unfolding outputs_read
  outputs_said c h middle t (found words rest) e = gates_said c h words middle rest t e (lines c.a (gate_line c) rest) refl
  outputs_said c h middle t missing e =
      outputs c h (middle, t) (λ g. contrary g.0 g.2.0 g.1 g.2.1)
    where
      contrary : (table end : List ℕ) → outputs_right c table ≡ true → text ≡ outputs_part c table ++ end → ⊥
      contrary table end s u =
          let same : middle ≡ joined c.o (output_text table) ++ end =
          after_same (inputs_part c) middle _ (sym t ∙ u ∙ append_assoc (inputs_part c) (joined c.o (output_text table)) end) in
          never (lines c.o (output_line c) middle) (output_words c table) end e (rw same (outputs_forth c table end (not_wrong c h.limits) s))

  -- of the input lines
  inputs_said : (c : Counts) → Counted lent text c → (middle : List ℕ) → text ≡ header_text c ++ middle
      → (s : Scan) → lines c.i input_line middle ≡ s → Outcome lent text (inputs_read c s)
  unfolding inputs_read
  inputs_said c h middle t (found words rest) e =
      outputs_said c h rest (t ∙ inputs_back c middle words rest e) (lines c.o (output_line c) rest) refl
  inputs_said c h middle t missing e = inputs c h (λ g. contrary g.0 g.1)
    where
      contrary : (end : List ℕ) → text ≡ inputs_part c ++ end → ⊥
      contrary end u =
          let same : middle ≡ joined c.i input_text ++ end =
          after_same (header_text c) middle _ (sym t ∙ u ∙ append_assoc (header_text c) (joined c.i input_text) end) in
          never (lines c.i input_line middle) (joined c.i (λ k. [])) end e (rw same (inputs_forth c end (not_wrong c h.limits)))

  -- of the counts
  counts_said : (c : Counts) → Headed text c → (middle : List ℕ) → text ≡ header_text c ++ middle
      → (wrong low : Bool) → counts_wrong c ≡ wrong → table_short c lent ≡ low → Outcome lent text (counts_read c middle (cond wrong 2 (cond low 3 0)))
  unfolding counts_read
  counts_said c h middle t true low w r = counts c h w
  counts_said c h middle t false true w r = short c h w r
  counts_said c h middle t false false w r =
      inputs_said c (record { headed = h; limits = w; room = r }) middle t (lines c.i input_line middle) refl

  -- of the header
  header_said : (s : Scan) → header_line text ≡ s → Outcome lent text (header_read lent s)
  unfolding header_read first
  header_said (found numbers rest) e =
      let c : Counts = counts_of numbers in
      counts_said c (headed_by text numbers rest e) rest (header_back text numbers rest e).1 (counts_wrong c) (table_short c lent) refl refl
  header_said missing e =
      header
      (λ c h.
      let same : header_line text ≡ found (c.m ∷ c.i ∷ c.l ∷ c.o ∷ c.a ∷ []) h.begins.0 =
      ap header_line h.begins.1 ∙ header_forth c h.begins.0 h.digits in
      never (header_line text) _ _ e same)

  -- of the whole
  pub said : Outcome lent text (reading lent text)
  unfolding reading
  said = header_said (header_line text) refl

-- what finds nothing is missing
nothing_found : (s : Scan) → ((numbers text : List ℕ) → s ≡ found numbers text → ⊥) → s ≡ missing
nothing_found (found numbers text) h = absurd (h numbers text refl)
nothing_found missing h = refl

-- a text that is written so is read so
pub written_read : (lent : ℕ) (text : List ℕ) (c : Counts) (table : List ℕ) → Written text lent c table → reading lent text ≡ netlist c table
unfolding end_read
written_read lent text c table h =
    ap (reading lent) (h.written ∙ sym (append-nil (text_of c table)))
    ∙ end_reached lent c h.limits h.gates h.room table [] h.sound
    ∙ ap (netlist c) (all_words c h.gates table h.words)

-- a text that has this wrong is refused with it
pub unread_refused : (lent : ℕ) (text : List ℕ) {k : ℕ} → Unread lent text k → reading lent text ≡ refused k
unfolding reading header_read counts_read inputs_read outputs_read gates_read end_read first
unread_refused lent text (header h) =
    rw (nothing_found (header_line text) (λ numbers rest e. h (counts_of numbers) (headed_by text numbers rest e)))
unread_refused lent text (counts c h w) =
    ap (reading lent) h.begins.1 ∙ counts_reached lent c h.begins.0 h.digits h.gates ∙ rw w
unread_refused lent text (short c h w r) =
    ap (reading lent) h.begins.1 ∙ counts_reached lent c h.begins.0 h.digits h.gates ∙ rw (w, r)
unread_refused lent text (inputs c h n) =
    let (rest, t) = h.headed.begins in
    ap (reading lent) t
    ∙ inputs_reached lent c h.limits h.headed.gates h.room rest
    ∙ ap (inputs_read c) (nothing_found (lines c.i input_line rest) (λ words end e. n (end, t ∙ inputs_back c rest words end e)))
unread_refused lent text (outputs c h b n) =
    let (rest, t) = b in
    ap (reading lent) t
    ∙ outputs_reached lent c h.limits h.headed.gates h.room rest
    ∙ ap (outputs_read c)
    (nothing_found (lines c.o (output_line c) rest)
    (λ words end e.
    let known = outputs_back c rest words end e in
    n (words, known.0, (end, t ∙ known.1))))
unread_refused lent text (gates c h b n) =
    let (table, s, (rest, t)) = b in
    let lines_read = outputs_forth c table rest (not_wrong c h.limits) s in
    ap (reading lent) t
    ∙ gates_reached lent c h.limits h.headed.gates h.room table rest s
    ∙ ap (gates_read c (output_words c table))
    (nothing_found (lines c.a (gate_line c) rest)
    (λ later end e.
    let known = table_back c h.headed.gates (joined c.o (output_text table) ++ rest) (output_words c table) rest later end lines_read e in
    n (output_words c table ++ later, known.1, (end, t ∙ append_assoc (inputs_part c) _ rest ∙ known.2))))
unread_refused lent text (after c table x rest h s t) =
    ap (reading lent) t ∙ end_reached lent c h.limits h.headed.gates h.room table (x ∷ rest) s
