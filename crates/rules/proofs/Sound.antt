-- What right counts and a sound table say, by name.
use mathlib.Core.Path.{◌≡◌}
use mathlib.Core.Bool.{Bool, true, false, ◌&&◌, ◌||◌}
use mathlib.Core.List.{List}
use Prim.Native.Nat.{ℕ, ◌+◌, ◌-◌, ◌*◌, ◌%◌, ◌<◌, ◌≤◌}
use native.Mathlib.Omega.{arith}
use lib.Dec.{leb, ltb, eqb}
use borrow.Author.Tests.{eqb-true, eqb-false, ne_eqb, leb-true, ltb-true, not-false}
use Rattle.rules.specs.Each.{each}
use Rattle.rules.specs.Netlist.{counts_right, counts_wrong, variable, gate, output, record_at, output_sound, gate_sound, cell_sound, record_sound, record_reads, EveryVariable, byte_of, table_sound}
use Rattle.rules.specs.Values.{width}
use Rattle.rules.proofs.Indices.{both, neither, each_at}
use Rattle.rules.specs.declared.counts.Counts.{Counts}
use Rattle.rules.specs.declared.records.Record.{Record}
use Rattle.rules.specs.declared.records.Record.TheVariants.{Gate, Cell}

-- counts within their limits
pub record RightCounts (c : Counts) : Type 0 where
  pub latches : c.l ≡ 0
  pub variables : c.m ≡ c.i + c.a
  pub most : c.m ≤ 1023
  pub even : c.i % 2 ≡ 0
  pub inputs : (2 ≤ c.i) × (c.i ≤ 64)
  pub outputs : (1 ≤ c.o) × (c.o ≤ 64)
  -- the inputs are two operands of n bits
  pub operands : c.i ≡ 2 * width c

-- the parts of a test of eight parts that holds
eight : (a b c d e f g h : Bool) → (a && b && c && d && e && f && g && h) ≡ true
    → (a ≡ true) × (b ≡ true) × (c ≡ true) × (d ≡ true) × (e ≡ true) × (f ≡ true) × (g ≡ true) × (h ≡ true)
eight a b c d e f g h holds =
    let seven = both (a && b && c && d && e && f && g) h holds in
    let six = both (a && b && c && d && e && f) g seven.0 in
    let five = both (a && b && c && d && e) f six.0 in
    let four = both (a && b && c && d) e five.0 in
    let three = both (a && b && c) d four.0 in
    let two = both (a && b) c three.0 in
    let one = both a b two.0 in
    (one.0, one.1, two.1, three.1, four.1, five.1, six.1, seven.1)

-- counts that pass the test are within their limits
pub right_counts : (c : Counts) → counts_right c ≡ true → RightCounts c
unfolding counts_right width
right_counts c h =
    let parts =
    eight (eqb c.l 0) (eqb c.m (c.i + c.a)) (leb c.m 1023) (eqb (c.i % 2) 0) (leb 2 c.i) (leb c.i 64) (leb 1 c.o) (leb c.o 64) h
    in
    let even : c.i % 2 ≡ 0 = eqb-true (c.i % 2) 0 parts.3 in
    record {
      latches = eqb-true c.l 0 parts.0;
      variables = eqb-true c.m (c.i + c.a) parts.1;
      most = leb-true c.m 1023 parts.2;
      even = even;
      inputs = (leb-true 2 c.i parts.4, leb-true c.i 64 parts.5);
      outputs = (leb-true 1 c.o parts.6, leb-true c.o 64 parts.7);
      operands = omega arith;
    }

-- every variable that a record reads is below its gate, and its truth byte is one
pub record SoundRecord (v : ℕ) (r : Record) : Type 0 where
  pub low : EveryVariable (λ w. w < v) r
  pub byte : byte_of r ≤ 255

-- outputs are literals up to 2M + 1, and records read variables below their gate
pub record SoundTable (c : Counts) (table : List ℕ) : Type 0 where
  pub outputs : (i : ℕ) → i < c.o → output table i ≤ 2 * c.m + 1
  pub output_variables : (i : ℕ) → i < c.o → variable (output table i) ≤ c.m
  pub gates : (v : ℕ) → c.i < v → v ≤ c.i + c.a → SoundRecord v (record_at c table v)

-- a record that passes the test is sound
pub sound_record : (v : ℕ) (r : Record) → record_sound v r ≡ true → SoundRecord v r
unfolding record_sound gate_sound cell_sound variable byte_of
sound_record v (Gate x y) h =
    let parts = both (ltb x (2 * v)) (leb y x) h in
    let first : x < 2 * v = ltb-true x (2 * v) parts.0 in
    let second : y ≤ x = leb-true y x parts.1 in
    record { low = (omega arith, omega arith); byte = omega arith }
sound_record v (Cell byte x1 x2 x3) h =
    let three = both (leb byte 255 && ltb x1 v && ltb x2 v) (ltb x3 v) h in
    let two = both (leb byte 255 && ltb x1 v) (ltb x2 v) three.0 in
    let one = both (leb byte 255) (ltb x1 v) two.0 in
    record {
      low = (ltb-true x1 v one.1, ltb-true x2 v two.1, ltb-true x3 v three.1);
      byte = leb-true byte 255 one.0;
    }

-- what holds of every variable of a record, and brings something else along, brings that along for every one
pub every_variable : (P Q : ℕ → Type 0) → ((w : ℕ) → P w → Q w) → (r : Record) → EveryVariable P r → EveryVariable Q r
every_variable P Q brings (Gate x y) h = (brings _ h.0, brings _ h.1)
every_variable P Q brings (Cell byte x1 x2 x3) h = (brings x1 h.0, brings x2 h.1, brings x3 h.2)

-- a record that does not read w reads others
pub reads_others : (r : Record) (w : ℕ) → record_reads r w ≡ false → EveryVariable (λ u. u ≡ w → ⊥) r
unfolding record_reads
reads_others (Gate x y) w h =
    let parts = neither (eqb (variable x) w) (eqb (variable y) w) h in
    (eqb-false (variable x) w parts.0, eqb-false (variable y) w parts.1)
reads_others (Cell byte x1 x2 x3) w h =
    let two = neither (eqb x1 w || eqb x2 w) (eqb x3 w) h in
    let one = neither (eqb x1 w) (eqb x2 w) two.0 in
    (eqb-false x1 w one.0, eqb-false x2 w one.1, eqb-false x3 w two.1)

-- a record of other variables does not read w
pub others_read : (r : Record) (w : ℕ) → EveryVariable (λ u. u ≡ w → ⊥) r → record_reads r w ≡ false
unfolding record_reads
others_read (Gate x y) w h = rw (ne_eqb (variable x) w h.0, ne_eqb (variable y) w h.1)
others_read (Cell byte x1 x2 x3) w h = rw (ne_eqb x1 w h.0, ne_eqb x2 w h.1, ne_eqb x3 w h.2)

-- a table that passes the test is sound
pub sound_table : (c : Counts) (table : List ℕ) → table_sound c table ≡ true → SoundTable c table
unfolding table_sound output_sound variable gate
sound_table c table h =
    let parts =
    both (each c.o (λ i. output_sound c (output table i)))
    (each c.a (λ k. record_sound (gate c k) (record_at c table (gate c k)))) h
    in
    let outputs : (i : ℕ) → i < c.o → output table i ≤ 2 * c.m + 1 = λ i l. leb-true (output table i) (2 * c.m + 1) (each_at c.o _ parts.0 i l) in
    record {
      outputs = outputs;
      output_variables = λ i l. omega (arith, outputs i l);
      gates = λ v k l.
          let own : c.i + 1 + (v - (c.i + 1)) ≡ v = omega arith in
          sound_record v (record_at c table v) (rw own at (each_at c.a _ parts.1 (v - (c.i + 1)) (omega arith)));
    }

-- counts that are not wrong are within their limits
pub not_wrong : (c : Counts) → counts_wrong c ≡ false → RightCounts c
unfolding counts_wrong
not_wrong c h = right_counts c (not-false (counts_right c) h)
