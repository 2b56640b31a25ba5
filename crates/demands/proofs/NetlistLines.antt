-- The header line, an input line, an output line and a gate line: each is found where its text stands, and only there.
use mathlib.Core.Path.{◌≡◌, refl, ap, ◌∙◌}
use mathlib.Core.Bool.{Bool, true, not}
use mathlib.Core.List.{List, [], ◌∷◌, ◌++◌, append_assoc}
use Prim.Native.Nat.{ℕ, ◌+◌, ◌*◌, ◌<◌, ◌≤◌}
use native.Mathlib.Omega.{arith}
use lib.Dec.{ltb, leb, eqb}
use lib.ListN.{length, get_or, drop, length-drop, get_or-append}
use lib.Seq.{get_or-append-add, get_or-drop}
use borrow.Author.Tests.{eqb-true, eq-eqb, ltb-true, leb-true}
use Rattle.rules.specs.Each.{every}
use Rattle.rules.specs.Netlist.{gate, output, rhs0, rhs1, record_of, record_at, output_sound, gate_sound, record_sound}
use Rattle.rules.specs.Text.{line_feed, space, header_word, fields_text, header_text, input_text, output_text, gate_text}
use Rattle.rules.specs.Reading.{found, word, fields, digit, tested, header_line, input_line, output_line, gate_line, counts_of}
use Rattle.rules.specs.declared.counts.Counts.{Counts}
use Rattle.rules.specs.declared.records.RecordKind.TheVariants.{Gates}
use Rattle.rules.proofs.Indices.{both, and_both}
use Rattle.demands.specs.Refusals.{FourDigits}
use Rattle.demands.proofs.Scans.{then_back, then_forth, word_back, word_forth, tested_back, tested_forth}
use Rattle.demands.proofs.Fields.{Small, small_at, marked, fields_back, fields_forth}
use Rattle.demands.proofs.Lines.{Part, no_words}

-- a text in which a header line is found begins with that of its counts
pub header_back : (text numbers rest : List ℕ) → header_line text ≡ found numbers rest
    → FourDigits (counts_of numbers) × (text ≡ header_text (counts_of numbers) ++ rest)
unfolding header_line header_text counts_of
header_back text numbers rest e =
    let ends : List ℕ = space ∷ space ∷ space ∷ space ∷ line_feed ∷ [] in
    let parts = then_back (word header_word text) (fields ends) numbers rest e in
    let front = word_back header_word text parts.0 parts.1 parts.3 in
    let known = fields_back ends parts.1 parts.2 rest parts.4 in
    let same : numbers ≡ parts.2 = parts.5 ∙ ap (λ (l : List ℕ). l ++ parts.2) front.0 in
    rw same (
      record {
        m = small_at parts.2 0 known.1;
        i = small_at parts.2 1 known.1;
        l = small_at parts.2 2 known.1;
        o = small_at parts.2 3 known.1;
        a = small_at parts.2 4 known.1;
      },
      front.1 ∙ ap (λ (l : List ℕ). header_word ++ l) known.2,
    )

-- the header line of counts is found
pub header_forth : (c : Counts) (rest : List ℕ) → FourDigits c
    → header_line (header_text c ++ rest) ≡ found (c.m ∷ c.i ∷ c.l ∷ c.o ∷ c.a ∷ []) rest
unfolding header_line header_text every digit
header_forth c rest d =
    let ends : List ℕ = space ∷ space ∷ space ∷ space ∷ line_feed ∷ [] in
    let numbers : List ℕ = c.m ∷ c.i ∷ c.l ∷ c.o ∷ c.a ∷ [] in
    then_forth _ (fields ends) [] _ numbers rest
    (word_forth header_word _)
    (fields_forth ends numbers rest refl refl (d.m, (d.i, (d.l, (d.o, (d.a, tt))))))

-- fields found by a line pass its test, and the text begins with them
line_back : (right : List ℕ → Bool) (words : List ℕ → List ℕ) (ends text all rest : List ℕ) → tested right words (fields ends text) ≡ found all rest
    → (numbers : List ℕ) × (length numbers ≡ length ends) × (right numbers ≡ true) × (all ≡ words numbers)
    × (text ≡ fields_text (marked 0 ends numbers) ++ rest)
line_back right words ends text all rest e =
    let line = tested_back right words (fields ends text) all rest e in
    let known = fields_back ends text line.0 rest line.1 in
    (line.0, known.0, line.2, line.3, known.2)

-- fields that pass a line's test are found
line_forth : (right : List ℕ → Bool) (words : List ℕ → List ℕ) (ends numbers rest : List ℕ) → every (λ end. not (digit end)) ends ≡ true
    → length numbers ≡ length ends → Small numbers → right numbers ≡ true
    → tested right words (fields ends (fields_text (marked 0 ends numbers) ++ rest)) ≡ found (words numbers) rest
line_forth right words ends numbers rest d l h s =
    tested_forth right words _ numbers rest (fields_forth ends numbers rest d l h) s

-- a text in which the k-th input line is found begins with it
pub input_back : (start k : ℕ) (text words rest : List ℕ) → input_line k text ≡ found words rest
    → Part 0 start (λ table. true) (λ table. input_text k) text words rest
unfolding input_line input_text
input_back start k text words rest e =
    let line = line_back _ _ (line_feed ∷ []) text words rest e in
    no_words start (input_text k) text words rest line.3
    (line.4 ∙ ap (λ (x : ℕ). fields_text ((x, line_feed) ∷ []) ++ rest) (eqb-true _ (2 * (k + 1)) line.2))

-- the k-th input line is found
pub input_forth : (k : ℕ) (rest : List ℕ) → 2 * (k + 1) < 10000 → input_line k (input_text k ++ rest) ≡ found [] rest
unfolding input_line input_text every digit
input_forth k rest h =
    line_forth _ _ (line_feed ∷ []) (2 * (k + 1) ∷ []) rest refl refl (h, tt) (eq-eqb (2 * (k + 1)) (2 * (k + 1)) refl)

-- a word of a part, where it stands in the table
word_at : (front words later : List ℕ) (i at : ℕ) → length front + i ≡ at → i < length words
    → get_or (front ++ words ++ later) at 0 ≡ get_or words i 0
word_at front words later i at e h = rw (← e, append_assoc, get_or-append-add) (get_or-append words later 0 i h)

-- a text in which an output line is found begins with it, and its literal is a right word of the table
pub output_back : (c : Counts) (k : ℕ) (text words rest : List ℕ) → output_line c k text ≡ found words rest
    → Part 1 (0 + 1 * k) (λ table. output_sound c (output table k)) (λ table. output_text table k) text words rest
unfolding output_line output_text output
output_back c k text words rest e =
    let line = line_back _ _ (line_feed ∷ []) text words rest e in
    whole line.0 line.1 line.2 line.3 line.4
  where
    whole : (numbers : List ℕ) → length numbers ≡ 1 → output_sound c (get_or numbers 0 0) ≡ true → words ≡ numbers
        → text ≡ fields_text ((get_or numbers 0 0, line_feed) ∷ []) ++ rest
        → Part 1 (0 + 1 * k) (λ table. output_sound c (output table k)) (λ table. output_text table k) text words rest
    whole numbers l s w t =
        let at : (front later : List ℕ) → length front ≡ 0 + 1 * k → get_or (front ++ numbers ++ later) k 0 ≡ get_or numbers 0 0 =
        λ front later h. word_at front numbers later 0 k (omega arith) (omega arith) in
        rw w (record { long = l; sound = λ front later h. rw (at front later h) s; written = λ front later h. rw (at front later h) t })

-- a right output line is found
pub output_forth : (c : Counts) (table : List ℕ) (k : ℕ) (rest : List ℕ) → output table k < 10000 → output_sound c (output table k) ≡ true
    → output_line c k (output_text table k ++ rest) ≡ found (output table k ∷ []) rest
unfolding output_line output_text every digit
output_forth c table k rest h s = line_forth _ _ (line_feed ∷ []) (output table k ∷ []) rest refl refl (h, tt) s

-- in a table of AND gates the rules of a record are those of its two literals
gates_rules : (c : Counts) → c.records ≡ Gates → (table : List ℕ) (v : ℕ)
    → record_sound v (record_at c table v) ≡ gate_sound v (rhs0 c table v) (rhs1 c table v)
unfolding record_at record_of record_sound
gates_rules c gates table v = rw gates

-- a text in which a gate line is found begins with it, and its literals are right words of the table
pub gate_back : (c : Counts) → c.records ≡ Gates → (k : ℕ) (text words rest : List ℕ) → gate_line c k text ≡ found words rest
    → Part 2 (c.o + 2 * k) (λ table. record_sound (gate c k) (record_at c table (gate c k))) (λ table. gate_text c table (gate c k))
    text words rest
unfolding gate_line gate_text rhs0 rhs1 gate
gate_back c gates k text words rest e =
    let line = line_back _ _ (space ∷ space ∷ line_feed ∷ []) text words rest e in
    let tests = both (eqb (get_or line.0 0 0) (2 * gate c k)) (gate_sound (gate c k) (get_or line.0 1 0) (get_or line.0 2 0)) line.2 in
    whole line.0 line.1 (eqb-true _ _ tests.0) tests.1 line.3 line.4
  where
    whole : (numbers : List ℕ) → length numbers ≡ 3 → get_or numbers 0 0 ≡ 2 * gate c k
        → gate_sound (gate c k) (get_or numbers 1 0) (get_or numbers 2 0) ≡ true → words ≡ drop 1 numbers
        → text ≡ fields_text ((get_or numbers 0 0, space) ∷ (get_or numbers 1 0, space) ∷ (get_or numbers 2 0, line_feed) ∷ []) ++ rest
        → Part 2 (c.o + 2 * k) (λ table. record_sound (gate c k) (record_at c table (gate c k))) (λ table. gate_text c table (gate c k))
        text words rest
    whole numbers l e s w t =
        let size : length (drop 1 numbers) ≡ 2 = rw length-drop (omega arith) in
        let first : (front later : List ℕ) → length front ≡ c.o + 2 * k
        → rhs0 c (front ++ drop 1 numbers ++ later) (gate c k) ≡ get_or numbers 1 0 =
        λ front later h. word_at front (drop 1 numbers) later 0 _ (omega arith) (omega arith) ∙ get_or-drop 1 numbers 0 0 in
        let second : (front later : List ℕ) → length front ≡ c.o + 2 * k
        → rhs1 c (front ++ drop 1 numbers ++ later) (gate c k) ≡ get_or numbers 2 0 =
        λ front later h. word_at front (drop 1 numbers) later 1 _ (omega arith) (omega arith) ∙ get_or-drop 1 numbers 1 0 in
        rw w
        (record {
          long = size;
          sound = λ front later h. rw (gates_rules c gates, first front later h, second front later h) s;
          written = λ front later h. rw (first front later h, second front later h, ← e) t;
        })

-- a right gate line is found
pub gate_forth : (c : Counts) → c.records ≡ Gates → (table : List ℕ) (k : ℕ) (rest : List ℕ) → 2 * gate c k < 10000
    → record_sound (gate c k) (record_at c table (gate c k)) ≡ true
    → gate_line c k (gate_text c table (gate c k) ++ rest) ≡ found (rhs0 c table (gate c k) ∷ rhs1 c table (gate c k) ∷ []) rest
unfolding gate_line gate_text gate_sound every digit
gate_forth c gates table k rest h sound =
    let x : ℕ = rhs0 c table (gate c k) in
    let y : ℕ = rhs1 c table (gate c k) in
    let s : gate_sound (gate c k) x y ≡ true = rw (gates_rules c gates table (gate c k)) at sound in
    let parts = both (ltb x (2 * gate c k)) (leb y x) s in
    let low : x < 2 * gate c k = ltb-true x _ parts.0 in
    let lower : y ≤ x = leb-true y x parts.1 in
    line_forth _ _ (space ∷ space ∷ line_feed ∷ []) (2 * gate c k ∷ x ∷ y ∷ []) rest refl refl (h, (omega arith, (omega arith, tt)))
    (and_both (eqb (2 * gate c k) (2 * gate c k)) _ (eq-eqb (2 * gate c k) (2 * gate c k) refl) s)
