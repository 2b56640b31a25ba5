-- Where the start polynomial begins and ends: no term of it counted, all of them, or more than the limit.
use mathlib.Core.Path.{◌≡◌, refl, ap, sym, ◌∙◌}
use mathlib.Core.Bool.{true, false}
use mathlib.Core.List.{List, [], ◌++◌}
use Rattle.std.specs.Prelude.{Some, None}
use Prim.Native.Nat.{ℕ, ◌+◌, ◌-◌, ◌*◌, ◌^◌, ◌<◌, ◌≤◌}
use native.Mathlib.Nat.{sub-zero, zero-mod}
use native.Mathlib.Omega.{arith}
use lib.Dec.{leb}
use lib.ListN.{length, take, drop, replicate, length-drop, length-replicate, get_or-replicate, replicate-append-replicate}
use lib.Seq.{take_all, length-take-le}
use borrow.Author.Tests.{le-leb, lt-leb}
use Rattle.rules.specs.Judging.{set_width, term_width, polynomial_words, padded}
use Rattle.rules.specs.Polynomial.{Polynomial, coefficient_at, minus}
use Rattle.rules.specs.Product.{Kind, plain, signed, truncated, multiply_add, multiply_add_signed, kind_of, adds, operand_width, addend_width, outputs_of}
use Rattle.rules.specs.Steps.{modulus, start}
use Rattle.rules.specs.declared.counts.Counts.{Counts}
use Rattle.rules.proofs.Places.{operands_within, fits}
use Rattle.rules.proofs.Sound.{right_counts}
use Rattle.words.proofs.Encoded.{zeros_behind}
use Rattle.start.specs.Start.{output_terms, addend_terms, single_terms, weight, whole, Weighed, Going, Full, Asked, counted, within, Started}
use Rattle.start.specs.Weighing.{Weighs}
use Rattle.start.specs.declared.weights.Weights.{Weights}
use Rattle.start.proofs.Weighing.{weighs_then}
use Rattle.start.proofs.Whole.{start_whole}

-- zeros are the weights of nothing
pub weighed_zeros : (m n : ℕ) → Weighed m [] (replicate n 0)
unfolding coefficient_at
weighed_zeros m n = record { weighs = λ v l. get_or-replicate n v 0 0 (rw length-replicate at l) ∙ sym (zero-mod m) }

-- c has no more bits than there are outputs
pub addend_within : (kind : Kind) (n : ℕ) → addend_width kind n ≤ outputs_of kind n
unfolding addend_width adds outputs_of
addend_within plain n = omega arith
addend_within signed n = omega arith
addend_within truncated n = omega arith
addend_within multiply_add n = omega arith
addend_within multiply_add_signed n = omega arith

-- how large a block is that may be asked for
pub record Bounds (kind : Kind) (c : Counts) (n : ℕ) : Type 0 where
  pub outputs : c.o ≤ 64
  pub addend : addend_width kind n ≤ c.o
  pub bits : n ≤ 32
  pub inside : n + n + addend_width kind n ≤ c.m
  pub most : c.m ≤ 1023

pub bounds : {c : Counts} {table : List ℕ} {kind limit n : ℕ} {store : List ℕ} → Asked c table kind limit store → n ≡ operand_width (kind_of kind) c → Bounds (kind_of kind) c n
bounds {c} {kind = kind} {n = n} p e =
    let k = right_counts c p.counts in
    let inside : n + n + addend_width (kind_of kind) n ≤ c.i = rw e (operands_within (kind_of kind) c) in
    let outputs : c.o ≡ outputs_of (kind_of kind) n = (fits (kind_of kind) c p.counts p.fitting).outputs ∙ rw e in
    record {
      outputs = k.outputs.1;
      addend = omega (arith, addend_within (kind_of kind) n);
      bits = omega arith;
      inside = omega arith;
      most = k.most;
    }

-- nothing is counted
going_begun : (w : ℕ) (p : Polynomial) (store : List ℕ) → store ≡ replicate (length store) 0 → Going w p p store 0
unfolding padded polynomial_words
going_begun w p store h =
    record { held = omega arith; left = refl; words = h ∙ rw sub-zero }

module _ (w limit : ℕ) (p : Polynomial) (store : List ℕ) where
  -- all is counted
  going_ended : (count : ℕ) → count ≤ limit → Going w p [] store count → Started p w limit (length store) (Some count) store
  unfolding counted within
  going_ended count h g =
      let all : count ≡ length p = omega (arith, g.held, length-drop count p, ap length g.left) in
      let test : leb (length p) limit ≡ true = le-leb (length p) limit (omega arith) in
      record { count = rw (test, all); words = g.words ∙ rw (test, all, take_all (length p) p (omega arith)) }

  -- there is more, and what was written is cleared
  going_over : Full w limit p store → (cleared : List ℕ) → limit * (w + 1) ≤ length store
      → cleared ≡ take 0 store ++ (replicate (limit * (w + 1) - 0) 0 ++ drop (limit * (w + 1)) store) → Started p w limit (length store) None cleared
  unfolding counted within padded polynomial_words
  going_over f cleared room e =
      let test : leb (length p) limit ≡ false = lt-leb (length p) limit f.more in
      let long : length (take limit p) ≡ limit = length-take-le limit p (omega (arith, f.more)) in
      let zeros : drop (limit * (w + 1)) store ≡ replicate (length store - limit * (w + 1)) 0 =
      rw long at (zeros_behind w store (take limit p) f.words) in
      let room_and_rest : limit * (w + 1) + (length store - limit * (w + 1)) ≡ length store = omega arith in
      record { count = rw test; words = e ∙ rw (test, zeros, sub-zero, replicate-append-replicate, room_and_rest, sub-zero) }

-- with the weights of the outputs less c, what is emitted is the start polynomial
module _ {c : Counts} {table : List ℕ} {kind limit n bits : ℕ} {store : List ℕ} {zeros outputs weights : Weights} (asked : Asked c table kind limit store)
    (operands : n ≡ operand_width (kind_of kind) c) (addend : bits ≡ addend_width (kind_of kind) n)
    (added : Weighs (output_terms (2 ^ zeros.l) table zeros.l) zeros outputs) (taken : Weighs (minus (2 ^ outputs.l) (addend_terms n bits)) outputs weights)
    (none : zeros.of ≡ replicate (length zeros.of) 0) (same : zeros.l ≡ c.o) (long : c.m < length weights.of) where
  abbrev all : Polynomial
  all = whole (kind_of kind) (2 ^ c.o) n (c.m - (n + n)) weights.of

  abbrev first : Polynomial
  first = start (kind_of kind) c table

  -- the weights are those of the outputs less c
  weighed : Weighed (2 ^ c.o) (single_terms (kind_of kind) c table) weights.of
  unfolding single_terms
  weighed =
      rw (← operands, ← addend, ← same) ((weighs_then (λ l. minus (2 ^ l) (addend_terms n bits)) added taken).weighs [] (rw none (weighed_zeros _ (length zeros.of))))

  -- the way from nothing counted on
  begun : Going (set_width c) first all store 0
  unfolding modulus weight
  begun =
      let m : 2 ^ c.o ≡ modulus (kind_of kind) c = ap (λ (k : ℕ). 2 ^ k) (fits (kind_of kind) c asked.counts asked.fitting).outputs in
      let e = start_whole (kind_of kind) c table weights.of asked.counts asked.sound (sym m) (λ v l. weighed.weighs v (omega arith)) in
      rw (operands, m, e) (going_begun (set_width c) first store asked.zeros)

  module _ {written store' : List ℕ} (is : store' ≡ written) (kept : length store' ≡ length store) where
    -- it has at most as many terms as the limit
    pub started_within : (count : ℕ) → count ≤ limit → ((p rest : Polynomial) → Going (set_width c) p all store 0 → Going (set_width c) p [] written count)
        → Started first (set_width c) limit (length store) (Some count) store'
    started_within count few run = rw kept at (going_ended (set_width c) limit first store' count few (rw is (run first [] begun)))

    -- it has more, and what was written is cleared
    pub started_over : ((p rest : Polynomial) → Going (set_width c) p all store 0 → Full (set_width c) limit p written) → (cleared : List ℕ)
        → cleared ≡ take 0 store' ++ (replicate (limit * (set_width c + 1) - 0) 0 ++ drop (limit * (set_width c + 1)) store')
        → Started first (set_width c) limit (length store) None cleared
    unfolding term_width
    started_over run cleared e =
        rw kept at (going_over (set_width c) limit first store' (rw is (run first [] begun)) cleared (omega (arith, asked.room)) e)
