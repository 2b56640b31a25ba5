-- Numbers that are those of a polynomial: counted anew, and gone on to those of another; and polynomials whose variables have numbers.
use Rattle.std.proofs.Common.{◌≡◌, ℕ, ◌+◌, ◌-◌, ◌%◌, ◌^◌, ◌<◌, List, [], ◌∷◌, ◌++◌, length, get_or, replicate, sym, ◌∙◌, inl, mod-eq_of_lt, one-mul, zero-add, arith, ext_get_or}
use lib.ListN.{length-replicate, get_or-replicate}
use Rattle.rules.specs.Each.{listed}
use Rattle.rules.specs.Occurrences.{occurring}
use Rattle.rules.specs.Netlist.{EveryVariable}
use Rattle.rules.specs.Polynomial.{Polynomial, Under, gather}
use Rattle.rules.specs.Steps.{all_replaced}
use Rattle.rules.specs.Values.{bit}
use Rattle.rules.specs.declared.records.Record.{Record}
use Rattle.rules.proofs.AllSets.{AllSets, Joins, all_gather, all_terms_replaced}
use Rattle.rules.proofs.Bits.{bit_with, bit_without, with_variable_under}
use Rattle.rules.proofs.Sound.{every_variable}
use Rattle.rules.proofs.Indices.{length_listed, get_or_listed}
use Rattle.rules.proofs.Occurring.{occurring_most}
use Rattle.tally.specs.Marks.{Numbered, Marked, Moved}

-- all terms, marked where every number was 0
pub counted_anew : (p : Polynomial) (lent : ℕ) (n : List ℕ) → length p < 2 ^ 32 → Marked 1 (occurring p) (replicate lent 0) n → n ≡ listed lent (occurring p)
counted_anew p lent n few m =
    let zeros : length {A = ℕ} (replicate lent 0) ≡ lent = length-replicate lent 0 in
    let long : length n ≡ lent = m.long ∙ zeros in
    ext_get_or 0 n (listed lent (occurring p)) (long ∙ sym (length_listed lent (occurring p)))
    (λ u l.
    let here : u < lent = omega (arith, long) in
    rw (get_or_listed lent (occurring p) 0 u here)
    (m.each u (rw zeros here) ∙ rw (get_or-replicate {A = ℕ} lent u 0 0 here, zero-add, one-mul) (mod-eq_of_lt (omega (arith, occurring_most u p)))))

-- what is a remainder and leaves that of a number that is one, is that number
same_number : (a b c : ℕ) → a < 2 ^ 32 → c < 2 ^ 32 → b < 2 ^ 32 → (a + b) % 2 ^ 32 ≡ (b + c) % 2 ^ 32 → a ≡ c
same_number a b c la lc lb e = omega arith

-- numbers that moved from p to q, where they were those of p
pub moved_on : (p q : Polynomial) (lent : ℕ) (n : List ℕ) → length p < 2 ^ 32 → length q < 2 ^ 32 → ((u : ℕ) → u < length n → get_or n u 0 < 2 ^ 32)
    → Moved (occurring p) (occurring q) (listed lent (occurring p)) n → n ≡ listed lent (occurring q)
moved_on p q lent n few few' fits m =
    let numbers : length (listed lent (occurring p)) ≡ lent = length_listed lent (occurring p) in
    let long : length n ≡ lent = m.long ∙ numbers in
    ext_get_or 0 n (listed lent (occurring q)) (long ∙ sym (length_listed lent (occurring q)))
    (λ u l.
    let here : u < lent = omega (arith, long) in
    rw (get_or_listed lent (occurring q) 0 u here)
    (same_number (get_or n u 0) (occurring p u) (occurring q u) (fits u l) (omega (arith, occurring_most u q)) (omega (arith, occurring_most u p))
    (rw (get_or_listed lent (occurring p) 0 u here) at (m.each u (rw numbers here)))))

-- a set whose variables have numbers
abbrev Named : ℕ → ℕ → Type 0
Named lent s = (s < 2 ^ lent) × (bit s 0 ≡ 0)

-- of every set
named_all : (lent : ℕ) (p : Polynomial) → Numbered lent p → AllSets (Named lent) p
named_all lent [] h = tt
named_all lent (t ∷ p) h = (h.0, named_all lent p h.1)

all_named : (lent : ℕ) (p : Polynomial) → AllSets (Named lent) p → Numbered lent p
all_named lent [] h = tt
all_named lent (t ∷ p) h = (h.0, all_named lent p h.1)

-- sets whose variables have numbers lie below 2^lent
pub numbered_under : (lent : ℕ) (p : Polynomial) → Numbered lent p → Under (2 ^ lent) p
numbered_under lent [] h = tt
numbered_under lent (t ∷ p) h = (h.0.0, numbered_under lent p h.1)

-- gathering keeps the sets
pub numbered_gather : (lent m : ℕ) (p : Polynomial) → Numbered lent p → Numbered lent (gather m p)
numbered_gather lent m p h = all_named lent (gather m p) (all_gather (Named lent) m p (named_all lent p h))

-- and so do lists one behind the other
pub numbered_append : (lent : ℕ) (p q : Polynomial) → Numbered lent p → Numbered lent q → Numbered lent (p ++ q)
numbered_append lent [] q h g = g
numbered_append lent (t ∷ p) q h g = (h.0, numbered_append lent p q h.1 g)

-- a gate with a number replaced by what it reads, all of it below
pub numbered_replaced : (lent m v : ℕ) (r : Record) (p : Polynomial) → v < lent → EveryVariable (λ u. u < v) r → Numbered lent p
    → Numbered lent (all_replaced m v r p)
numbered_replaced lent m v r p inside low h =
    all_named lent (all_replaced m v r p)
    (all_terms_replaced (Named lent) (Named lent) m v (λ s e k. k) out r (every_variable (λ u. u < v) (Joins (Named lent)) joins r low) p (named_all lent p h))
  where
    out : (s : ℕ) → bit s v ≡ 1 → Named lent s → Named lent (s - 2 ^ v)
    out s e k = (omega (arith, k.0), bit_without s v 0 e (inl k.1))

    joins : (u : ℕ) → u < v → Joins (Named lent) u
    joins u l above s k = (with_variable_under lent s u (omega arith) k.0, bit_with s u 0 (λ e. omega arith) ∙ k.1)
