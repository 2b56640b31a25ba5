-- What is found of the place of a new term.
use Rattle.std.proofs.Common.{◌≡◌, ℕ, ◌+◌, ◌*◌, ◌%◌, ◌^◌, ◌<◌, ◌≤◌, true, false, eqb, List, length, get_or, refl, sym, ◌∙◌, arith, eqb-true}
use borrow.Author.Tests.{eqb-false}
use Rattle.words.specs.Listed.{terms_of, set_of, coefficient_of}
use Rattle.words.specs.declared.listed.Terms.{Terms}
use Rattle.words.specs.Numbers.{num, words_at}
use Rattle.words.proofs.Stored.{length_terms, decoded_set, stride_in}
use Rattle.weave.specs.Seeking.{Sought, Cut}
use Rattle.weave.proofs.Places.{set_below}
use Rattle.splice.specs.Splicing.{Spotting, Spotted}

module _ (terms : Terms) (k l : ℕ) (scratch : List ℕ) (from : ℕ) (h : Spotting terms k l scratch from) where
  -- what the search asks
  pub sought : Sought terms k 0 terms.count scratch (from + 1)
  sought = record {
    some = h.some;
    short = h.short;
    ordered = omega arith;
    within = omega arith;
    falls = h.falls;
    there = omega (arith, h.there);
    low = h.low;
  }

  -- the words of a term's set
  set_words : (at : ℕ) → at < terms.count → set_of terms at ≡ num (words_at terms.words.now (at * (terms.width + 1) + 1) terms.width)
  set_words at l = decoded_set terms.width terms.count at terms.words.now l

  -- what is asked to see whether it is the new one's
  pub asks_equal : (at : ℕ) → at < terms.count
      → (at * (terms.width + 1) + 1 + terms.width ≤ length terms.words.now) × (from + 1 + terms.width ≤ length scratch) × (k ≤ terms.width)
      × (num (words_at terms.words.now (at * (terms.width + 1) + 1) terms.width) < 2 ^ (64 * k)) × (num (words_at scratch (from + 1) terms.width) < 2 ^ (64 * k))
  asks_equal at l =
      let low = set_below (2 ^ (64 * k)) (terms_of terms) at h.falls (omega (arith, length_terms terms)) in
      (omega (arith, stride_in at terms.count terms.width (length terms.words.now) l terms.within), omega (arith, h.there), h.short, rw (set_words at l) at low, h.low)

  module _ (at : ℕ) (cut : Cut (terms_of terms) (num (words_at scratch (from + 1) terms.width)) 0 terms.count at) where
    -- the place, among as many terms as there are
    whole : Cut (terms_of terms) (num (words_at scratch (from + 1) terms.width)) 0 (length (terms_of terms)) at
    whole = rw (length_terms terms) cut

    -- the next has its set
    pub found_both : (c : ℕ) (d : at < terms.count) → eqb (num (words_at terms.words.now (at * (terms.width + 1) + 1) terms.width)) (num (words_at scratch (from + 1) terms.width)) ≡ true
        → c ≡ (get_or scratch from 0 + coefficient_of terms at) % 2 ^ l
        → Spotted (2 ^ l) (terms_of terms) (get_or scratch from 0) (num (words_at scratch (from + 1) terms.width)) (record { above = at; met = true; c = c })
    found_both c d e s = record {
      cut = whole;
      both = λ a b. (refl, s);
      alone = λ k. absurd (k (omega (arith, length_terms terms)) (set_words at d ∙ eqb-true _ _ e));
    }

    -- it has another, or there is none
    pub found_alone : (at < terms.count → eqb (num (words_at terms.words.now (at * (terms.width + 1) + 1) terms.width)) (num (words_at scratch (from + 1) terms.width)) ≡ false)
        → Spotted (2 ^ l) (terms_of terms) (get_or scratch from 0) (num (words_at scratch (from + 1) terms.width)) (record { above = at; met = false; c = get_or scratch from 0 })
    found_alone f = record {
      cut = whole;
      both = λ a b. let d : at < terms.count = omega (arith, length_terms terms) in absurd (eqb-false _ _ (f d) (sym (set_words at d) ∙ b));
      alone = λ k. (refl, refl);
    }
