-- What a turn does, by what it found.
use mathlib.Core.Path.{◌≡◌}
use mathlib.Core.Bool.{true}
use mathlib.Core.List.{List}
use Prim.Native.Nat.{ℕ, ◌+◌, ◌*◌, ◌<◌, ◌≤◌}
use native.Mathlib.Omega.{arith}
use lib.ListN.{drop}
use Rattle.words.specs.Numbers.{num, words_at}
use Rattle.words.proofs.Stored.{length_decoded}
use Rattle.weave.specs.Seeking.{Cut}
use Rattle.weave.specs.Weaving.{old_terms, new_terms, Midway, Head, Stretch, going_on}
use Rattle.weave.specs.declared.weaving.Place.{Place}
use Rattle.weave.specs.declared.weaving.Sizes.{Sizes}
use Rattle.weave.proofs.States.{still_going}
use Rattle.weave.proofs.Turns.{stop_in, new_set}

module _ (z : Sizes) (store scratch : List ℕ) (k : Place) (m : Midway z store scratch k) where
  -- the store is at its end: a new term is left
  pub head_end : going_on z k ≡ true → k.at ≡ k.stop → z.n ≤ k.at → Head z (old_terms z store) (new_terms z scratch) k
  head_end g e l = record {
    some = still_going z k g (omega (arith, m.task.end_in));
    all = λ d. omega (arith, stop_in z store scratch scratch k m);
    under = λ d. absurd (omega arith);
  }

  module _ (n : k.at ≡ k.stop → ⊥) where
    module _ (v : k.used ≡ z.made → ⊥) where
      -- a new term is left
      pub new_left : k.used < z.made
      new_left = omega (arith, v, m.state.used, length_decoded z.w z.made (drop (z.limit * (z.w + 1)) scratch))

      module _ (to : ℕ) (s : Cut (old_terms z store) (num (words_at scratch ((z.limit + k.used) * (z.w + 1) + 1) z.w)) k.at k.stop to) where
        -- terms are above it
        pub stretch_cut : k.at < to → Stretch z (old_terms z store) (new_terms z scratch) k to
        stretch_cut l = record { some = l; within = s.high; above = λ d. rw (new_set z store scratch m.task k.used d) s.above }

        -- none is
        pub head_cut : to ≤ k.at → Head z (old_terms z store) (new_terms z scratch) k
        head_cut l =
            let e : to ≡ k.at = omega (arith, s.low) in
            record {
              some = new_left;
              all = λ d. absurd (n d);
              under = λ d. rw (new_set z store scratch m.task k.used new_left, ← e) (s.under (omega arith));
            }
