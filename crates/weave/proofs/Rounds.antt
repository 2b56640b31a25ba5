-- The turns, one after another.
use Rattle.std.proofs.Common.{◌≡◌, ℕ, ◌+◌, ◌*◌, ◌^◌, ◌≤◌, false, List, ◌++◌, None, Some, length, drop, refl, ap, ◌∙◌, arith}
use Rattle.rules.specs.Polynomial.{gather}
use Rattle.words.specs.Stored.{decoded}
use Rattle.words.proofs.Stored.{length_decoded}
use Rattle.weave.specs.Seeking.{Stop}
use Rattle.weave.specs.Weaving.{without, old_terms, new_terms, Task, State, Midway, Onward, Full, going_on}
use Rattle.weave.specs.Written.{Behind}
use Rattle.weave.specs.declared.weaving.Place.{Place}
use Rattle.weave.specs.declared.weaving.Sizes.{Sizes}
use Rattle.weave.proofs.Growing.{behind_later, behind_limit}
use Rattle.weave.proofs.States.{gone_on, state_begin, state_end}

-- what the turns from scratch₀ on have left
pub record Underway (z : Sizes) (store scratch₀ scratch : List ℕ) (k : Place) : Type 0 where
  pub same_length : length scratch ≡ length scratch₀
  pub state : State z (old_terms z store) (new_terms z scratch₀) k (decoded z.w k.out scratch)
  pub behind : Behind z.w z.limit (Some k.out) scratch₀ scratch

module _ (z : Sizes) (store scratch₀ : List ℕ) (t : Task z store scratch₀) where
  -- before the first turn
  pub underway_begin : (stop : ℕ) → Stop z.v (old_terms z store) 0 stop → Underway z store scratch₀ scratch₀ (record { at = 0; stop = stop; used = 0; out = 0 })
  unfolding decoded
  underway_begin stop s = record {
    same_length = refl;
    state = state_begin z (old_terms z store) (new_terms z scratch₀) (length_decoded z.w z.n store) (length_decoded z.w z.made (drop (z.limit * (z.w + 1)) scratch₀)) t.falls t.new_falls stop s;
    behind = refl;
  }

  module _ (scratch : List ℕ) (k : Place) (h : Underway z store scratch₀ scratch k) where
    -- no word behind the room has changed
    full_behind : Behind z.w z.limit None scratch₀ scratch
    full_behind = behind_limit z.w z.limit k.out scratch₀ scratch h.state.most h.behind

    -- the new terms are as they were
    new_same : new_terms z scratch ≡ new_terms z scratch₀
    new_same = ap (decoded z.w z.made) full_behind

    -- what a turn asks
    pub underway_turn : Midway z store scratch k
    underway_turn = record {
      task = record {
        room = t.room;
        scratch_room = rw h.same_length t.scratch_room;
        narrow = t.narrow;
        v_in = t.v_in;
        short = t.short;
        l_high = t.l_high;
        end_in = t.end_in;
        free = t.free;
        falls = t.falls;
        coefficients = t.coefficients;
        new_falls = rw new_same t.new_falls;
        new_coefficients = rw new_same t.new_coefficients;
      };
      state = rw new_same h.state;
    }

    -- after it
    pub underway_on : (scratch' : List ℕ) (r : Place) → length scratch' ≡ length scratch → Onward z store scratch k r scratch' → Underway z store scratch₀ scratch' r
    underway_on scratch' r l e = record {
      same_length = l ∙ h.same_length;
      state = rw new_same at e.state;
      behind = e.behind ∙ behind_later z.w z.limit k.out (Some r.out) scratch₀ scratch e.grows h.behind;
    }

    -- there is no room
    pub underway_full : (scratch' : List ℕ) → Full z store scratch scratch' → Full z store scratch₀ scratch'
    underway_full scratch' e = record { full = rw new_same at e.full; behind = e.behind ∙ full_behind }

    -- both parts
    pub underway_end : going_on z k ≡ false
        → (k.at ≤ length (old_terms z store)) × (decoded z.w k.out scratch ++ drop k.at (old_terms z store) ≡ gather (2 ^ z.l) (without z.v (old_terms z store) ++ new_terms z scratch₀))
    underway_end g =
        let n : length (old_terms z store) ≡ z.n = length_decoded z.w z.n store in
        state_end z (old_terms z store) (new_terms z scratch₀) n (length_decoded z.w z.made (drop (z.limit * (z.w + 1)) scratch₀)) t.falls t.new_falls k (decoded z.w k.out scratch) h.state (λ i a b. t.free i a (omega arith)) t.coefficients (gone_on z k g)
