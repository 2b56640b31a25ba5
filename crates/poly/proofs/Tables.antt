-- The tables of a gate are what the streams and the merge ask for.
use mathlib.Core.Path.{◌≡◌, ◌∙◌}
use mathlib.Core.List.{List, ◌++◌}
use Prim.Native.Nat.{ℕ, ◌+◌, ◌*◌, ◌/◌, ◌%◌, ◌^◌, ◌<◌, ◌≤◌}
use native.Mathlib.Omega.{arith}
use lib.IntN.{ℤ, pos}
use lib.ListN.{length, get_or-append}
use lib.Pow.{pow_mono}
use Rattle.rules.specs.Polynomial.{gather}
use Rattle.rules.specs.Steps.{all_replaced}
use Rattle.rules.specs.declared.records.Record.{Record}
use Rattle.rules.proofs.Gathered.{under_of}
use Rattle.rules.proofs.Terms.{weaken}
use Rattle.words.specs.Listed.{terms_of}
use Rattle.words.specs.declared.listed.Terms.{Terms}
use Rattle.words.proofs.Stored.{length_terms}
use Rattle.weave.specs.Merging.{Lows}
use Rattle.gates.specs.Masks.{mask_of, mask_at}
use Rattle.gates.specs.Rows.{row_of, Tabled}
use Rattle.merge.specs.Streams.{streams_of, Held, Masks, stream, streams}
use Rattle.poly.specs.Stepping.{Fit}
use Rattle.weave.specs.Weaving.{holding}
use Rattle.merge.specs.declared.streams.Gate.{Gate}
use Rattle.gates.proofs.Replacing.{small_of}
use Rattle.gates.proofs.Tables.{mask_lt}
use Rattle.merge.proofs.Flow.{streams_few}
use Rattle.weave.proofs.Falling.{coefficients_at}
use Rattle.weave.proofs.Places.{set_below}
use Rattle.poly.proofs.Joins.{Tables, step_streams, stream_falls}

-- the first n places of a table are filled, whatever stands behind them
pub filled : (row : ℕ → ℤ) (n : ℕ) (part rest : List ℤ) → length part ≡ n → Tabled row n part → Tabled row n (part ++ rest)
filled row n part rest l t i h = get_or-append part rest (pos 0) i (rw l h) ∙ t i h

-- the tables of a gate that fits
module _ (t : Terms) (g : Gate) (r : Record) (row : List ℤ) (f : Fit t.width (terms_of t) g r row) (multipliers : List ℤ) (masks : List ℕ) (ls : length multipliers ≡ 64)
    (hs : Tabled (row_of row) (streams_of g * 8) multipliers) (hm : (j : ℕ) → j < streams_of g → mask_at t.width masks j ≡ mask_of g.v g.over j) where
  -- what the streams ask
  pub held : Held t g multipliers
  held = record {
    v_in = omega (arith, f.v_in, f.short);
    x_in = omega (arith, f.x_low, f.v_in, f.short);
    y_in = omega (arith, f.y_low, f.v_in, f.short);
    z_in = omega (arith, f.z_low, f.v_in, f.short);
    l_high = f.l_high;
    table = ls;
    some = λ i l. (coefficients_at (2 ^ g.l) i (terms_of t) f.coefficients (omega (arith, length_terms t))).0;
    small = λ i l. (coefficients_at (2 ^ g.l) i (terms_of t) f.coefficients (omega (arith, length_terms t))).1;
  }

  -- the sets and the masks use the words that the gate says
  pub masks_short : streams_of g * t.width ≤ length masks → Masks t g masks
  masks_short l = record {
    wide = l;
    short = f.short;
    sets = λ i d. set_below (2 ^ (64 * g.k)) (terms_of t) i f.falls (omega (arith, length_terms t));
    low = λ j d. rw (hm j d) (mask_lt (64 * g.k) g.v g.over j f.v_in (omega (arith, f.x_low, f.v_in)) (omega (arith, f.y_low, f.v_in)) (omega (arith, f.z_low, f.v_in)));
  }

  -- the tables are those of the gate
  tables : Tables g r row multipliers (mask_at t.width masks)
  tables = record {
    apart = f.apart;
    x_off = λ e. omega (arith, f.x_low);
    y_off = λ e. omega (arith, f.y_low);
    z_off = λ e. omega (arith, f.z_low);
    multiplied = λ h j a b.
        let k : j < 8 = omega (arith, (streams_few g).1) in
        let e1 : (h * 8 + j) / 8 ≡ h = omega arith in
        let e2 : (h * 8 + j) % 8 ≡ j = omega arith in
        hs (h * 8 + j) (omega arith) ∙ rw (e1, e2);
    masked = hm;
  }

  -- every stream falls below what the words of a set hold
  pub lows : Lows (2 ^ (64 * t.width)) (streams_of g) (λ j. stream g multipliers (mask_at t.width masks) j (terms_of t))
  lows j l =
      let e = 64 * t.width in
      let m : 64 * g.k ≤ e = omega (arith, f.short) in
      let v : g.v < e = omega (arith, f.v_in) in
      let b = weaken (2 ^ (64 * g.k)) (2 ^ e) (terms_of t) (pow_mono m) f.falls in
      stream_falls g r row multipliers (mask_at t.width masks) tables e j l (terms_of t) (2 ^ e) b (under_of (2 ^ e) (2 ^ e) (terms_of t) (omega arith) b)
      (rw (hm j l) (mask_lt e g.v g.over j v (omega (arith, f.x_low)) (omega (arith, f.y_low)) (omega (arith, f.z_low))))

  -- the streams gathered are what becomes of the terms that hold v
  pub same : gather (2 ^ g.l) (streams g multipliers (mask_at t.width masks) (streams_of g) (terms_of t)) ≡ gather (2 ^ g.l) (all_replaced (2 ^ g.l) g.v r (holding g.v (terms_of t)))
  same = step_streams g r row multipliers (mask_at t.width masks) tables (terms_of t) (small_of (2 ^ g.l) (terms_of t) f.coefficients)
