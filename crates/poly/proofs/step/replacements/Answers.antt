-- The tables are those of the gate, so its streams gather to what becomes of the terms that hold it.
use Rattle.std.proofs.Common.{◌≡◌, ℕ, ◌*◌, ◌≤◌, Bool, true, false, cond, eqb, inl, inr, List, ◌++◌, length, take, drop, replicate, ℤ, pos, refl, sym, ◌∙◌, mul-le-mul_right, arith, length-append, length-drop, length-take-le}
use Rattle.gates.specs.Rows.{row_of, Tabled, Rows}
use Rattle.gates.proofs.Tables.{mask_none}
use Rattle.merge.specs.Streams.{streams_of}
use Rattle.merge.specs.declared.streams.Gate.{Gate}
use Rattle.merge.proofs.Flow.{streams_few}
use Rattle.poly.proofs.Tables.{filled, held, masks_short, lows, same}
use Rattle.poly.proofs.step.replacements.Goals as goal

-- a row of eight multipliers is lent for each stream
rows_of : (g : Gate) → Rows (streams_of g * 8)
unfolding streams_of
rows_of g = go (eqb g.over.z 0)
  where
    go : (b : Bool) → Rows (cond b 4 8 * 8)
    go true = inl refl
    go false = inr refl

-- of 64 multipliers those of the s streams of a gate are lent
module _ (s : ℕ) (g : Gate) (e : s ≡ streams_of g) where
  few : s ≤ 8
  few = rw e (streams_few g).1

  lent : length (take {A = ℤ} (s * 8) (replicate 64 (pos 0))) ≡ s * 8
  lent =
      let l : s * 8 ≤ 64 = omega (arith, few) in
      length-take-le (s * 8) (replicate 64 (pos 0)) l

  -- and come back as `table`, in front of the others
  module _ (table : List ℤ) (l : length table ≡ length (take {A = ℤ} (s * 8) (replicate 64 (pos 0)))) where
    size : length (table ++ drop (s * 8) (replicate 64 (pos 0))) ≡ 64
    size = simp (length-append, length-drop) (omega (arith, l, lent, few))

    tabled : (row : List ℤ) → Tabled (row_of row) (length (take {A = ℤ} (s * 8) (replicate 64 (pos 0)))) table → Tabled (row_of row) (streams_of g * 8) (table ++ drop (s * 8) (replicate 64 (pos 0)))
    tabled row t = rw (← e) (filled (row_of row) (s * 8) table (drop (s * 8) (replicate 64 (pos 0))) (l ∙ lent) (rw lent at t))

pub slice_bounds-multiplier_table-end : goal.slice_bounds-multiplier_table-end
slice_bounds-multiplier_table-end c =
    let s = c.streams_of-count in
    sym (lent s.result c.args.g s.ensures)

pub multiplier_table-requires : goal.multiplier_table-requires
multiplier_table-requires c =
    let p = c.requires.0 in
    let s = c.streams_of-count in
    (p.eight, p.apart.within, rw (lent s.result c.args.g s.ensures, s.ensures) (rows_of _))

pub mask_table-requires : goal.mask_table-requires
mask_table-requires c =
    let t = c.args.terms.now in
    let p = c.requires.0 in
    let l = few c.streams_of-count.result c.args.g c.streams_of-count.ensures in (
      l,
      omega (arith, mul-le-mul_right t.width l, t.narrow),
      t.narrow,
      omega (arith, p.v_in, p.short),
      omega (arith, p.x_low, p.v_in, p.short),
      omega (arith, p.y_low, p.v_in, p.short),
      omega (arith, p.z_low, p.v_in, p.short),
      λ j d. mask_none t.width 128 j,
    )

pub invariant_of-weighted : goal.invariant_of-weighted
invariant_of-weighted c =
    let a = c.args in
    let t = a.terms.now in
    let s = c.streams_of-count in
    let m = c.mask_table in
    let n = c.multiplier_table in
    let table = n.new.table ++ drop (s.result * 8) (replicate 64 (pos 0)) in
    let z = size s.result a.g s.ensures n.new.table n.auto.table in
    let filled = tabled s.result a.g s.ensures n.new.table n.auto.table a.row.now n.ensures in
    record { held = held t a.g a.r a.row.now c.requires.0 table m.new.masks z filled (rw s.ensures at m.ensures.0) }

pub invariant_of-streams : goal.invariant_of-streams
invariant_of-streams c =
    let a = c.args in
    let t = a.terms.now in
    let s = c.streams_of-count in
    let m = c.mask_table in
    let n = c.multiplier_table in
    let table = n.new.table ++ drop (s.result * 8) (replicate 64 (pos 0)) in
    let z = size s.result a.g s.ensures n.new.table n.auto.table in
    let filled = tabled s.result a.g s.ensures n.new.table n.auto.table a.row.now n.ensures in
    record { masked = masks_short t a.g a.r a.row.now c.requires.0 table m.new.masks z filled (rw s.ensures at m.ensures.0) (omega (arith, mul-le-mul_right t.width (streams_few a.g).1, t.narrow, m.auto.masks)) }

pub merge-requires : goal.merge-requires
merge-requires c =
    let a = c.args in
    let t = a.terms.now in
    let s = c.streams_of-count in
    let n = c.multiplier_table in
    let table = n.new.table ++ drop (s.result * 8) (replicate 64 (pos 0)) in
    let z = size s.result a.g s.ensures n.new.table n.auto.table in
    let filled = tabled s.result a.g s.ensures n.new.table n.auto.table a.row.now n.ensures in
    (c.requires.1, lows t a.g a.r a.row.now c.requires.0 table c.mask_table.new.masks z filled (rw s.ensures at c.mask_table.ensures.0))

pub returns : goal.returns
returns c =
    let a = c.args in
    let t = a.terms.now in
    let s = c.streams_of-count in
    let n = c.multiplier_table in
    let table = n.new.table ++ drop (s.result * 8) (replicate 64 (pos 0)) in
    let z = size s.result a.g s.ensures n.new.table n.auto.table in
    let filled = tabled s.result a.g s.ensures n.new.table n.auto.table a.row.now n.ensures in
    rw (same t a.g a.r a.row.now c.requires.0 table c.mask_table.new.masks z filled (rw s.ensures at c.mask_table.ensures.0)) at c.merge.ensures
