-- With no new term left, the rest is moved; else a turn puts one new term in its place, and what follows it is put together.
use Rattle.std.proofs.Common.{◌≡◌, ◌+◌, ◌-◌, ◌*◌, length, cond, ltb, ◌∙◌, refl, arith}
use Rattle.words.specs.Stretches.{moved}
use Rattle.splice.proofs.Turning.{if_below, if_not_below, there, left_room, room_at, to_count, last_turn, last_numbers, new_room, asks_place, term_room, above_room, turn_counts, asks_rest, asks_count, turn_done, turn_numbers}
use Rattle.splice.proofs.splicing.+splice.Goals as goal
use Rattle.splice.proofs.splicing.+splice.Goals.{then-to_front, else-to_front, then-to_back, else-to_back}

pub shift-requires : goal.shift-requires
shift-requires t c =
    let left = c.args.z.n - c.args.first in
    (left_room _ _ _ _ _ _ c.requires left (omega arith), room_at _ _ _ _ _ _ c.requires left (omega arith))

pub returns-then-used-z : goal.returns-then-used-z
returns-then-used-z t c =
    (last_turn _ _ _ _ _ _ c.requires c.shift.new.words c.if-used-z.true c.shift.ensures, last_numbers _ _ _ _ _ _ c.requires c.args.numbers.now c.if-used-z.true)

pub place-spot-requires : goal.place-spot-requires
place-spot-requires t c = asks_place _ _ _ _ _ _ c.requires (omega arith) _ refl refl refl

pub overflow_mul-above : goal.overflow_mul-above
overflow_mul-above t c = omega (arith, above_room _ _ _ _ _ _ c.requires (omega arith) _ c.place-spot.ensures)

pub shift-requires-then-to_front : goal.shift-requires-then-to_front
shift-requires-then-to_front t c = above_room _ _ _ _ _ _ c.requires (omega arith) _ c.place-spot.ensures

pub overflow_add-at : goal.overflow_add-at
overflow_add-at t c = omega (arith, turn_counts _ _ _ _ _ _ c.requires (omega arith) _ c.place-spot.ensures)

pub overflow_add-next : goal.overflow_add-next
overflow_add-next t c = omega (arith, turn_counts _ _ _ _ _ _ c.requires (omega arith) _ c.place-spot.ensures)

pub overflow_add-next-2 : goal.overflow_add-next-2
overflow_add-next-2 t c = omega (arith, turn_counts _ _ _ _ _ _ c.requires (omega arith) _ c.place-spot.ensures, c.from-met.ensures)

pub overflow_add-at-2 : goal.overflow_add-at-2
overflow_add-at-2 t c = omega (arith, turn_counts _ _ _ _ _ _ c.requires (omega arith) _ c.place-spot.ensures, c.from-count.ensures, there c.place-spot.result.c)

pub splice-rest-requires : goal.splice-rest-requires
splice-rest-requires t c =
    let z = c.args.z in
    let above = c.place-spot.result.above in
    let here = c.args.first * (z.w + 1) in
    let to = c.args.to * (z.w + 1) in
    let moved : c.if-to_front.store ≡ cond (ltb to here) (moved here to (above * (z.w + 1)) c.args.store.now) c.args.store.now =
    elim c.if-to_front.branch [
      | then-to_front w ↦ if_below _ _ _ _ _ w.if-to_front.true (w.store-is ∙ w.shift-then-to_front.ensures)
      | else-to_front w ↦ if_not_below _ _ _ _ _ w.if-to_front.false w.store-is
    ] in
    (omega arith, rw (c.from-met.ensures, c.from-count.ensures, there c.place-spot.result.c) (asks_rest _ _ _ _ _ _ c.requires (omega arith) _ c.place-spot.ensures c.if-to_front.store c.if-to_front.auto.store moved))

pub overflow_mul-above-then-to_back : goal.overflow_mul-above-then-to_back
overflow_mul-above-then-to_back t c = omega (arith, above_room _ _ _ _ _ _ c.requires (omega arith) _ c.place-spot.ensures)

pub shift-requires-then-to_back : goal.shift-requires-then-to_back
shift-requires-then-to_back t c =
    let k : length c.splice-rest.new.store ≡ length c.args.store.now = c.splice-rest.auto.store ∙ c.if-to_front.auto.store in
    rw k (above_room _ _ _ _ _ _ c.requires (omega arith) _ c.place-spot.ensures)

pub overflow_mul-at : goal.overflow_mul-at
overflow_mul-at t c = omega (arith, term_room _ _ _ _ _ _ c.requires (omega arith) _ c.place-spot.ensures)

pub put-requires : goal.put-requires
put-requires t c =
    let k : length c.if-to_back.store ≡ length c.args.store.now = c.if-to_back.auto.store ∙ c.splice-rest.auto.store ∙ c.if-to_front.auto.store in
    (omega (arith, new_room _ _ _ _ _ _ c.requires (omega arith)), rw k (term_room _ _ _ _ _ _ c.requires (omega arith) _ c.place-spot.ensures))

pub mark_change-requires : goal.mark_change-requires
mark_change-requires t c =
    let asks = asks_count _ _ _ _ _ _ c.requires (omega arith) in
    let long = c.splice-rest.ensures.1.long in
    (asks.0, asks.1, rw long asks.2, rw long asks.3, asks.4)

pub overflow_add-result-2 : goal.overflow_add-result-2
overflow_add-result-2 t c =
    let n = c.from-count.ensures ∙ there c.place-spot.result.c in
    omega (arith, turn_counts _ _ _ _ _ _ c.requires (omega arith) _ c.place-spot.ensures, to_count _ _ _ _ _ _ c.requires, c.splice-rest.ensures.0.most)

pub returns : goal.returns
returns t c =
    let z = c.args.z in
    let r = c.place-spot in
    let u = c.splice-rest in
    let here = c.args.first * (z.w + 1) in
    let to = c.args.to * (z.w + 1) in
    let first : c.if-to_front.store ≡ cond (ltb to here) (moved here to (r.result.above * (z.w + 1)) c.args.store.now) c.args.store.now =
    elim c.if-to_front.branch [
      | then-to_front w ↦ if_below _ _ _ _ _ w.if-to_front.true (w.store-is ∙ w.shift-then-to_front.ensures)
      | else-to_front w ↦ if_not_below _ _ _ _ _ w.if-to_front.false w.store-is
    ] in
    let last : c.if-to_back.store ≡ cond (ltb here to) (moved here to (r.result.above * (z.w + 1)) u.new.store) u.new.store =
    elim c.if-to_back.branch [
      | then-to_back w ↦ if_below _ _ _ _ _ w.if-to_back.true (w.store-is ∙ w.shift-then-to_back.ensures)
      | else-to_back w ↦ if_not_below _ _ _ _ _ w.if-to_back.false w.store-is
    ] in
    let k1 = c.if-to_front.auto.store in
    let k2 = u.auto.store ∙ k1 in
    let k3 = c.if-to_back.auto.store ∙ k2 in
    let m = c.from-met.ensures in
    let n = c.from-count.ensures ∙ there r.result.c in
    rw n (
      turn_done _ _ _ _ _ _ c.requires (omega arith) r.result r.ensures c.if-to_front.store k1 first u.result u.new.store c.if-to_back.store c.put.new.target (rw (m, n) at u.ensures.0) k2 k3 (c.put.auto.target ∙ k3) last c.put.ensures,
      turn_numbers _ _ _ _ _ _ c.requires (omega arith) r.result r.ensures c.if-to_front.store k1 first _ (there r.result.c) c.args.numbers.now _ _ (rw m at u.ensures.1) c.mark_change.ensures,
    )
