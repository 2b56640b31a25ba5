-- "Out of room" and "unfinished" are answered exactly when they are due.
use mathlib.Core.Path.{◌≡◌, ap, sym, ◌∙◌}
use mathlib.Core.List.{List, [], ◌∷◌}
use Prim.Native.Nat.{ℕ, ◌<◌, ◌≤◌}
use native.Mathlib.Omega.{arith}
use lib.ListN.{length, get_or}
use Rattle.std.specs.Prelude.{Ok}
use Rattle.rules.specs.Says.{answers, answer_says, says}
use Rattle.rules.specs.Product.{kind_of}
use Rattle.rules.specs.Steps.{after}
use Rattle.rules.specs.Judging.{Inputs, refusal, judging}
use Rattle.rules.specs.declared.answers.Answer.TheVariants.{OutOfRoom, Unfinished}
use Rattle.rules.proofs.OneOutcome.{answer_known}
use Rattle.rules.proofs.Sound.{right_counts, sound_table}
use Rattle.rules.proofs.AllSets.{AllSets}
use Rattle.demands.specs.Answers.{RoomExact, UnfinishedExact, Roomy, GateOccurs}
use Rattle.demands.proofs.StepShape.{UpTo, run_shape}
use Rattle.demands.proofs.Passed.{passed}
use Rattle.demands.proofs.Verdicts.{judging_passed, polynomials_on, last, room, length_polynomials, verdict_room, verdict_unfinished, answer_means}
use Rattle.demands.proofs.Occurs.{gate_occurs, not_inputs}
use Rattle.demands.proofs.TermLimit.{HeldTerms, room_before, room_end, room_only, room_all, length_held, held_length}

module _ (x : Inputs) where
  -- what R at step k with these terms means
  abbrev Due : ℕ → ℕ → Type 0
  Due k terms =
      (refusal x ≡ 0) × (k ≤ length x.order) × (x.limit < length (get_or (polynomials_on x) k []))
      × ((j : ℕ) → j < k → length (get_or (polynomials_on x) j []) ≤ x.limit) × HeldTerms (polynomials_on x) k terms

  -- R is said only then
  room_due : (k terms : ℕ) → answers 2 (k ∷ terms ∷ []) ≡ judging x → Due k terms
  room_due k terms h =
      let means = answer_means x 2 (k ∷ terms ∷ []) h in
      let here : room x ≡ k = means.1.1 in
      let ends = room_end x.limit (polynomials_on x) (omega (arith, length_polynomials x, means.1.0)) in (
        means.0,
        omega (arith, means.1.0),
        rw here at ends,
        (λ j l. room_before x.limit (polynomials_on x) j (omega arith)),
        rw means.1.2 at (length_held x.limit (polynomials_on x) k here),
      )

  -- and always then
  due_room : (k terms : ℕ) → Due k terms → judging x ≡ answers 2 (k ∷ terms ∷ [])
  due_room k terms due =
      let here : room x ≡ k = room_only x.limit (polynomials_on x) k (omega (arith, length_polynomials x, due.1)) due.2 due.3 in
      judging_passed x due.0
      ∙ verdict_room x (omega (arith, due.1))
      ∙ rw (held_length x.limit (polynomials_on x) k terms here due.4, here)

  -- where nothing is refused the last polynomial has variables up to M only
  last_under : refusal x ≡ 0 → AllSets (UpTo x.counts) (last x)
  last_under h =
      let facts = passed x h in
      (run_shape (kind_of x.kind) x.counts x.table (right_counts x.counts facts.counts)
      (sound_table x.counts x.table facts.sound) x.order facts.gates (length x.order) (omega arith)).under

  -- U is said only where all polynomials have room and the last one has a gate variable
  unfinished_due : (numbers : List ℕ) → answers 3 numbers ≡ judging x → Roomy x × GateOccurs x.counts (last x)
  unfolding after
  unfinished_due numbers h =
      let means = answer_means x 3 numbers h in (
        (means.0, λ k l. room_before x.limit (polynomials_on x) k (omega (arith, means.1.0))),
        gate_occurs x.counts (last x) (last_under means.0) means.1.1,
      )

  -- and always there
  due_unfinished : Roomy x → GateOccurs x.counts (last x) → judging x ≡ answers 3 (length x.order ∷ length (last x) ∷ [])
  unfolding after
  due_unfinished roomy occurs =
      judging_passed x roomy.0
      ∙ verdict_unfinished x
      (room_all x.limit (polynomials_on x) (length x.order) (length_polynomials x) roomy.1)
      (not_inputs x.counts (last x) occurs)

-- "out of room" exactly when a polynomial has no room, with the first such and the terms held
pub room_exact : RoomExact
unfolding after answer_says
room_exact x r answered k terms = (
  (λ e. room_due x k terms (ap says (sym e) ∙ answered.judged.said)),
  (λ due. answer_known r (Ok (OutOfRoom k terms)) (answered.judged.said ∙ due_room x k terms due)),
)

-- "unfinished" exactly when all have room and a gate occurs in the last one
pub unfinished_exact : UnfinishedExact
unfolding answer_says
unfinished_exact x r answered = (
  (λ found. unfinished_due x (found.0 ∷ found.1 ∷ []) (ap says (sym found.2) ∙ answered.judged.said)),
  (λ due. (length x.order, length (last x), answer_known r (Ok (Unfinished _ _)) (answered.judged.said ∙ due_unfinished x due.0 due.1))),
)
