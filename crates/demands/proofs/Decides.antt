-- With room and an honest order the answer is "equal" or "differs", and the right one.
use mathlib.Core.Path.{refl, sym, ◌∙◌}
use native.Mathlib.Omega.{arith}
use Rattle.std.specs.Prelude.{Ok, Err}
use Rattle.rules.specs.Says.{refusal_number, answer_says}
use Rattle.rules.specs.declared.answers.Answer.TheVariants.{Equal, Differs, OutOfRoom, Unfinished}
use Rattle.demands.specs.Answers.{HonestDecides}
use Rattle.demands.proofs.Finishes.{honest_finishes}
use Rattle.demands.proofs.Right.{equal_right, differs_right}
use Rattle.demands.proofs.Room.{room_exact}
use Rattle.demands.proofs.Verdicts.{judging_passed, verdict_answers}

-- R and a refusal do not come where there is room, U does not come after an honest order, and E and D are right
pub honest_decides : HonestDecides
unfolding answer_says
honest_decides x (Ok (Equal steps terms)) answered roomy h =
    ((λ right. (steps, terms, refl)), (λ wrong. absurd (wrong (equal_right x steps terms answered))))
honest_decides x (Ok (Differs steps terms a b c g w)) answered roomy h =
    let least = differs_right x steps terms a b c g w answered in (
      (λ right. absurd (least.wrong (least.evaluated ∙ right a b c least.operands ∙ sym least.read))),
      (λ wrong. (steps, terms, a, b, c, g, w, refl)),
    )
honest_decides x (Ok (OutOfRoom step terms)) answered roomy h =
    let due = (room_exact x (Ok (OutOfRoom step terms)) answered step terms).0 refl in
    absurd (omega (arith, roomy.1 step due.1, due.2))
honest_decides x (Ok (Unfinished steps terms)) answered roomy h = absurd (honest_finishes x steps terms h answered)
honest_decides x (Err refusal) answered roomy h =
    absurd (verdict_answers x (refusal_number refusal) (answered.judged.said ∙ judging_passed x roomy.0))
