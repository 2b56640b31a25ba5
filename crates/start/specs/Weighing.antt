-- What is added to the weights.
use Rattle.std.specs.Prelude.{◌≡◌, ◌++◌, ◌^◌}
use Rattle.rules.specs.Polynomial.{Polynomial}
use Rattle.start.specs.Start.{Weighed}
use Rattle.start.specs.declared.weights.Weights.{Weights}

-- the terms are added, modulo the same 2^l: weights of whatever p are then those of p and the terms
pub record Weighs (terms : Polynomial) (before after : Weights) : Type 0 where
  pub outputs : after.l ≡ before.l
  pub weighs : (p : Polynomial) → Weighed (2 ^ before.l) p before.of → Weighed (2 ^ before.l) (p ++ terms) after.of
