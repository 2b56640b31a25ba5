-- The least and the most of what is taken, and what the maker of limits answers.
use Rattle.std.specs.Prelude.{◌≡◌, Bool, ◌||◌, [], ◌∷◌, ℕ, ltb, Result}
use Rattle.rules.specs.Says.{Says, answers, first, refuse_or, made_says}
use Rattle.rules.specs.declared.limits.Limits.{Limits}
use Rattle.rules.specs.declared.refusals.Refusal.{Refusal}

-- the term limit T
abbrev pub least_terms : ℕ
least_terms = 128

abbrev pub most_terms : ℕ
most_terms = 16384

-- the variables M
abbrev pub least_variables : ℕ
least_variables = 2

abbrev pub most_variables : ℕ
most_variables = 1023

-- the steps of an order
abbrev pub most_steps : ℕ
most_steps = 4096

-- the inputs I and the outputs O
abbrev pub least_inputs : ℕ
least_inputs = 2

abbrev pub most_inputs : ℕ
most_inputs = 64

abbrev pub least_outputs : ℕ
least_outputs = 1

abbrev pub most_outputs : ℕ
most_outputs = 64

-- the desk program: its input's bytes, its variables, its term limit
abbrev pub most_desk_bytes : ℕ
most_desk_bytes = 4096

abbrev pub most_desk_variables : ℕ
most_desk_variables = 127

abbrev pub desk_terms : ℕ
desk_terms = 512

-- M outside its limits (2)
unfoldable pub variables_wrong : ℕ → Bool
variables_wrong m = ltb m least_variables || ltb most_variables m

-- T outside its limits (10)
unfoldable pub terms_wrong : ℕ → Bool
terms_wrong t = ltb t least_terms || ltb most_terms t

-- more steps than an order may have (11)
unfoldable pub steps_wrong : ℕ → Bool
steps_wrong s = ltb most_steps s

-- what the maker says: the first refusal, or the three limits
unfoldable pub making : ℕ → ℕ → ℕ → Says
making t m s =
    refuse_or (first ((2, variables_wrong m) ∷ (10, terms_wrong t) ∷ (11, steps_wrong s) ∷ [])) (answers 0 (t ∷ m ∷ s ∷ []))

-- the permitted outcome of the maker, from term limit, M and steps
pub record Makes (t m s : ℕ) (r : Result Limits Refusal) : Type 0 where
  pub said : made_says r ≡ making t m s
