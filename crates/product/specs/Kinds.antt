-- The kinds as the code has them, and the rules' kinds.
use Rattle.std.specs.Prelude.{◌≡◌, ℕ}
use Rattle.rules.specs.Product as rule
use Rattle.rules.specs.Product.{kind_of}
use Rattle.product.specs.declared.kinds.Kind.{Kind}
use Rattle.product.specs.declared.kinds.Kind.TheVariants.{Plain, Signed, Truncated, MultiplyAdd, MultiplyAddSigned}

-- the rules' kind for one of the code
abbrev pub ruled : Kind → rule.Kind
ruled Plain = rule.plain
ruled Signed = rule.signed
ruled Truncated = rule.truncated
ruled MultiplyAdd = rule.multiply_add
ruled MultiplyAddSigned = rule.multiply_add_signed

-- the kind is that of the number
abbrev pub Numbered : ℕ → Kind → Type 0
Numbered number kind = ruled kind ≡ kind_of number
