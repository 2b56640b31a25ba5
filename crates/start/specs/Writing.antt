-- What a writer does to a polynomial that is on its way.
use Rattle.std.specs.Prelude.{◌≡◌, Option, MatchOption, length}
use Rattle.rules.specs.Polynomial.{Polynomial}
use Rattle.start.specs.Start.{Going, Full}
use Rattle.start.specs.declared.writer.Writer.{Writer}

-- the writer still writes to the same words, terms as long and as many
pub record Same (before after : Writer) : Type 0 where
  pub name : after.store.ghost_name ≡ before.store.ghost_name
  pub lent : length after.store.now ≡ length before.store.now
  pub width : after.w ≡ before.w
  pub limit : after.limit ≡ before.limit

-- whatever polynomial is on its way, and has `then` of a rest still to come, has `now` of it to come afterwards; none where it has more
-- terms than there is room for
pub record Leads (then now : Polynomial → Polynomial) (before after : Writer) (r : Option Unit) : Type 0 where
  pub same : Same before after
  pub leads : (p rest : Polynomial)
      → Going before.w p (then rest) before.store.now before.count
      → MatchOption r (Full before.w before.limit p after.store.now) (λ _. Going before.w p (now rest) after.store.now after.count)

-- what is put in front of a rest is written, and the rest is still to come
abbrev pub Emits : (Polynomial → Polynomial) → Writer → Writer → Option Unit → Type 0
Emits put before after r = Leads put (λ rest. rest) before after r
