-- What one writing after the other does.
use mathlib.Core.Path.{◌≡◌, refl, ◌∙◌}
use Rattle.std.specs.Prelude.{Option, Some, None}
use Rattle.rules.specs.Polynomial.{Polynomial}
use Rattle.start.specs.Writing.{Same, Leads, Emits}
use Rattle.start.specs.declared.writer.Writer.{Writer}

-- a writer is the same as itself
pub same : (a : Writer) → Same a a
same a = record { name = refl; lent = refl; width = refl; limit = refl }

-- nothing is written yet
pub leads_begun : (put : Polynomial → Polynomial) (a : Writer) → Leads put put a a (Some tt)
leads_begun put a = record { same = same a; leads = λ p rest g. g }

module _ {first second : Polynomial → Polynomial} {a b : Writer} where
  -- what stands in front of the rest is written next
  pub leads_more : {put third : Polynomial → Polynomial} {c : Writer} {r : Option Unit} → Leads first second a b (Some tt)
      → ((rest : Polynomial) → second rest ≡ put (third rest)) → Emits put b c r → Leads first third a c r
  leads_more {put} {third} e h f = record {
    same = record {
      name = f.same.name ∙ e.same.name;
      lent = f.same.lent ∙ e.same.lent;
      width = f.same.width ∙ e.same.width;
      limit = f.same.limit ∙ e.same.limit;
    };
    leads = λ p rest g. rw (e.same.width, e.same.limit) at (f.leads p (third rest) (rw (e.same.width, ← h rest) (e.leads p rest g)));
  }

  -- nothing is left to write
  pub leads_ended : {r : Option Unit} → Leads first second a b r → ((rest : Polynomial) → second rest ≡ rest) → Emits first a b r
  leads_ended e h = record { same = e.same; leads = λ p rest g. rw h at (e.leads p rest g) }

  -- where there was no room, whatever was to come
  pub leads_none : {third : Polynomial → Polynomial} {r : Option Unit} → r ≡ None → Leads first second a b None → Leads first third a b r
  leads_none n e = rw n (record { same = e.same; leads = λ p rest g. e.leads p rest g })
