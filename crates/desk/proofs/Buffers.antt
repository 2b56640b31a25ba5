-- What the judge says with the desk's buffers.
use mathlib.Core.Path.{◌≡◌}
use mathlib.Core.Bool.{false}
use mathlib.Core.List.{List}
use Prim.Native.Nat.{ℕ, ◌+◌, ◌*◌, ◌≤◌}
use native.Mathlib.Omega.{arith}
use lib.ListN.{length, replicate, length-replicate}
use borrow.Author.Tests.{le-ltb}
use Rattle.rules.specs.Limits.{most_desk_variables, desk_terms}
use Rattle.rules.specs.Judging.{set_width, term_width, most_made, scratch_needed, lent_short, judge_checks, checks, refusal, judging}
use Rattle.rules.specs.Desk.{falling, desk_checks, desk_judging}
use Rattle.rules.specs.declared.counts.Counts.{Counts}
use Rattle.rules.specs.declared.records.RecordKind.TheVariants.{Gates}
use Rattle.rules.proofs.Indices.{length_listed}
use Rattle.judge.specs.Deciding.{handed, blank_log}

-- scratch for AND gates
four_times : (c : Counts) (limit : ℕ) → c.records ≡ Gates → scratch_needed c limit ≡ 4 * limit * term_width c
unfolding scratch_needed most_made
four_times c limit g = rw g

-- buffers that are long enough for AND gates are not too short
lent_enough : (c : Counts) → c.records ≡ Gates → (limit steps store scratch log occurrences : ℕ)
    → limit * term_width c ≤ store → 4 * limit * term_width c ≤ scratch → steps ≤ log → c.m + 1 ≤ occurrences
    → lent_short c limit steps store scratch log occurrences ≡ false
unfolding lent_short
lent_enough c g limit steps store scratch log occurrences s r l o =
    rw (
      four_times c limit g,
      le-ltb store (limit * term_width c) s,
      le-ltb scratch (4 * limit * term_width c) r,
      le-ltb log steps l,
      le-ltb occurrences (c.m + 1) o,
    )

-- with M at most 127 a term has at most three words
three_words : (c : Counts) → c.m ≤ most_desk_variables → term_width c ≤ 3
unfolding term_width set_width
three_words c h = omega arith

-- the order has an entry for each gate
falling_length : (c : Counts) → length (falling c) ≡ c.a
unfolding falling
falling_length c = length_listed c.a _

-- longer buffers than the desk's rule asks for change nothing of what is said; the occurrences are any words that are enough
pub desk_judged : (kind : ℕ) (c : Counts) (table order occurrences : List ℕ)
    → c.a ≤ c.m → c.m ≤ most_desk_variables → c.records ≡ Gates → order ≡ falling c → c.m + 1 ≤ length occurrences
    → judging (handed c table kind desk_terms order (replicate 1536 0) (replicate 6144 0) blank_log occurrences) ≡ desk_judging kind c table
unfolding judging refusal checks desk_judging desk_checks judge_checks
desk_judged kind c table order occurrences a m g e o =
    let words = three_words c m in
    let gates = falling_length c in
    let lent : lent_short c desk_terms (length (falling c)) 1536 6144 127 (length occurrences) ≡ false =
    lent_enough c g desk_terms (length (falling c)) 1536 6144 127 (length occurrences) (omega arith) (omega arith) (omega arith) o in
    let least : lent_short c desk_terms (length (falling c)) (desk_terms * term_width c) (4 * desk_terms * term_width c) (length (falling c)) (c.m + 1) ≡ false =
    lent_enough c g desk_terms (length (falling c)) _ _ (length (falling c)) (c.m + 1) (omega arith) (omega arith) (omega arith) (omega arith) in
    rw (e, length-replicate, lent, least)
