-- What the desk says of a text that is read, and of one that is refused.
use mathlib.Core.Path.{◌≡◌, refl, sym, ◌∙◌}
use mathlib.Core.List.{List}
use Prim.Native.Nat.{ℕ, ◌+◌, ◌*◌, ◌<◌, ◌≤◌}
use lib.ListN.{length, take, replicate, length-append, length-replicate}
use native.Mathlib.Omega.{arith}
use lib.Seq.{take_at}
use borrow.Author.Tests.{lt-ltb, le-ltb}
use Rattle.rules.specs.Limits.{most_desk_variables}
use Rattle.rules.specs.Netlist.{record_words, needed}
use Rattle.rules.specs.Reading.{Netlist, netlist, refused, reading, reading_says, ReadAs}
use Rattle.std.specs.Prelude.{Result, Ok, Err}
use Rattle.rules.specs.Says.{refuses, refusal_number, text_records}
use Rattle.rules.specs.Desk.{desk_table, desk_judging, desk_sized, desk_read}
use Rattle.rules.specs.declared.refusals.Refusal.{Refusal}
use Rattle.rules.specs.declared.counts.Counts.{Counts}
use Rattle.rules.specs.declared.records.RecordKind.TheVariants.{Gates}
use Rattle.rules.proofs.Sound.{RightCounts, not_wrong}
use Rattle.demands.proofs.Readings.{Outcome, said}
use Rattle.demands.proofs.Passed.{apart}
use Rattle.demands.proofs.TextExact.{text_exact}

-- the desk's table before it is read into
abbrev blank_table : List ℕ
blank_table = replicate desk_table 0

blank_words : length blank_table ≡ desk_table
blank_words = length-replicate {A = ℕ} desk_table 0

-- a text that is refused: the desk says so
pub refused_said : (kind : ℕ) (refusal : Refusal) (text exit : List ℕ) (r : Result Counts Refusal) → ReadAs text blank_table r exit → r ≡ Err refusal
    → refuses (refusal_number refusal) ≡ desk_read kind (reading desk_table text)
unfolding reading_says desk_read
refused_said kind refusal text exit r h e = go (reading desk_table text) (rw (e, blank_words) at h.said)
  where
    go : (n : Netlist) → refuses (refusal_number refusal) ≡ reading_says n → refuses (refusal_number refusal) ≡ desk_read kind n
    go (netlist c words) e = apart 0 (refusal_number refusal) _ (sym e)
    go (refused j) e = e

-- a text that is read: its counts are within their limits and of AND gates, and the words that they need stand in front of the table
pub record Taken (text : List ℕ) (c : Counts) (exit : List ℕ) : Type 0 where
  pub right : RightCounts c
  pub gates : c.records ≡ Gates
  pub room : needed c ≤ length exit
  pub is_read : reading desk_table text ≡ netlist c (take (needed c) exit)

pub read_taken : (text exit : List ℕ) (c : Counts) (r : Result Counts Refusal) → ReadAs text blank_table r exit → r ≡ Ok c → Taken text c exit
unfolding text_records reading_says
read_taken text exit c r h e = go (reading desk_table text) refl (said desk_table text)
  where
    go : (n : Netlist) → reading desk_table text ≡ n → Outcome desk_table text n → Taken text c exit
    go (netlist d words) f so =
        let (known, front, count) = (text_exact text blank_table r exit h d words).1 (rw blank_words so) in
        let same : d ≡ c = cc in
        record {
          right = rw same at (not_wrong d so.limits);
          gates = rw e at h.records;
          room = rw (front, ← same, length-append) (omega arith);
          is_read = f ∙ rw (front, ← same, take_at words _ (needed d) count);
        }
    go (refused k) f so = apart 0 k _ (rw (e, blank_words, f) at h.said)

-- two words for each gate
pub words_taken : (text exit : List ℕ) (c : Counts) → Taken text c exit → needed c ≡ c.o + 2 * c.a
unfolding needed record_words
words_taken text exit c h = rw h.gates

-- then 13 for M above 127
pub large_said : (kind : ℕ) (text exit : List ℕ) (c : Counts) → Taken text c exit → most_desk_variables < c.m
    → refuses 13 ≡ desk_read kind (reading desk_table text)
unfolding desk_read desk_sized
large_said kind text exit c h m = rw (h.is_read, lt-ltb most_desk_variables c.m m)

-- and else judging
pub judged_said : (kind : ℕ) (text exit : List ℕ) (c : Counts) → Taken text c exit → c.m ≤ most_desk_variables
    → desk_judging kind c (take (needed c) exit) ≡ desk_read kind (reading desk_table text)
unfolding desk_read desk_sized
judged_said kind text exit c h m = rw (h.is_read, le-ltb most_desk_variables c.m m)
