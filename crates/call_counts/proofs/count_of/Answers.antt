-- `call_counts::count_of` meets its contract. Assumes nothing.
use Rattle.std.specs.Prelude.{◌+◌, ◌-◌, ◌≡◌}
use Rattle.whole.specs.Plain.{ℕ, pos, zero-add, Words, word}
use Rattle.whole.specs.Int.{read64}
use Rattle.whole.specs.Index.{index}
use Rattle.paper.specs.Records.{count_of}
use Rattle.call_counts.specs.Counts.{CountIn}
use Rattle.call_counts.proofs.count_of.Goals as goal

number : {recs : Words} {a : ℕ} → CountIn recs a → word recs (0 + (a - 1)) ≡ pos (count_of recs a)
number {a = a} s = rw (zero-add (a - 1)) s.number

pub overflow_cast-result : goal.overflow_cast-result
overflow_cast-result c = index (word c.args.records.now (0 + (c.args.a - 1))) _ c.word-1.given (number c.requires)

pub returns : goal.returns
returns c = rw (read64 (word c.args.records.now (0 + (c.args.a - 1))) c.word-1.given, number c.requires)
