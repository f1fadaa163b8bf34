-- "Resetting gives 9 or 8, or writes the records and both line stores all zero and answers 0." Assumes nothing.
use Rattle.std.specs.Prelude.{Ok, Err}
use Rattle.whole.specs.Plain.{cond, not, replicate, Words, z}
use Rattle.paper.specs.Replies.{Resetting}
use Rattle.paper.specs.declared.Unfit.TheVariants.{Network, Store}
use Rattle.paper.specs.Limits as Limits
use Rattle.paper.specs.Network.{is_network}
use Rattle.paper.specs.Advance.{Memory, memory, fits}

pub record Reset-out : Type 0 where
  pub answer : Resetting
  pub after : Memory

abbrev pub reset_out : Resetting → Memory → Reset-out
reset_out a m = record { answer = a; after = m }

-- "a table starts from all zeros"
unfoldable pub fresh : Memory
fresh = memory (replicate Limits.record_words z) (replicate Limits.store_words z) (replicate Limits.store_words z)

unfoldable pub reset_of : Words → Memory → Reset-out
reset_of net m =
    cond (not (fits net m)) (reset_out (Err Store) m)
    (cond (not (is_network net)) (reset_out (Err Network) m) (reset_out (Ok tt) fresh))
