-- T-ends and T-reach: any two orders that go on until every area answers DONE, WAIT or one of 14 to 17 end alike; and an area that no chain of lines
-- ties to a stopped one has then taken all its steps. Assumes nothing.
use Rattle.std.specs.Prelude.{Err}
use Rattle.std.specs.Prelude.{◌<◌, ◌≡◌}
use Rattle.whole.specs.Plain.{ℕ, true, List}
use Rattle.whole.specs.Plain.{length, Words}
use Rattle.paper.specs.Replies.{Advance}
use Rattle.paper.specs.declared.Refusal.TheVariants.{Done, Wait}
use Rattle.paper.specs.Rows.{is_line}
use Rattle.paper.specs.Areas.{Net}
use Rattle.paper.specs.Advance.{Memory, advance_of}
use Rattle.laws_facts.specs.Nets.{row_at}
use Rattle.laws_local.specs.Outcome.{StepRefusal}
use Rattle.laws_demands.specs.Said.{IsArea}
use Rattle.laws_runs.specs.Runs.{Lent, from_reset}
use Rattle.laws_runs.specs.Received.{Side, far, area_at}

-- "DONE, WAIT or one of 14 to 17"
pub data Quits (x : Advance) : Type 0 where
  all_taken : x ≡ Err Done → Quits x
  waiting : (b : ℕ) → x ≡ Err (Wait b) → Quits x
  stopped : StepRefusal x → Quits x

-- "tied by a chain of lines"; an area is tied to itself
pub data Tied (N : Net) (a : ℕ) : ℕ → Type 0 where
  self : Tied N a a
  line : {b : ℕ} (s : Side) (i : ℕ) → Tied N a b → i < length N.rows → is_line (row_at N i) ≡ true → area_at N s i ≡ b → Tied N a (area_at N (far s) i)

module _ (net : Words) (lent : Memory) (ok : Lent net lent) where
  open from_reset net lent use {N, start, at}

  abbrev answers : ℕ → List ℕ → Advance
  answers a w = (advance_of net a (at w)).answer

  -- "until in one unchanged state every area answers DONE, WAIT or one of 14 to 17"
  abbrev pub Ended : List ℕ → Type 0
  Ended w = (a : ℕ) → IsArea N a → Quits (answers a w)
