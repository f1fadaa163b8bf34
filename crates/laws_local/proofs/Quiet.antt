-- What an area hears at its next step is what it heard before another area's step, where neither waits. Assumes nothing.
use Rattle.std.specs.Prelude.{◌≡◌}
use Rattle.whole.specs.Plain.{ℕ, suc, List}
use Rattle.whole.specs.Plain.{Words}
use Rattle.paper.specs.Rows.{from, to}
use Rattle.paper.specs.Areas.{Net}
use Rattle.paper.specs.Records.{count_of}
use Rattle.paper.specs.Legs.{Heard, heard}
use Rattle.laws_local.specs.Sound.{Sound}
use Rattle.laws_local.specs.Own.{from_own, to_own}
use Rattle.laws_local.specs.Slots.{sent}
use Rattle.laws_local.specs.Waits.{Free}
use Rattle.laws_local.specs.Depends.{heard_same}
use Rattle.laws_local.specs.Quiet.{end_quiet}

module _ (N : Net) (a b : ℕ) (recs : Words) (ears : List Heard) (v : Words) (f : Sound N) where
  abbrev ka : ℕ
  ka = suc (count_of recs a)

  abbrev kb : ℕ
  kb = suc (count_of recs b)

  -- what b hears at its next step is what it heard before a's step
  pub quiet : Free N a ka recs → Free N b kb recs → (froms tos : Words)
      → heard N b kb (sent N a ka recs ears v (λ c. c.is_from_end) froms) (sent N a ka recs ears v (λ c. c.is_to_end) tos) ≡ heard N b kb froms tos
  quiet fa fb froms tos =
      heard_same N b kb _ _ froms tos
      (λ i h l o. end_quiet N a b recs ears v f from to (λ c. c.is_to_end) (to_own N a ka recs ears) i h l o (fa i h l).at_to ((fb i h l).at_from o) tos)
      (λ i h l o. end_quiet N a b recs ears v f to from (λ c. c.is_from_end) (λ n m s. rw m at (from_own N a ka recs ears n s)) i h l o (fa i h l).at_from ((fb i h l).at_to o) froms)
