-- When each answer to an advance of area a comes, in document 01's words. Definitions only, to be held beside the paper. Assumes nothing.
use Rattle.std.specs.Prelude.{Ok, Err}
use Rattle.std.specs.Prelude.{◌≤◌, ◌<◌, ◌≡◌}
use Rattle.whole.specs.Plain.{ℕ, suc, true, false, length, Words}
use Rattle.paper.specs.Replies.{Advance}
use Rattle.paper.specs.declared.Refusal.TheVariants.{Store, Network, State, Area, Done, Wait, Floating, Range, Unbalanced, History}
use Rattle.paper.specs.Rows.{is_line, steps}
use Rattle.paper.specs.Areas.{Net, branch_number}
use Rattle.paper.specs.Network.{is_network}
use Rattle.paper.specs.Records.{count_of, well_formed}
use Rattle.paper.specs.Advance.{Memory, fits}
use Rattle.laws_facts.specs.Nets.{row_at, net_in}
use Rattle.laws_floats.specs.Floats.{Floats}
use Rattle.laws_local.specs.Waits.{Allowed, Behind, Free}
use Rattle.laws_local.specs.Outcome.{step_of}
use Rattle.laws_demands.specs.Said.{IsArea}
use Rattle.laws_demands.specs.Judged.{Judged}
use Rattle.laws_demands.specs.Passing.{AllPaths, OutOfRange, AllInRange, Unbalances, AllBalanced}
use Rattle.laws_demands.specs.Histories.{FirstExceeds, AllWithin}

-- what is judged has a next step
pub record Next (net : Words) (a : ℕ) (m : Memory) : Type 0 where
  pub judged : Judged net m
  pub area : IsArea (net_in net) a
  pub undone : count_of m.records a < steps (net_in net).head

-- a line of the area waits, and none before it in the table
pub record Late (net : Words) (a : ℕ) (m : Memory) (b : ℕ) : Type 0 where
  pub row : ℕ
  pub there : row < length (net_in net).rows
  pub line : is_line (row_at (net_in net) row) ≡ true
  pub behind : Behind (net_in net) a (suc (count_of m.records a)) m.records row
  pub first : (i : ℕ) → i < row → is_line (row_at (net_in net) i) ≡ true → Allowed (net_in net) a (suc (count_of m.records a)) m.records i
  pub number : b ≡ branch_number (net_in net) (suc row)

-- none of 8 to 13 applies: what is lent is judged, the area has a next step, and no far area's count is below k - d
pub record Ready (net : Words) (a : ℕ) (m : Memory) : Type 0 where
  pub next : Next net a m
  pub sent : Free (net_in net) a (step_of (net_in net) a m) m.records

module _ (net : Words) (a : ℕ) (m : Memory) where
  abbrev N : Net
  N = net_in net

  abbrev k : ℕ
  k = step_of N a m

  -- "Advancing: 9, 8, then 10 to 17"
  abbrev pub Says : Advance → Type 0
  -- 9 STORE: "a lent length wrong"
  Says (Err Store) = fits net m ≡ false
  -- 8 NETWORK: "lent network record not one the reader could write"
  Says (Err Network) = (fits net m ≡ true) × (is_network net ≡ false)
  -- 10 STATE: "records not well formed"
  Says (Err State) = (fits net m ≡ true) × (is_network net ≡ true) × (well_formed N m.records m.froms m.tos ≡ false)
  -- 11 AREA: "no such area"
  Says (Err Area) = Judged net m × (IsArea N a → ⊥)
  -- 12 DONE: "the area has taken all steps"
  Says (Err Done) = Judged net m × IsArea N a × (steps N.head ≤ count_of m.records a)
  -- 13 WAIT: "a far area's count is below k - d"
  Says (Err (Wait b)) = Next net a m × Late net a m b
  -- 14 FLOATING: "a free node has no path"
  Says (Err (Floating n)) = Ready net a m × Floats N a k m.records n
  -- 15 RANGE: "a proposed voltage out of range"
  Says (Err (Range n)) = Ready net a m × AllPaths N a k m × OutOfRange N a k m n
  -- 16 UNBALANCED: "the limit is passed at a node"
  Says (Err (Unbalanced n)) = Ready net a m × AllPaths N a k m × AllInRange N a k m × Unbalances N a k m n
  -- 17 HISTORY: "a next history or sent value beyond 10^17"
  Says (Err (History b)) = Ready net a m × AllPaths N a k m × AllInRange N a k m × AllBalanced N a k m × FirstExceeds N a k m b
  -- "an accepted advance answers the area's new count"
  Says (Ok x) = Ready net a m × (x ≡ k) × AllPaths N a k m × AllInRange N a k m × AllBalanced N a k m × AllWithin N a k m
