-- Where the own of each area stands, and what stands there. Assumes nothing.
use Rattle.std.specs.Prelude.{◌+◌, ◌*◌, ◌≤◌, ◌<◌, ◌≡◌}
use Rattle.whole.specs.Plain.{ℕ, suc, Bool, true, List, length, get_or, set, take}
use Rattle.whole.specs.Plain.{Words, numbers}
use Rattle.paper.specs.Rows.{is_source, at}
use Rattle.paper.specs.Network.{is_network}
use Rattle.paper.specs.Areas.{Net, area_of, area_count, free_of}
use Rattle.laws_facts.specs.Nets.{net_in}
use Rattle.plan_record.specs.Mapped.{Mapped}
use Rattle.plan_ends.specs.Own.{owner_of, row_of_end, side_of_end, Framed, own_nodes, source_lines}
use Rattle.plan_rows.specs.declared.Row.{Row}
use Rattle.plan_rows.specs.declared.Totals.{Totals}
use Rattle.plan_rows.specs.Planned.{Planned, totals_of}
use Rattle.step_legs.specs.declared.Wire.{Wire}
use Rattle.step_legs.specs.declared.Source.{Source}
use Rattle.plan_own.specs.declared.Own.{Own}
use Rattle.plan_lay.specs.Grown.{part}
use Rattle.plan_own.specs.Counting.{count_from}
use Rattle.plan_lay.specs.Flags.{Flagged}

abbrev pub nothing : Own
nothing = record { legs = 0; legs_end = 0; base = 0; free_end = 0; nodes_end = 0; sources = 0; sources_end = 0; until = 0 }

-- area a's
abbrev pub own_in : List Own → ℕ → Own
own_in owns a = get_or owns a nothing

-- the same, prepared until a step
abbrev pub prepared : Own → ℕ → Own
prepared o u = record o { until = u }

-- one area prepared
abbrev pub until_put : List Own → ℕ → ℕ → List Own
until_put owns a u = set owns a (prepared (own_in owns a) u)

-- ---- what is given

pub record Given (net : Words) (plan : List Row) (area : List ℕ) (fixed : List Bool) (totals : Totals) : Type 0 where
  pub network : is_network net ≡ true
  pub planned : Planned (net_in net) plan
  pub mapped : Mapped (net_in net) area
  pub flagged : Flagged (net_in net) fixed
  pub counted : totals ≡ totals_of (net_in net)

pub record Tables (legs : List Wire) (nodes : List ℕ) (sources : List Source) : Type 0 where
  pub legs_long : length legs ≡ 160
  pub nodes_long : length nodes ≡ 32
  pub sources_long : length sources ≡ 16

-- behind o there is room for all that belongs to areas from a on
pub record Room (N : Net) (a : ℕ) (o : Own) : Type 0 where
  pub legs : o.legs_end + count_from (λ e. true) (λ e. owner_of N (row_of_end N e) (side_of_end e)) a (numbers 0 (2 * length N.rows)) ≤ 160
  pub nodes : o.nodes_end + count_from (λ n. true) (area_of N) a (numbers 1 N.nodes) ≤ 32
  pub sources : o.sources_end + count_from is_source (λ r. area_of N (at r)) a N.rows ≤ 16

-- ---- what stands

-- area a's own, where o says
pub record Ours (N : Net) (a : ℕ) (o : Own) (legTable : List Wire) (nodeTable : List ℕ) (sourceTable : List Source) : Type 0 where
  pub legs_in : (o.legs ≤ o.legs_end) × (o.legs_end ≤ 160)
  pub nodes_in : (o.base ≤ o.free_end) × (o.free_end ≤ o.nodes_end) × (o.nodes_end ≤ 32)
  pub sources_in : (o.sources ≤ o.sources_end) × (o.sources_end ≤ 16)
  pub framed : Framed N a (part o.legs o.legs_end legTable)
  pub free : part o.base o.free_end nodeTable ≡ free_of N a
  pub nodes : part o.base o.nodes_end nodeTable ≡ own_nodes N a
  pub sources : part o.sources o.sources_end sourceTable ≡ source_lines N a

-- o begins where `at` ends, nothing is prepared for it, and what stood before it stands
pub record Behind (at o : Own) (legs : List Wire) (nodes : List ℕ) (sources : List Source) (legs' : List Wire) (nodes' : List ℕ) (sources' : List Source) : Type 0 where
  pub legs_at : o.legs ≡ at.legs_end
  pub nodes_at : o.base ≡ at.nodes_end
  pub sources_at : o.sources ≡ at.sources_end
  pub until : o.until ≡ 0
  pub tables : Tables legs' nodes' sources'
  pub legs_kept : take at.legs_end legs' ≡ take at.legs_end legs
  pub nodes_kept : take at.nodes_end nodes' ≡ take at.nodes_end nodes
  pub sources_kept : take at.sources_end sources' ≡ take at.sources_end sources

-- of two areas, the first ends before the second begins
pub record Apart (o u : Own) : Type 0 where
  pub legs : o.legs_end ≤ u.legs
  pub nodes : o.nodes_end ≤ u.base
  pub sources : o.sources_end ≤ u.sources

-- the areas below n
pub record LaidBelow (N : Net) (n : ℕ) (owns : List Own) (legs : List Wire) (nodes : List ℕ) (sources : List Source) : Type 0 where
  pub long : length owns ≡ 33
  pub tables : Tables legs nodes sources
  pub ours : (a : ℕ) → 1 ≤ a → a < n → Ours N a (own_in owns a) legs nodes sources
  pub apart : (a b : ℕ) → 1 ≤ a → a < b → b < n → Apart (own_in owns a) (own_in owns b)

abbrev pub Laid : Net → List Own → List Wire → List ℕ → List Source → Type 0
Laid N owns legs nodes sources = LaidBelow N (suc (area_count N)) owns legs nodes sources

pub record UnpreparedBelow (n : ℕ) (owns : List Own) : Type 0 where
  pub until : (a : ℕ) → 1 ≤ a → a < n → (own_in owns a).until ≡ 0

abbrev pub Unprepared : Net → List Own → Type 0
Unprepared N owns = UnpreparedBelow (suc (area_count N)) owns
