-- What each part of the judge of records and line stores decides, by the plan. Assumes nothing.
use Rattle.std.specs.Prelude.{◌+◌, ◌-◌, ◌≤◌, ◌≡◌, ◌&&◌, ◌||◌, ◌∷◌}
use Rattle.whole.specs.Plain.{ℕ, Bool, cond, List, [], pos, non_neg, length, get_or, take, drop}
use Rattle.whole.specs.Plain.{Words, word, up_to, every, numbers}
use Rattle.paper.specs.Limits as Limits
use Rattle.paper.specs.Rows as Rows
use Rattle.paper.specs.Rows.{is_branch, is_line, is_breaker, is_l, is_c}
use Rattle.paper.specs.Areas.{Net}
use Rattle.paper.specs.Records.{current_at, to_current_at, history_at, latch_at, count_of, counts, voltages, currents, to_currents, histories, peaks, peak_steps, latches, sections_end, peak_formed}
use Rattle.plan_record.specs.Mapped.{Mapped}
use Rattle.plan_rows.specs.declared.Row.{Row}
use Rattle.plan_rows.specs.declared.Totals.{Totals}
use Rattle.plan_rows.specs.Planned.{Plan, row_in}
use Rattle.plan_net.specs.Of.{Of}
use Rattle.call_counts.specs.Counts.{CountIn, near_by, latched_by}

-- what is lent has its lengths
pub record Long (recs froms tos : Words) : Type 0 where
  pub records_long : length recs ≡ Limits.record_words
  pub froms_long : length froms ≡ Limits.store_words
  pub tos_long : length tos ≡ Limits.store_words

-- the network that a plan is of, with its areas by node; and that there is one
pub record MappedOf (N : Net) (plan : Plan) (areas : List ℕ) (totals : Totals) : Type 0 where
  pub of : Of N plan totals
  pub mapped : Mapped N areas

pub record MappedSome (plan : Plan) (areas : List ℕ) (totals : Totals) : Type 0 where
  pub net : Net
  pub of : MappedOf net plan areas totals

-- the words from..end are within an end
unfoldable pub part_formed : Words → ℕ → ℕ → ℕ → Bool
part_formed w from end most = every (up_to most) (take (end - from) (drop from w))

-- of the words from..end the first are used, and the others zero
unfoldable pub section_formed : Words → ℕ → ℕ → ℕ → ℕ → Bool
section_formed w from used end most = part_formed w from (from + used) most && part_formed w (from + used) end 0

-- "counts are 0 to steps"
unfoldable pub counts_formed : Words → ℕ → ℕ → Bool
counts_formed recs areas steps = every non_neg (take voltages.start recs) && section_formed recs counts.start areas voltages.start steps

-- a row that has only its kind
abbrev pub of_kind : ℕ → Rows.Row
of_kind k = pos k ∷ []

-- a row's words, and all that is judged of it
unfoldable pub words_formed : ℕ → ℕ → Words → ℕ → Bool
words_formed steps k recs i =
    up_to (cond (is_branch (of_kind k)) Limits.current_end 0) (word recs (current_at i))
    && (up_to (cond (is_line (of_kind k)) Limits.current_end 0) (word recs (to_current_at i))
    && (up_to (cond (is_l (of_kind k) || is_c (of_kind k)) Limits.history_end 0) (word recs (history_at i))
    && up_to (cond (is_breaker (of_kind k)) steps 0) (word recs (latch_at i))))

unfoldable pub row_formed : ℕ → Words → Row → ℕ → Bool
row_formed steps recs r i = words_formed steps r.kind recs i && (near_by recs r && latched_by recs r i)

unfoldable pub planned_formed : ℕ → Plan → Words → ℕ → Bool
planned_formed steps plan recs i = row_formed steps recs (row_in plan i) i

-- the words past the last row's, and past the last section
unfoldable pub tails_formed : Words → ℕ → Bool
tails_formed recs rows =
    part_formed recs (current_at rows) to_currents.start 0
    && (part_formed recs (to_current_at rows) histories.start 0
    && (part_formed recs (history_at rows) peaks.start 0
    && (part_formed recs (latch_at rows) sections_end 0 && part_formed recs sections_end Limits.record_words 0)))

-- the words of the nodes
unfoldable pub nodes_formed : Words → ℕ → ℕ → Bool
nodes_formed recs nodes steps =
    section_formed recs voltages.start nodes currents.start Limits.voltage_end
    && (section_formed recs peaks.start nodes peak_steps.start Limits.voltage_end && section_formed recs peak_steps.start nodes latches.start steps)

-- a node's peak against its voltage, and the peak's step against the count of its area
unfoldable pub peaked_by : List ℕ → Words → ℕ → Bool
peaked_by areas recs n =
    peak_formed (word recs (voltages.start + n - 1)) (word recs (peaks.start + n - 1)) (word recs (peak_steps.start + n - 1)) (count_of recs (get_or areas n 0))

-- each node's area is counted
pub record NodesCounted (areas : List ℕ) (nodes : ℕ) (recs : Words) : Type 0 where
  pub few : nodes ≤ Limits.node_end
  pub node : (n : ℕ) → 1 ≤ n → n ≤ nodes → CountIn recs (get_or areas n 0)

-- all of the records
unfoldable pub formed_by : Plan → List ℕ → Totals → Words → Bool
formed_by plan areas t recs =
    counts_formed recs t.areas t.steps
    && (nodes_formed recs t.nodes t.steps
    && (every (planned_formed t.steps plan recs) (numbers 0 t.rows)
    && (tails_formed recs t.rows && every (peaked_by areas recs) (numbers 1 t.nodes))))
