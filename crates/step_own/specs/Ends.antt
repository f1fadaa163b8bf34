-- One end of a row at a step, as a leg: what the network settles, the conductance at the switches' positions, and the history. Assumes nothing.
use Rattle.std.specs.Prelude.{◌/◌, ◌≤◌, ◌<◌, ◌≡◌}
use Rattle.whole.specs.Plain.{ℕ, true, cond, eqb, ℤ, pos, neg_ℤ, nat_abs, length, eqb-true, Words}
use Rattle.whole.specs.Plain.{z, word}
use Rattle.paper.specs.Limits as Limits
use Rattle.paper.specs.Rows.{kind, is_line}
use Rattle.paper.specs.Conductance.{conductance}
use Rattle.paper.specs.Areas.{Net, step}
use Rattle.paper.specs.Records as Records
use Rattle.paper.specs.Legs.{Leg, leg, idle, is_open, conducts, sent_to}
use Rattle.laws_facts.specs.Nets.{row_at}
use Rattle.plan_ends.specs.Own.{row_of_end, side_of_end, own_end, near_of, far_of}
use Rattle.step_legs.specs.declared.Wire.{Wire}

-- "a history has the sign its current has in leaving that node"
unfoldable pub facing : ℕ → ℤ → ℤ
facing side h = cond (eqb side 1) h (neg_ℤ h)

-- the store that a line's end hears: the from end the to-end store, the to end the from-end store
unfoldable pub far_store : ℕ → Words → Words → Words
far_store side froms tos = cond (eqb side 1) tos froms

-- by the records' latches
abbrev pub g_at : Net → ℕ → Words → ℕ → ℕ
g_at N k recs e = conducts N recs k (e / 2)

unfoldable pub h_at : Net → ℕ → Words → Words → Words → ℕ → ℤ
h_at N k recs froms tos e =
    cond (is_line (row_of_end N e)) (sent_to N k (e / 2) (row_of_end N e) (far_store (side_of_end e) froms tos))
    (facing (side_of_end e) (word recs (Records.history_at (e / 2))))

-- the end's leg, as the paper has it and as the code has it before the step finds what it carries
abbrev pub leg_of_end : Net → ℕ → Words → Words → Words → ℕ → Leg
leg_of_end N k recs froms tos e = leg (near_of N e) (far_of N e) (g_at N k recs e) (h_at N k recs froms tos e)

abbrev pub wire_of : Net → ℕ → Words → Words → Words → ℕ → Wire
wire_of N k recs froms tos e =
    record { near = near_of N e; far = far_of N e; row = e / 2; end = side_of_end e; kind = kind (row_of_end N e); g = pos (g_at N k recs e); h = h_at N k recs froms tos e; current = z; passed = z }

-- its leg without a history
abbrev pub bare_of_end : Net → ℕ → Words → ℕ → Leg
bare_of_end N k recs e = leg (near_of N e) (far_of N e) (g_at N k recs e) z

-- an end that is not the area's is idle
unfoldable pub end_leg : Net → ℕ → ℕ → Words → Words → Words → ℕ → Leg
end_leg N a k recs froms tos e = cond (own_end N a e) (leg_of_end N k recs froms tos e) idle

-- a line is no switch
pub line_conducts : (N : Net) (recs : Words) (k i : ℕ) → is_line (row_at N i) ≡ true → conducts N recs k i ≡ conductance (step N) (row_at N i)
unfolding conducts is_open
line_conducts N recs k i e = rw (eqb-true (kind (row_at N i)) 4 e)

-- ---- what is known where legs are laid: the lent memory has its lengths, and histories and sent values their range
pub record Kept (records froms tos : Words) : Type 0 where
  pub records_long : length records ≡ Limits.record_words
  pub froms_long : length froms ≡ Limits.store_words
  pub tos_long : length tos ≡ Limits.store_words
  pub held : (i : ℕ) → i < Limits.row_end → nat_abs (word records (Records.history_at i)) ≤ Limits.history_end
  pub from_sent : (j : ℕ) → nat_abs (word froms j) ≤ Limits.history_end
  pub to_sent : (j : ℕ) → nat_abs (word tos j) ≤ Limits.history_end
