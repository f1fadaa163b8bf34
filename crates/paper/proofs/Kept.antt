-- "Every refusal leaves all lent memory unchanged.", of all calls that the paper numbers: T-kept. Assumes nothing.
use Rattle.std.specs.Prelude.{◌≡◌, ◌≢◌, ◌&&◌, ◌||◌}
use Rattle.whole.specs.Plain.{ℕ, zero, suc, refl, Bool, true, false, cond, not, true≢false, List, eqb}
use Rattle.whole.specs.Plain.{leb, ltb, length, Words}
use Rattle.paper.specs.Limits as Limits
use Rattle.paper.specs.Answers.{reading_number, resetting_number, writing_number, accepted}
use Rattle.paper.specs.Network.{is_network}
use Rattle.paper.specs.Areas.{Net, area_count}
use Rattle.paper.specs.Rows.{steps}
use Rattle.paper.specs.Records.{count_of, well_formed}
use Rattle.paper.specs.Legs.{Branch, heard, legs_of}
use Rattle.paper.specs.Solve.{Step, stop, move, solve}
use Rattle.paper.specs.Reading.{Read-out, read_end, Lines, good, bad, lines_of, read_of}
use Rattle.paper.specs.Advance.{Memory, Advanced, finish, take_step, ready, or_wait, first_late, on_next, on_net, fits, advance_of}
use Rattle.paper.specs.Resetting.{Reset-out, reset_of}
use Rattle.paper.specs.Writing.{Written-out, write_of}

-- both branches of a test
pub either : {A : Type 0} (P : A → Type 0) (b : Bool) (x y : A) → P x → P y → P (cond b x y)
either P true x y p q = p
either P false x y p q = q

-- ---- reading

record Kept (net : Words) (r : Read-out) : Type 0 where
  keeps : reading_number r.answer ≢ 0 → r.network ≡ net

read_end_lem : (net : Words) (l : Lines) → Kept net (read_end net l)
read_end_lem net (good t) = record { keeps = λ h. absurd (h refl) }
read_end_lem net (bad l f) = record { keeps = λ h. refl }

read_kept : (text : List ℕ) (net : Words) → Kept net (read_of text net)
unfolding read_of
read_kept text net =
    either (Kept net) (not (eqb (length net) Limits.network_words)) _ _ (record { keeps = λ h. refl })
    (either (Kept net) (ltb Limits.text_end (length text)) _ _ (record { keeps = λ h. refl }) (read_end_lem net (lines_of text)))

pub read_refused : (text : List ℕ) (net : Words) → reading_number (read_of text net).answer ≢ 0 → (read_of text net).network ≡ net
read_refused text net = (read_kept text net).keeps

-- ---- resetting

record Unset (m : Memory) (r : Reset-out) : Type 0 where
  unset : resetting_number r.answer ≢ 0 → r.after ≡ m

reset_kept : (net : Words) (m : Memory) → Unset m (reset_of net m)
unfolding reset_of
reset_kept net m =
    either (Unset m) (not (fits net m)) _ _ (record { unset = λ h. refl })
    (either (Unset m) (not (is_network net)) _ _ (record { unset = λ h. refl }) (record { unset = λ h. absurd (h refl) }))

pub reset_refused : (net : Words) (m : Memory) → resetting_number (reset_of net m).answer ≢ 0 → (reset_of net m).after ≡ m
reset_refused net m = (reset_kept net m).unset

-- ---- advancing

record Still (m : Memory) (r : Advanced) : Type 0 where
  still : accepted r.answer ≡ false → r.after ≡ m

still_finish : (N : Net) (a k : ℕ) (m : Memory) (s : Step) → Still m (finish N a k m s)
still_finish N a k m (stop x) = record { still = λ h. refl }
still_finish N a k m (move bs v) = record { still = λ h. absurd (true≢false h) }

still_wait : (N : Net) (m : Memory) (next : Advanced) (r : ℕ) → Still m next → Still m (or_wait N m next r)
still_wait N m next zero p = p
still_wait N m next (suc r) p = record { still = λ h. refl }

still_step : (N : Net) (a k : ℕ) (m : Memory) (bs : List Branch) → Still m (take_step N a k m bs)
unfolding take_step
still_step N a k m bs = still_finish N a k m (solve N a k bs)

still_ready : (N : Net) (a k : ℕ) (m : Memory) → Still m (ready N a k m)
unfolding ready
still_ready N a k m = still_step N a k m (legs_of N a k m.records (heard N a k m.froms m.tos))

still_next : (N : Net) (a k : ℕ) (m : Memory) → Still m (on_next N a k m)
unfolding on_next
still_next N a k m = still_wait N m (ready N a k m) (first_late N a k m.records 0 N.rows) (still_ready N a k m)

still_net : (N : Net) (a : ℕ) (m : Memory) → Still m (on_net N a m)
unfolding on_net
still_net N a m =
    either (Still m) (not (well_formed N m.records m.froms m.tos)) _ _ (record { still = λ h. refl })
    (either (Still m) (not (leb 1 a && leb a (area_count N))) _ _ (record { still = λ h. refl })
    (either (Still m) (leb (steps N.head) (count_of m.records a)) _ _ (record { still = λ h. refl }) (still_next N a _ m)))

still_all : (net : Words) (a : ℕ) (m : Memory) → Still m (advance_of net a m)
unfolding advance_of
still_all net a m =
    either (Still m) (not (fits net m)) _ _ (record { still = λ h. refl })
    (either (Still m) (not (is_network net)) _ _ (record { still = λ h. refl }) (still_net _ a m))

pub advance_refused : (net : Words) (a : ℕ) (m : Memory) → accepted (advance_of net a m).answer ≡ false → (advance_of net a m).after ≡ m
advance_refused net a m = (still_all net a m).still

-- ---- writing: "nothing is written in either case"

record Unwritten (out : List ℕ) (r : Written-out) : Type 0 where
  unwritten : writing_number r.answer ≢ 0 → r.out ≡ out

write_kept : (net : Words) (out : List ℕ) → Unwritten out (write_of net out)
unfolding write_of
write_kept net out =
    either (Unwritten out) (not (eqb (length net) Limits.network_words) || ltb (length out) Limits.study_bytes) _ _ (record { unwritten = λ h. refl })
    (either (Unwritten out) (not (is_network net)) _ _ (record { unwritten = λ h. refl }) (record { unwritten = λ h. absurd (h refl) }))

pub write_refused : (net : Words) (out : List ℕ) → writing_number (write_of net out).answer ≢ 0 → (write_of net out).out ≡ out
write_refused net out = (write_kept net out).unwritten
