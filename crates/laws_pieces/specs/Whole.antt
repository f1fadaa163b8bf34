-- T-pieces, of a whole run: from a reset, the pieces of at most as many calls as the study has steps are the listing. Assumes nothing.
use Rattle.std.specs.Prelude.{Ok, Err}
use Rattle.std.specs.Prelude.{◌+◌, ◌-◌, ◌≤◌, ◌<◌, ◌≡◌, ◌∷◌, ◌++◌}
use Rattle.whole.specs.Plain.{ℕ, refl, sym, ap, ◌∙◌, Bool, true, cond, not, List, []}
use Rattle.whole.specs.Plain.{append-nil, leb, eqb, pos, length, replicate, eq-eqb, ne_eqb, le-ltb, leb-true, le_trans}
use Rattle.whole.specs.Plain.{ℕ_discrete, arith, Words, z, nat, every, numbers}
use Rattle.paper.specs.Replies.{Reading}
use Rattle.paper.specs.declared.Fault.TheVariants.{Form, Node, Value, Travel, Double, Full}
use Rattle.paper.specs.declared.Unread.TheVariants.{Line, Size}
use Rattle.paper.specs.declared.Unlisted.TheVariants.{State}
use Rattle.paper.specs.declared.Unread.TheVariants as R
use Rattle.whole.specs.Folds.{and_left, and_right, every_if, get_d_numbers, length_numbers}
use Rattle.paper.specs.Limits as Limits
use Rattle.paper.specs.Rows.{bytes, steps}
use Rattle.paper.specs.Network.{is_network}
use Rattle.paper.specs.Areas.{Net, area_count}
use Rattle.paper.specs.Records.{count_at, count_of}
use Rattle.paper.specs.Answers.{reading_number, reading_line}
use Rattle.paper.specs.Reading.{read_out, read_of}
use Rattle.paper.specs.Advance.{Memory}
use Rattle.paper.specs.Resetting.{fresh}
use Rattle.paper.specs.Listing.{line_of, run_of, listing, listing_from}
use Rattle.paper.specs.Pieces.{listed, steps_taken, level, piece_of, on_level, list_of}
use Rattle.laws_facts.specs.Nets.{net_in}
use Rattle.laws_facts.proofs.Nets.{net_sound}
use Rattle.laws_stays.specs.Stays.{fresh_well, zero_word}
use Rattle.laws_demands.specs.States.{long_fits, fresh_long}
use Rattle.laws_spelling.proofs.Networks.{network_exactly}
use Rattle.laws_runs.specs.Moves.{Inv}
use Rattle.laws_pieces.specs.Level.{Level}
use Rattle.laws_pieces.specs.Runs.{run_from}
use Rattle.laws_pieces.specs.Calls.{onward, more, whole, none_follow, ends}
use Rattle.laws_pieces.specs.Empty.{run_none}

-- the pieces of repeated calls, each with the room that it is lent, until one is the last
unfoldable pub pieced : Words → List ℕ → Memory → List ℕ
pieced net [] m = []
pieced net (room ∷ rooms) m =
    let r = list_of net m room in
    let rest = pieced net rooms r.after in
    r.written ++ onward r.answer rest

-- each buffer has room for a full step
abbrev pub Roomy : List ℕ → Type 0
Roomy rooms = every (leb Limits.step_bytes) rooms ≡ true

module _ (net : Words) (network : is_network net ≡ true) where
  abbrev N : Net
  N = net_in net

  -- the steps taken, where they are k; a study without areas has taken all
  abbrev pub Stands : ℕ → Memory → Type 0
  Stands k m = steps_taken N m.records ≡ k

  pub some_stand : (k : ℕ) (m : Memory) → 1 ≤ area_count N → Level net network k m → Stands k m
  unfolding steps_taken
  some_stand k m h v = rw (ne_eqb (area_count N) 0 (λ e. omega arith)) (v.counts 1 (omega arith) h)

  none_stand : (m : Memory) → area_count N ≡ 0 → Stands (steps N.head) m
  unfolding steps_taken
  none_stand m e = rw (eq-eqb (area_count N) 0 e)

  levels : (k : ℕ) (m : Memory) → Level net network k m → Stands k m → level N m.records ≡ true
  unfolding level
  levels k m v e =
      every_if (λ a. eqb (count_of m.records a) (steps_taken N m.records)) (numbers 1 (area_count N)) 0
      (λ i h.
      let n : i < area_count N = rw (length_numbers 1 (area_count N)) at h in
      rw (get_d_numbers 1 (area_count N) i 0 n, e) (eq-eqb _ k (v.counts (1 + i) (omega arith) (omega arith))))

  -- what is left to judge of a well-formed state: whether its areas are in step
  pub list_by : (t : Bool) (m : Memory) (room : ℕ) → Inv net network m → Limits.step_bytes ≤ room → level N m.records ≡ t → list_of net m room ≡ cond (not t) (listed (Err State) [] m) (piece_of net N m room)
  unfolding list_of on_level
  list_by t m room v h e = rw (long_fits net m network v.long, le-ltb room Limits.step_bytes h, network, v.good, e)

  pub list_is : (k : ℕ) (m : Memory) (room : ℕ) → Level net network k m → Stands k m → Limits.step_bytes ≤ room → list_of net m room ≡ piece_of net N m room
  list_is k m room v e h = list_by true m room v.inv h (levels k m v e)

  -- where a step is left there are areas
  some_areas : (k : ℕ) (m : Memory) → Stands k m → k < steps N.head → 1 ≤ area_count N
  unfolding steps_taken
  some_areas k m e h =
      elim (ℕ_discrete (area_count N) 0) [ yes q ↦ let x : steps N.head ≡ k = rw (eq-eqb (area_count N) 0 q) at e in absurd (omega arith) | no q ↦ omega arith ]

  pub calls : (rooms : List ℕ) (k : ℕ) (m : Memory) → Roomy rooms → Level net network k m → Stands k m → k ≤ steps N.head
      → 1 ≤ length rooms → steps N.head - k ≤ length rooms → pieced net rooms m ≡ run_from net N k m
  unfolding pieced every piece_of
  calls [] k m r v e h one few = absurd (omega arith)
  calls (room ∷ rooms) k m r v e h one few =
      let fit : Limits.step_bytes ≤ room = leb-true Limits.step_bytes room (and_left (leb Limits.step_bytes room) (every (leb Limits.step_bytes) rooms) r) in
      let r' = and_right (leb Limits.step_bytes room) (every (leb Limits.step_bytes) rooms) r in
      rw (list_is k m room v e fit)
      (rw e (elim (ends net network room (steps N.head - k) k m [] (omega arith) v) [
        | more k' a v' ge lt on w ↦ let up : k < k' = on (omega (arith, fit)) in
            rw (a, calls rooms k' _ r' v' (some_stand k' _ (some_areas k m e (omega arith)) v') (omega arith) (omega arith) (omega arith)) w
        | whole o w ↦ rw (none_follow net network o (pieced net rooms _), append-nil) w
      ]))

  fresh_level : Level net network 0 fresh
  unfolding fresh
  fresh_level = record { inv = record { long = fresh_long; good = fresh_well N }; counts = λ b l h. ap nat (zero_word Limits.record_words (count_at b)) }

  -- at most as many calls as there are steps
  pub pieces_run : (rooms : List ℕ) → Roomy rooms → steps N.head ≤ length rooms → pieced net rooms fresh ≡ run_of net N
  unfolding run_of run_from
  pieces_run rooms r h =
      let one : 1 ≤ steps N.head = (net_sound net network).study.steps_in.least in
      elim (ℕ_discrete (area_count N) 0) [
        | yes e ↦ calls rooms (steps N.head) fresh r (record { inv = fresh_level.inv; counts = λ b l q. absurd (omega arith) }) (none_stand fresh e) (omega arith) (omega arith) (omega arith)
            ∙ sym (run_none N (net_sound net network) e net fresh)
        | no n ↦ calls rooms 0 fresh r fresh_level (some_stand 0 fresh (omega arith) fresh_level) (omega arith) (omega arith) (omega arith)
      ]

-- ---- reading, resetting, and listing until it ends

read_only : (x : Reading) → reading_number x ≡ 0 → x ≡ Ok tt
read_only (Ok tt) e = refl
read_only (Err (Line l Form)) e = absurd (omega arith)
read_only (Err (Line l Node)) e = absurd (omega arith)
read_only (Err (Line l Value)) e = absurd (omega arith)
read_only (Err (Line l Travel)) e = absurd (omega arith)
read_only (Err (Line l Double)) e = absurd (omega arith)
read_only (Err (Line l Full)) e = absurd (omega arith)
read_only (Err Size) e = absurd (omega arith)
read_only (Err R.Store) e = absurd (omega arith)

-- what a program lists of a text: a `bad` line, or the pieces from a reset
abbrev pub program : List ℕ → List ℕ → List ℕ
program text rooms =
    let r = read_of text (replicate Limits.network_words z) in
    cond (eqb (reading_number r.answer) 0) (pieced r.network rooms fresh) (line_of (bytes "bad") (pos (reading_line r.answer) ∷ pos (reading_number r.answer) ∷ []))

pub program_lists : (text rooms : List ℕ) → Roomy rooms → Limits.steps_end ≤ length rooms → program text rooms ≡ listing text
unfolding listing listing_from
program_lists text rooms r h =
    let out = read_of text (replicate Limits.network_words z) in
    elim (ℕ_discrete (reading_number out.answer) 0) [
      | yes e ↦
          let reads = ap (λ (x : Reading). read_out x out.network) (read_only out.answer e) in
          let n : is_network out.network ≡ true = (network_exactly out.network).1 (record { text = text; lent = replicate Limits.network_words z; reads = reads }) in
          rw (eq-eqb (reading_number out.answer) 0 e) (pieces_run out.network n rooms r (le_trans (net_sound out.network n).study.steps_in.most h))
      | no e ↦ rw (ne_eqb (reading_number out.answer) 0 e)
    ]
