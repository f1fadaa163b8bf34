-- What the legs of an area's step write is what the paper has an accepted step write. Assumes nothing.
use Rattle.std.specs.Prelude.{◌+◌, ◌-◌, ◌*◌, ◌/◌, ◌%◌, ◌≤◌, ◌<◌, ◌≡◌}
use Rattle.whole.specs.Plain.{ℕ, suc, sym, ap, ◌∙◌, true, cond, List, map, ltb, pos, length, get_or-set_same}
use Rattle.whole.specs.Plain.{ext_get_or, eq-eqb, ltb-true, ℕ_discrete, arith, Words, z}
use Rattle.whole.specs.Folds.{fold_map}
use Rattle.whole.specs.Members.{Among, All, all_among}
use Rattle.paper.specs.Classes.{line_branch, breaker_branch, breaker_line}
use Rattle.paper.specs.Limits as Limits
use Rattle.paper.specs.Rows.{is_branch, is_line, from, to}
use Rattle.paper.specs.Areas.{Net, area_of, area_count, row_area}
use Rattle.paper.specs.Records as Records
use Rattle.paper.specs.Records.{current_at, to_current_at, history_at, Section, counts, voltages, currents, to_currents, histories, peaks, peak_steps, latches, sections}
use Rattle.paper.proofs.Apart.{owned}
use Rattle.paper.specs.Legs.{Branch, legs_of, heard}
use Rattle.paper.specs.Advance.{memory, new_records, written}
use Rattle.laws_facts.specs.Nets.{NetSound, row_at}
use Rattle.laws_local.specs.Sound.{sound, row_there}
use Rattle.laws_local.specs.Own.{line_no, keeper}
use Rattle.laws_local.specs.Written.{records_length, records_keep, peak_own, peak_step_own, latch_own}
use Rattle.plan_ends.specs.Own.{owner_of, own_end, own_ends, own_nodes}
use Rattle.plan_rows.specs.Planned.{Plan, Planned}
use Rattle.step_legs.specs.declared.Wire.{Wire}
use Rattle.step_own.specs.Ends.{wire_of}
use Rattle.step_own.specs.Laid.{Laid, wires_are}
use Rattle.step_flow.specs.Flown.{flown}
use Rattle.step_records.specs.Records.{leg_put, area_put, legs_put, records_put}
use Rattle.step_send.specs.Stores.{is_from_end, is_to_end, sent_by}
use Rattle.step_commit.specs.Asked.{node_of_own, own_of_node}
use Rattle.step_commit.specs.Ends.{found, by_wires}
use Rattle.step_commit.specs.Sent.{froms_are, tos_are}
use Rattle.step_commit.specs.Put.{Writing, Right, current_reached, history_reached, to_reached, ends, ends_long, ends_keep, ends_reach}
use Rattle.step_commit.specs.Nodes.{nodes, node_low, nodes_keep, volt_at_lem, stood_at, count_is, start_keeps, nodes_long}
use Rattle.step_commit.specs.Latches.{mine, latch_at_lem}

module _ {N : Net} {a k : ℕ} {recs froms tos v : Words} {plan : Plan} (W : Writing N a k recs froms tos v plan) where
  open W use {one, most, sound as snd}

  -- the count, the nodes and the ends
  abbrev all : Words
  all = ends W (nodes W)

  -- each section's own words are reached
  abbrev Reached : Section → Type 0
  Reached t = (i : ℕ) → i < t.words → t.used N i ≡ true → t.area N i ≡ a → Right W (t.start + i) all

  own_from : (i : ℕ) → is_branch (row_at N i) ≡ true → cond (is_line (row_at N i)) (area_of N (from (row_at N i))) (row_area N (row_at N i)) ≡ a → own_end N a (2 * i) ≡ true
  unfolding own_end owner_of
  own_from i b o =
      let e : 2 * i / 2 ≡ i = omega arith in
      let f : 1 + 2 * i % 2 ≡ 1 = omega arith in
      rw (e, f, b) (eq-eqb _ a o)

  own_to : (i : ℕ) → is_line (row_at N i) ≡ true → area_of N (to (row_at N i)) ≡ a → own_end N a (2 * i + 1) ≡ true
  unfolding own_end owner_of
  own_to i b o =
      let e : (2 * i + 1) / 2 ≡ i = omega arith in
      let f : 1 + (2 * i + 1) % 2 ≡ 2 = omega arith in
      rw (e, f, b) (eq-eqb _ a o)

  reached : {t : Section} → Among t sections → Reached t
  unfolding sections All
  reached = all_among Reached sections (count_reached, (volt_reached, (from_reached, (to_reached_all, (held_reached, (peak_reached, (step_reached, (latch_reached, tt))))))))
    where
      count_reached : Reached counts
      count_reached i h u o =
          let e : i ≡ a - 1 = omega arith in
          rw e (ends_keep W (0 + (a - 1)) (λ n _ _ _ q. omega (arith, most, snd.areas)) (nodes W) (nodes_keep W (0 + (a - 1)) (λ n m. (λ q. omega (arith, node_low W n m, most, snd.areas), λ q. omega (arith, node_low W n m, most, snd.areas))) (get_or-set_same recs (0 + (a - 1)) (pos k) z (omega (arith, snd.areas)) ∙ sym (count_is W))))

      own_node : (i : ℕ) → ltb i N.nodes ≡ true → area_of N (suc i) ≡ a → Among (suc i) (own_nodes N a)
      own_node i u o = own_of_node N a (suc i) (record { area = o; low = omega arith; high = omega (arith, ltb-true i N.nodes u) })

      volt_reached : Reached voltages
      volt_reached i h u o =
          let e : 32 + suc i - 1 ≡ 32 + i = omega arith in
          ends_keep W (32 + i) (λ n _ _ _ q. omega arith) (nodes W) (rw e at (volt_at_lem W (suc i) (own_node i u o)))

      peak_reached : Reached peaks
      peak_reached i h u o =
          let e : 304 + suc i - 1 ≡ 304 + i = omega arith in
          ends_keep W (304 + i) (λ n _ _ _ q. omega arith) (nodes W) (rw e at (stood_at W (suc i) (own_node i u o)).0)

      step_reached : Reached peak_steps
      step_reached i h u o =
          let e : 336 + suc i - 1 ≡ 336 + i = omega arith in
          ends_keep W (336 + i) (λ n _ _ _ q. omega arith) (nodes W) (rw e at (stood_at W (suc i) (own_node i u o)).1)

      from_reached : Reached currents
      from_reached i h u o = let t = row_there N i u in ends_reach W (2 * i) (current_at i) (omega arith) (λ n _ _ _ q. omega arith) (own_from i u o) (λ x n. current_reached W i t (own_from i u o) x n) (nodes W) (nodes_long W)

      to_reached_all : Reached to_currents
      to_reached_all i h u o = let t = row_there N i (line_branch (row_at N i) u) in ends_reach W (2 * i + 1) (to_current_at i) (omega arith) (λ n _ _ _ q. omega arith) (own_to i u o) (λ x n. to_reached W i t (own_to i u o) x u n) (nodes W) (nodes_long W)

      held_reached : Reached histories
      held_reached i h u o =
          let b = keeper (row_at N i) u in
          let t = row_there N i b in
          let f = own_from i b (rw (line_no (row_at N i) u) o) in
          ends_reach W (2 * i) (history_at i) (omega arith) (λ n _ _ _ q. omega arith) f (λ x n. history_reached W i t f x u n) (nodes W) (nodes_long W)

      latch_reached : Reached latches
      latch_reached i h u o =
          let c = breaker_branch (row_at N i) u in
          latch_at_lem W i (row_there N i c) u (own_from i c (rw (breaker_line (row_at N i) u) o))

  right : (j : ℕ) → Right W j all
  right j = go (ℕ_discrete (Records.owner_of N j) a)
    where
      go : Dec (Records.owner_of N j ≡ a) → Right W j all
      go (no n) = ends_keep W j (λ i h b o e. n (ap (Records.owner_of N) (sym e) ∙ latch_own N a snd i h b (mine W i h b o))) (nodes W) (nodes_keep W j (λ i m. let h = node_of_own N a i m in (λ e. n (ap (Records.owner_of N) (sym e) ∙ peak_own N a snd i h), λ e. n (ap (Records.owner_of N) (sym e) ∙ peak_step_own N a snd i h))) (start_keeps W j (sym (records_keep N a k _ v recs j n))))
      go (yes o) = let w = owned N a j one o in let p = w.at in rw p.is (reached p.among p.place p.inside w.used w.area)

-- ---- from the lines of the legs
module _ {N : Net} {a k : ℕ} {recs froms tos : Words} {legs : List Wire} {plan : Plan}
    (one : 1 ≤ a) (l : Laid N a k recs froms tos legs) (p : Planned N plan) (v : Words)
    (s : NetSound N) (most : a ≤ area_count N) (long : length recs ≡ Limits.record_words) where
  abbrev bs : List Branch
  bs = legs_of N a k recs (heard N a k froms tos)

  abbrev lines : List Wire
  lines = map (flown v) legs

  abbrev writing : Writing N a k recs froms tos v plan
  writing = record { one = one; most = most; sound = sound N s; long = long; planned = p }

  records_fold : records_put plan lines (own_nodes N a) v a k recs ≡ all writing
  unfolding legs_put area_put
  records_fold =
      by_wires (leg_put plan k) v legs _
      ∙ rw (wires_are l) (fold_map (λ x w. found (leg_put plan k) v w x) (wire_of N k recs froms tos) (nodes writing) (own_ends N a))

  pub records_are : records_put plan lines (own_nodes N a) v a k recs ≡ new_records N a k bs v recs
  records_are = records_fold ∙ ext_get_or z (all writing) (new_records N a k bs v recs) (ends_long writing (nodes writing) (nodes_long writing) ∙ sym (records_length N a k bs v recs)) (λ j _. right writing j)

  pub written_is : memory (records_put plan lines (own_nodes N a) v a k recs) (sent_by plan k is_from_end lines froms) (sent_by plan k is_to_end lines tos) ≡ written N a k bs v (memory recs froms tos)
  unfolding written
  written_is = rw (records_are, froms_are one l p v, tos_are one l p v)
