-- The two ends of a row are the paper's two legs. Assumes nothing.
use Rattle.std.specs.Prelude.{◌+◌, ◌-◌, ◌*◌, ◌/◌, ◌%◌, ◌≤◌, ◌<◌, ◌≡◌, ◌&&◌}
use Rattle.whole.specs.Plain.{ℕ, refl, sym, ap, ◌∙◌, Bool, true, false, cond}
use Rattle.whole.specs.Plain.{List, eqb, ℤ, length, get_or, ne_eqb, arith, Words, z, word, nat, numbers}
use Rattle.whole.specs.Folds.{get_d_map, get_d_numbers, length_numbers}
use Rattle.paper.specs.Rows.{Row, is_branch, is_line, from, to}
use Rattle.paper.specs.Conductance.{conductance}
use Rattle.paper.specs.Areas.{Net, row_area, step}
use Rattle.paper.specs.Records as Records
use Rattle.paper.specs.Legs.{Leg, leg, idle, End, other_end, Branch, branch, Heard, line_end, line_legs, plain_legs, legs_by, heard, heard_by, here, sent_to, conducts}
use Rattle.laws_facts.specs.Nets.{row_at}
use Rattle.plan_ends.specs.Own.{owner_of, own_end, near_of, far_of}
use Rattle.step_own.specs.Ends.{facing, far_store, h_at, end_leg, line_conducts}

-- a line's end, heard as `line_end` has it
line_end_lem : (own : Bool) (n g g' : ℕ) (h h' : ℤ) → g ≡ g' → (own ≡ true → h ≡ h') → cond own (leg n 0 g h) idle ≡ (line_end own n g' h').wire
unfolding line_end
line_end_lem true n g g' h h' q e = rw (q, e refl)
line_end_lem false n g g' h h' q e = refl

module _ (N : Net) (a k : ℕ) (recs froms tos : Words) (i : ℕ) (l : i < length N.rows) (one : 1 ≤ a) where
  abbrev r : Row
  r = row_at N i

  abbrev ears : List Heard
  ears = heard N a k froms tos

  abbrev deaf : Heard
  deaf = record { at_from = z; at_to = z }

  ear : get_or ears i deaf ≡ heard_by N a k froms tos i
  unfolding heard
  ear =
      let e : 0 + i ≡ i = omega arith in
      get_d_map (heard_by N a k froms tos) (numbers 0 (length N.rows)) i 0 deaf (rw (length_numbers 0 (length N.rows)) l)
      ∙ ap (heard_by N a k froms tos) (get_d_numbers 0 (length N.rows) i 0 l ∙ e)

  -- what a line's own end hears
  from_heard : is_line r ≡ true → here N a (from r) ≡ true → sent_to N k i r tos ≡ (get_or ears i deaf).at_from
  unfolding heard_by
  from_heard e f = sym (ap (λ (x : Heard). x.at_from) ear ∙ rw (e, f))

  to_heard : is_line r ≡ true → here N a (to r) ≡ true → sent_to N k i r froms ≡ (get_or ears i deaf).at_to
  unfolding heard_by
  to_heard e f = sym (ap (λ (x : Heard). x.at_to) ear ∙ rw (e, f))

  -- the end on one side, by its row
  abbrev at_side : ℕ → Leg
  at_side side =
      cond (eqb (owner_of N r side) a)
      (leg (nat (word r side)) (cond (is_line r) 0 (nat (word r (3 - side)))) (conducts N recs k i) (cond (is_line r) (sent_to N k i r (far_store side froms tos)) (facing side (word recs (Records.history_at i)))))
      idle

  -- an end of an R, L, C or SW, or of a source
  module _ (end : Branch → End) (side : ℕ)
      (p : leg (nat (word r side)) (nat (word r (3 - side))) (conducts N recs k i) (facing side (word recs (Records.history_at i))) ≡ (end (plain_legs r (conducts N recs k i) (word recs (Records.history_at i)))).wire)
      (q : idle ≡ (end (branch r other_end other_end)).wire) where
    abbrev plain : Leg
    plain = leg (nat (word r side)) (nat (word r (3 - side))) (conducts N recs k i) (facing side (word recs (Records.history_at i)))

    by_own : (b : Bool) → cond b plain idle ≡ (end (cond b (plain_legs r (conducts N recs k i) (word recs (Records.history_at i))) (branch r other_end other_end))).wire
    by_own true = p
    by_own false = q

    by_branch : (b : Bool)
        → cond (eqb (cond b (row_area N r) 0) a) plain idle ≡ (end (cond (b && eqb (row_area N r) a) (plain_legs r (conducts N recs k i) (word recs (Records.history_at i))) (branch r other_end other_end))).wire
    by_branch true = by_own (eqb (row_area N r) a)
    by_branch false = rw (ne_eqb 0 a (λ q. omega arith)) q

    plain_end : is_line r ≡ false → at_side side ≡ (end (legs_by N a k recs ears i)).wire
    unfolding owner_of legs_by
    plain_end f = rw f (by_branch (is_branch r))

  from_side : at_side 1 ≡ (legs_by N a k recs ears i).is_from_end.wire
  unfolding owner_of legs_by line_legs plain_legs facing far_store
  from_side = elim (is_line r) as (λ b. is_line r ≡ b → at_side 1 ≡ (legs_by N a k recs ears i).is_from_end.wire) [
    | true ↦ λ e. rw e (line_end_lem (here N a (from r)) (from r) _ (conductance (step N) r) (sent_to N k i r tos) (get_or ears i deaf).at_from (line_conducts N recs k i e) (from_heard e))
    | false ↦ λ e. plain_end (λ b. b.is_from_end) 1 refl refl e
  ] refl

  to_side : at_side 2 ≡ (legs_by N a k recs ears i).is_to_end.wire
  unfolding owner_of legs_by line_legs plain_legs facing far_store
  to_side = elim (is_line r) as (λ b. is_line r ≡ b → at_side 2 ≡ (legs_by N a k recs ears i).is_to_end.wire) [
    | true ↦ λ e. rw e (line_end_lem (here N a (to r)) (to r) _ (conductance (step N) r) (sent_to N k i r froms) (get_or ears i deaf).at_to (line_conducts N recs k i e) (to_heard e))
    | false ↦ λ e. plain_end (λ b. b.is_to_end) 2 refl refl e
  ] refl

  pub from_leg : end_leg N a k recs froms tos (2 * i) ≡ (legs_by N a k recs ears i).is_from_end.wire
  unfolding end_leg own_end near_of far_of h_at
  from_leg =
      let e : 2 * i / 2 ≡ i = omega arith in
      let s : 1 + 2 * i % 2 ≡ 1 = omega arith in
      rw (e, s) from_side

  pub to_leg : end_leg N a k recs froms tos (2 * i + 1) ≡ (legs_by N a k recs ears i).is_to_end.wire
  unfolding end_leg own_end near_of far_of h_at
  to_leg =
      let e : (2 * i + 1) / 2 ≡ i = omega arith in
      let s : 1 + (2 * i + 1) % 2 ≡ 2 = omega arith in
      rw (e, s) to_side
