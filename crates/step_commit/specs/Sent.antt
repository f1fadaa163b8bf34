-- What the legs of an area's step send, row by row, is what the paper has it put into the line stores. Assumes nothing.
use Rattle.std.specs.Prelude.{◌+◌, ◌*◌, ◌/◌, ◌%◌, ◌≤◌, ◌<◌, ◌≡◌}
use Rattle.whole.specs.Plain.{ℕ, ◌∙◌, Bool, List, map, length, arith, Words, fold}
use Rattle.whole.specs.Turns.{turns}
use Rattle.paper.specs.Rows.{Row}
use Rattle.paper.specs.Areas.{Net}
use Rattle.paper.specs.Legs.{Leg, End, Branch, branch, Heard, legs_of, branch_in, heard}
use Rattle.paper.specs.Advance.{put_sent, new_store}
use Rattle.laws_facts.specs.Nets.{row_at}
use Rattle.laws_local.specs.Own.{legs_length, branch_is as branch_at, row_is}
use Rattle.plan_ends.specs.Own.{own_end}
use Rattle.plan_rows.specs.Planned.{Plan, Planned}
use Rattle.step_legs.specs.declared.Wire.{Wire}
use Rattle.step_own.specs.Ends.{end_leg}
use Rattle.step_own.specs.EndLegs.{from_leg, to_leg}
use Rattle.step_own.specs.Branches.{from_own, to_own}
use Rattle.step_own.specs.Laid.{Laid, wires_are}
use Rattle.step_own.specs.Pass.{turn, pass}
use Rattle.step_flow.specs.Flown.{flown}
use Rattle.step_send.specs.Stores.{is_from_end, is_to_end, sent_put, sent_by}
use Rattle.step_commit.specs.Asked.{place_is, slots_is}
use Rattle.step_commit.specs.Ends.{found, by_wires, from_end, to_end, from_put, to_put}

-- a branch, by its parts
abbrev end : Bool → Leg → End
end o l = record { own = o; wire = l }

parts : {b : Branch} {r : Row} {o₁ o₂ : Bool} → b.row ≡ r → b.is_from_end.own ≡ o₁ → b.is_to_end.own ≡ o₂ → b ≡ branch r (end o₁ b.is_from_end.wire) (end o₂ b.is_to_end.wire)
parts e f g = rw (← e, ← f, ← g)

module _ {N : Net} {a k : ℕ} {recs froms tos : Words} {legs : List Wire} {plan : Plan}
    (one : 1 ≤ a) (l : Laid N a k recs froms tos legs) (p : Planned N plan) (v : Words) where
  abbrev ears : List Heard
  ears = heard N a k froms tos

  abbrev bs : List Branch
  bs = legs_of N a k recs ears

  abbrev lines : List Wire
  lines = map (flown v) legs

  abbrev sent : (Wire → Bool) → Wire → Words → Words
  sent side w = sent_put plan k side w

  -- ---- a pass over the legs is a pass over the rows

  by_rows : {A : Type 0} (put : Wire → A → A) (g : ℕ → A → A) (x : A)
      → ((i : ℕ) (y : A) → i < length N.rows → g i y ≡ turn N a k recs froms tos (found put v) (2 * i + 1) (turn N a k recs froms tos (found put v) (2 * i) y))
      → fold (λ y w. put w y) x lines ≡ turns 0 (length bs) g x
  by_rows put g x h =
      by_wires put v legs x
      ∙ rw (wires_are l, legs_length N a k recs ears) (pass N a k recs froms tos (found put v) g x h)

  module _ (i : ℕ) (h : i < length N.rows) where
    branch_is : branch_in bs i ≡ branch (row_at N i) (end (own_end N a (2 * i)) (end_leg N a k recs froms tos (2 * i))) (end (own_end N a (2 * i + 1)) (end_leg N a k recs froms tos (2 * i + 1)))
    unfolding own_end
    branch_is =
        let e : 2 * i / 2 ≡ i = omega arith in
        let f : 1 + 2 * i % 2 ≡ 1 = omega arith in
        let g : (2 * i + 1) / 2 ≡ i = omega arith in
        let o : 1 + (2 * i + 1) % 2 ≡ 2 = omega arith in
        branch_at N a k recs ears i h
        ∙ rw (e, f, g, o, from_leg N a k recs froms tos i h one, to_leg N a k recs froms tos i h one) (parts (row_is N a k recs ears i) (from_own N a k recs ears i one) (to_own N a k recs ears i one))

    from_turn : (x : Words) → put_sent N k (λ b. b.is_from_end) bs v i x ≡ turn N a k recs froms tos (found (sent is_from_end) v) (2 * i + 1) (turn N a k recs froms tos (found (sent is_from_end) v) (2 * i) x)
    unfolding put_sent end_leg
    from_turn x = rw (branch_is, ← place_is p i h, ← slots_is p i h) (from_put v (from_end N k recs froms tos i) (to_end N k recs froms tos i) (own_end N a (2 * i)) (own_end N a (2 * i + 1)) x plan k)

    to_turn : (x : Words) → put_sent N k (λ b. b.is_to_end) bs v i x ≡ turn N a k recs froms tos (found (sent is_to_end) v) (2 * i + 1) (turn N a k recs froms tos (found (sent is_to_end) v) (2 * i) x)
    unfolding put_sent end_leg
    to_turn x = rw (branch_is, ← place_is p i h, ← slots_is p i h) (to_put v (from_end N k recs froms tos i) (to_end N k recs froms tos i) (own_end N a (2 * i)) (own_end N a (2 * i + 1)) x plan k)

  -- ---- the stores

  pub froms_are : sent_by plan k is_from_end lines froms ≡ new_store N k (λ b. b.is_from_end) bs v froms
  unfolding sent_by new_store
  froms_are = by_rows (sent is_from_end) (put_sent N k (λ b. b.is_from_end) bs v) froms (λ i x h. from_turn i h x)

  pub tos_are : sent_by plan k is_to_end lines tos ≡ new_store N k (λ b. b.is_to_end) bs v tos
  unfolding sent_by new_store
  tos_are = by_rows (sent is_to_end) (put_sent N k (λ b. b.is_to_end) bs v) tos (λ i x h. to_turn i h x)
