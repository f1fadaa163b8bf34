-- What an area's own end is worth at most: its nodes, which are the area's or ground, its conductance, its history; and that one row's two ends leave
-- two nodes. Assumes nothing.
use Rattle.std.specs.Prelude.{◌+◌, ◌-◌, ◌*◌, ◌/◌, ◌%◌, ◌≤◌, ◌<◌, ◌≡◌, ◌⊎◌}
use Rattle.whole.specs.Plain.{ℕ, refl, sym, ◌∙◌, inl, inr, Bool, true}
use Rattle.whole.specs.Plain.{false, cond, eqb, neg_ℤ, nat_abs, length, eqb-true, dec_lt, arith, Words, word}
use Rattle.whole.specs.Plain.{nat}
use Rattle.whole.specs.Int.{abs_neg}
use Rattle.paper.specs.Limits as Limits
use Rattle.paper.specs.Rows.{Row, is_branch, is_line, is_breaker}
use Rattle.paper.specs.Classes.{breaker_branch, breaker_line}
use Rattle.paper.specs.Conductance.{conductance}
use Rattle.paper.specs.Faults.{slots}
use Rattle.paper.specs.Areas.{Net, area_of, row_area, step}
use Rattle.paper.specs.Records as Records
use Rattle.paper.specs.Legs.{is_open, conducts, sent_to}
use Rattle.laws_facts.specs.Fields.{Within}
use Rattle.laws_facts.specs.Sound.{BranchSound}
use Rattle.laws_facts.specs.Travels.{received_size}
use Rattle.laws_facts.specs.Nets.{NetSound, row_area_from, row_area_to}
use Rattle.plan_ends.specs.Own as Own
use Rattle.plan_ends.specs.Own.{of_sides, owner_of, row_of_end, side_of_end, own_end, near_of, far_of}
use Rattle.step_own.specs.Ends.{facing, far_store, g_at, h_at, Kept}

-- one of the two sides
side_within : {step nodes : ℕ} {r : Row} → BranchSound step nodes r → (side : ℕ) → 1 ≤ side → side ≤ 2 → Within 0 nodes (word r side)
side_within {nodes = nodes} {r} b = of_sides (λ side. Within 0 nodes (word r side)) b.from_in b.to_in

-- ground, or a node of the area
abbrev pub Ours : Net → ℕ → ℕ → Type 0
Ours N a n = (n ≡ 0) ⊎ (area_of N n ≡ a)

module _ (N : Net) (s : NetSound N) (a : ℕ) (one : 1 ≤ a) (e : ℕ) (l : e < 2 * length N.rows) (own : own_end N a e ≡ true) where
  abbrev r : Row
  r = row_of_end N e

  row_in_lem : e / 2 < length N.rows
  row_in_lem = omega arith

  owner : owner_of N r (side_of_end e) ≡ a
  unfolding own_end
  owner = eqb-true _ a own

  -- an end that the area owns is a branch's
  pub own_branch : is_branch r ≡ true
  own_branch = Own.own_branch N r (side_of_end e) a one owner

  -- an SW's latch is the area's own
  pub own_breaker : is_breaker r ≡ true → row_area N r ≡ a
  unfolding owner_of
  own_breaker b = rw (breaker_line r b, breaker_branch r b) at owner

  pub own_sound : BranchSound (step N) N.nodes r
  own_sound = (s.row (e / 2) row_in_lem).branch own_branch

  pub near_most : near_of N e ≤ N.nodes
  unfolding near_of
  near_most = (side_within own_sound (side_of_end e) (omega arith) (omega arith)).most

  pub far_most : far_of N e ≤ N.nodes
  unfolding far_of
  far_most = elim (is_line r) as (λ b. cond b 0 (nat (word r (3 - side_of_end e))) ≤ N.nodes) [ true ↦ omega arith | false ↦ (side_within own_sound (3 - side_of_end e) (omega arith) (omega arith)).most ]

  pub g_most_lem : (k : ℕ) (recs : Words) → g_at N k recs e ≤ Limits.conductance_end
  unfolding conducts
  g_most_lem k recs = elim (is_open N recs k (e / 2)) as (λ b. cond b 0 (conductance (step N) r) ≤ Limits.conductance_end) [ true ↦ omega arith | false ↦ own_sound.g_most ]

  pub h_most : {recs froms tos : Words} → Kept recs froms tos → (k : ℕ) → nat_abs (h_at N k recs froms tos e) ≤ Limits.history_end
  unfolding h_at sent_to facing far_store
  h_most {recs} {froms} {tos} kept k = by (is_line r) (eqb (side_of_end e) 1)
    where
      sent_most : (f : Bool) (j : ℕ) → nat_abs (word (cond f tos froms) j) ≤ Limits.history_end
      sent_most true j = kept.to_sent j
      sent_most false j = kept.from_sent j

      by : (b f : Bool)
          → nat_abs (cond b (sent_to N k (e / 2) r (cond f tos froms)) (cond f (word recs (Records.history_at (e / 2))) (neg_ℤ (word recs (Records.history_at (e / 2)))))) ≤ Limits.history_end
      by true f = received_size N.head r s.study.step_in.least k (λ x. word (cond f tos froms) (Records.offset N (e / 2) + x % slots N.head r)) Limits.history_end (λ x. sent_most f _)
      by false true = kept.held (e / 2) (omega (arith, s.row_most))
      by false false = omega (arith, abs_neg (word recs (Records.history_at (e / 2))), kept.held (e / 2) (omega (arith, s.row_most)))

  -- ---- where its nodes are
  plain_node : is_line r ≡ false → (side : ℕ) → 1 ≤ side → side ≤ 2 → Ours N a (nat (word r side))
  unfolding owner_of
  plain_node q side m n = elim (dec_lt 0 (nat (word r side))) [ yes h ↦ inr (sym (there side m n h) ∙ rw (q, own_branch) at owner) | no h ↦ inl (omega arith) ]
    where
      there : (side : ℕ) → 1 ≤ side → side ≤ 2 → 0 < nat (word r side) → row_area N r ≡ area_of N (nat (word r side))
      there = of_sides (λ side. 0 < nat (word r side) → row_area N r ≡ area_of N (nat (word r side)))
          (λ h. row_area_from N s (e / 2) row_in_lem own_branch q (omega arith)) (λ h. row_area_to N s (e / 2) row_in_lem own_branch q (omega arith))

  pub near_ours : Ours N a (near_of N e)
  unfolding near_of owner_of
  near_ours = elim (is_line r) as (λ b. is_line r ≡ b → Ours N a (nat (word r (side_of_end e)))) [ true ↦ λ q. inr (rw q at owner) | false ↦ λ q. plain_node q (side_of_end e) (omega arith) (omega arith) ] refl

  pub far_ours : Ours N a (far_of N e)
  unfolding far_of
  far_ours = elim (is_line r) as (λ b. is_line r ≡ b → Ours N a (cond b 0 (nat (word r (3 - side_of_end e))))) [
    | true ↦ λ q. inl refl
    | false ↦ λ q. plain_node q (3 - side_of_end e) (omega arith) (omega arith)
  ] refl
