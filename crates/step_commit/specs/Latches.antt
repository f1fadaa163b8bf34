-- An SW's latch goes by the current and the latch that stood in the records, which no turn but its own has touched. Assumes nothing.
use Rattle.std.specs.Prelude.{◌+◌, ◌-◌, ◌*◌, ◌/◌, ◌%◌, ◌≤◌, ◌<◌, ◌≡◌, ◌≢◌, ◌⊎◌, ◌&&◌}
use Rattle.whole.specs.Plain.{ℕ, refl, sym, ap, ◌∙◌, subst, inl, inr, Bool, true, false, cond, not}
use Rattle.whole.specs.Plain.{true≢false, ℤ, pos, lt_z, length, get_or-set_same, get_or-set_other, eqb-true, ℕ_discrete, arith, Words, z, word}
use Rattle.whole.specs.Plain.{numbers}
use Rattle.whole.specs.Members.{Among, among_at, keep_among, numbers_among}
use Rattle.plan_rows.specs.Planned.{Plan}
use Rattle.paper.specs.Classes.{breaker_branch, breaker_line}
use Rattle.paper.specs.Rows.{is_breaker}
use Rattle.paper.specs.Areas.{Net, row_area}
use Rattle.paper.specs.Records.{current_at, to_current_at, history_at, latch_at}
use Rattle.paper.specs.Latch as Latch
use Rattle.paper.specs.Latch.{new_latch}
use Rattle.paper.specs.Legs.{Leg, current}
use Rattle.paper.specs.Advance.{put_if}
use Rattle.laws_facts.specs.Nets.{row_at}
use Rattle.laws_local.specs.Puts.{put_length, put_other, put_same}
use Rattle.laws_local.specs.Written.{latch_put}
use Rattle.plan_ends.specs.Own.{owner_of, own_end, own_ends, own_nodes}
use Rattle.step_latch.specs.Parting.{latch_again}
use Rattle.step_records.specs.Records.{nodes_else}
use Rattle.step_commit.specs.Reached.{fold_first}
use Rattle.step_commit.specs.Put.{Writing, ears, after, Right, Long, put, now_at, parting, latched, from_is, to_is, from_wire, current_right, end_among, put_long, ends}
use Rattle.step_commit.specs.Nodes.{start, nodes, node_most_lem, nodes_long}

module _ {N : Net} {a k : ℕ} {recs froms tos v : Words} {plan : Plan} (W : Writing N a k recs froms tos v plan) where
  open W use {most, sound as snd, long}

  module _ (i : ℕ) (h : i < length N.rows) (b : is_breaker (row_at N i) ≡ true) (o : own_end N a (2 * i) ≡ true) where
    pub mine : row_area N (row_at N i) ≡ a
    unfolding own_end owner_of
    mine =
        let e : 2 * i / 2 ≡ i = omega arith in
        let f : 1 + 2 * i % 2 ≡ 1 = omega arith in
        eqb-true _ a (rw (e, f, breaker_line (row_at N i) b, breaker_branch (row_at N i) b) at o)

    latch_right : new_latch k (row_at N i) (word recs (current_at i)) (now_at W i) (word recs (latch_at i)) ≡ word (after W) (latch_at i)
    latch_right =
        ap (λ (y : Leg). new_latch k (row_at N i) (word recs (current_at i)) (current v y) (word recs (latch_at i))) (from_wire W i h o)
        ∙ sym (latch_put N a k recs (ears W) v snd recs long i h b mine)

    record Finds (u : Words) : Type 0 where
      size : Long W u
      current : word u (current_at i) ≡ word recs (current_at i)
      latch : word u (latch_at i) ≡ word recs (latch_at i)

    record Latched (u : Words) : Type 0 where
      size : Long W u
      current : Right W (current_at i) u
      latch : Right W (latch_at i) u

    abbrev Left : Words → Words → Type 0
    Left u w = (word w (current_at i) ≡ word u (current_at i)) × (word w (latch_at i) ≡ word u (latch_at i))

    from_else : (n : ℕ) → n < length N.rows → n ≢ i → (u : Words) → Left u (put W (2 * n) u)
    from_else n l d u =
        rw (from_is W n l u) (
          put_other _ _ (history_at n) (current_at i) _ (λ _ q. omega (arith, snd.rows)) ∙ get_or-set_other (latched W n u) (current_at n) (current_at i) _ z (λ q. d (omega arith)) ∙ put_other (parting W n u) u (latch_at n) (current_at i) _ (λ _ q. omega (arith, snd.rows)),
          put_other _ _ (history_at n) (latch_at i) _ (λ _ q. omega (arith, snd.rows)) ∙ get_or-set_other (latched W n u) (current_at n) (latch_at i) _ z (λ q. omega (arith, snd.rows)) ∙ put_other (parting W n u) u (latch_at n) (latch_at i) _ (λ _ q. d (omega arith)),
        )

    to_else : (n : ℕ) → n < length N.rows → (u : Words) → Left u (put W (2 * n + 1) u)
    to_else n l u =
        rw (to_is W n u)
        (put_other _ u (to_current_at n) (current_at i) _ (λ _ q. omega (arith, snd.rows)), put_other _ u (to_current_at n) (latch_at i) _ (λ _ q. omega (arith, snd.rows)))

    end_else : (u : Words) (e : ℕ) → Among e (own_ends N a) → e ≢ 2 * i → Left u (put W e u)
    unfolding own_ends
    end_else u e m d = go (ℕ_discrete (e % 2) 0)
      where
        inside : e / 2 < length N.rows
        inside = omega (arith, (numbers_among 0 (2 * length N.rows) (keep_among (own_end N a) (numbers 0 (2 * length N.rows)) m).among).1)

        go : Dec (e % 2 ≡ 0) → Left u (put W e u)
        go (yes q) = let f : e ≡ 2 * (e / 2) = omega arith in subst (λ (n : ℕ). Left u (put W n u)) (sym f) (from_else (e / 2) inside (λ g. d (omega arith)) u)
        go (no q) = let f : e ≡ 2 * (e / 2) + 1 = omega arith in subst (λ (n : ℕ). Left u (put W n u)) (sym f) (to_else (e / 2) inside u)

    -- its own turn
    own_turn : (u : Words) → Long W u → (word (put W (2 * i) u) (current_at i) ≡ now_at W i) × (word (put W (2 * i) u) (latch_at i) ≡ new_latch k (row_at N i) (word u (current_at i)) (now_at W i) (word u (latch_at i)))
    unfolding new_latch
    own_turn u n =
        rw (from_is W i h u) (
          put_other _ _ (history_at i) (current_at i) _ (λ _ q. omega (arith, snd.rows)) ∙ get_or-set_same (latched W i u) (current_at i) _ z (omega (arith, put_length (parting W i u) u (latch_at i) (pos k), snd.rows)),
          put_other _ _ (history_at i) (latch_at i) _ (λ _ q. omega (arith, snd.rows)) ∙ get_or-set_other (latched W i u) (current_at i) (latch_at i) _ z (λ q. omega (arith, snd.rows)) ∙ rw b (go (not (lt_z z (word u (latch_at i))) && Latch.parts k (row_at N i) (word u (current_at i)) (now_at W i))),
        )
      where
        go : (t : Bool) → word (put_if t u (latch_at i) (pos k)) (latch_at i) ≡ cond t (pos k) (word u (latch_at i))
        go true = put_same true u (latch_at i) (pos k) refl (omega (arith, snd.rows))
        go false = put_other false u (latch_at i) (latch_at i) (pos k) (λ e. absurd (true≢false (sym e)))

    stay : (u : Words) (e : ℕ) → Among e (own_ends N a) → e ≢ 2 * i → Finds u → Finds (put W e u)
    stay u e m d f = let x = end_else u e m d in record { size = put_long W u e f.size; current = x.0 ∙ f.current; latch = x.1 ∙ f.latch }

    reach : (u : Words) → Finds u → Latched (put W (2 * i) u)
    reach u f =
        let x = own_turn u f.size in
        record { size = put_long W u (2 * i) f.size; current = x.0 ∙ current_right W i h o; latch = x.1 ∙ rw (f.current, f.latch) latch_right }

    keep : (u : Words) (e : ℕ) → Among e (own_ends N a) → Latched u → Latched (put W e u)
    keep u e m p = go (ℕ_discrete e (2 * i))
      where
        again : Latched (put W (2 * i) u)
        again =
            let x = own_turn u p.size in
            let flows : word u (current_at i) ≡ now_at W i = p.current ∙ sym (current_right W i h o) in
            record {
              size = put_long W u (2 * i) p.size;
              current = x.0 ∙ current_right W i h o;
              latch = x.1 ∙ ap (λ (y : ℤ). new_latch k (row_at N i) y (now_at W i) (word u (latch_at i))) flows
                  ∙ ap (new_latch k (row_at N i) (now_at W i) (now_at W i)) (p.latch ∙ sym latch_right)
                  ∙ latch_again k (row_at N i) (word recs (current_at i)) (now_at W i) (word recs (latch_at i)) ∙ latch_right;
            }

        go : Dec (e ≡ 2 * i) → Latched (put W e u)
        go (yes q) = subst (λ (n : ℕ). Latched (put W n u)) (sym q) again
        go (no q) = let x = end_else u e m q in record { size = put_long W u e p.size; current = x.0 ∙ p.current; latch = x.1 ∙ p.latch }

    nodes_left : (j : ℕ) → 64 ≤ j → (j < 224) ⊎ (368 ≤ j) → word (nodes W) j ≡ word recs j
    nodes_left j l m =
        nodes_else k v (own_nodes N a) (start W) (record { end = λ n q. node_most_lem W _ (among_at (own_nodes N a) n 0 q) }) j l m
        ∙ get_or-set_other recs (0 + (a - 1)) j (pos k) z (λ e. omega (arith, most, snd.areas))

    pub latch_at_lem : Right W (latch_at i) (ends W (nodes W))
    latch_at_lem =
        (fold_first (λ u e. put W e u) Latched Finds (2 * i) (own_ends N a) (end_among W (2 * i) (omega arith) o) stay keep reach (nodes W)
        (record { size = nodes_long W; current = nodes_left (current_at i) (omega arith) (inl (omega (arith, snd.rows))); latch = nodes_left (latch_at i) (omega arith) (inr (omega arith)) })).latch
