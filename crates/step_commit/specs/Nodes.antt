-- What the turns of an area's nodes put into the records is what the paper's step writes there. Assumes nothing.
use Rattle.std.specs.Prelude.{◌+◌, ◌-◌, ◌≤◌, ◌≡◌, ◌≢◌}
use Rattle.whole.specs.Plain.{ℕ, refl, sym, ap, ◌∙◌, Bool, true, false, cond, ℤ, pos, nat_abs, set, length-set}
use Rattle.whole.specs.Plain.{get_or-set_same, get_or-set_other, ℕ_discrete, arith, Words, z, word}
use Rattle.whole.specs.Folds.{fold_keeps}
use Rattle.whole.specs.Members.{Among}
use Rattle.plan_rows.specs.Planned.{Plan}
use Rattle.paper.specs.Areas.{Net}
use Rattle.paper.specs.Records.{volt_at, peak_at, peak_step_at, outdone, new_peak, new_peak_step}
use Rattle.paper.specs.Advance.{put_if}
use Rattle.laws_local.specs.Puts.{put_length, put_other, put_same, put_with}
use Rattle.laws_local.specs.Written.{count_put, volt_put, peak_put, peak_step_put}
use Rattle.plan_ends.specs.Own.{own_nodes}
use Rattle.step_records.specs.Records.{node_put, nodes_put}
use Rattle.step_commit.specs.Reached.{fold_keep, fold_reach, fold_first}
use Rattle.step_commit.specs.Asked.{node_of_own}
use Rattle.step_commit.specs.Put.{Writing, ears, after, Right, Long}

module _ {N : Net} {a k : ℕ} {recs froms tos v : Words} {plan : Plan} (W : Writing N a k recs froms tos v plan) where
  open W use {one, most, sound as snd, long}

  -- the records with the area's count, and after its nodes
  abbrev pub start : Words
  start = set recs (0 + (a - 1)) (pos k)

  abbrev pub nodes : Words
  nodes = nodes_put k v (own_nodes N a) start

  -- ---- a node's turn: its voltage, and its peak where the paper's step renews it

  abbrev node_turn : ℕ → Words → Words
  node_turn n u = node_put k n (word v n) u

  abbrev rises_at : ℕ → Words → Bool
  rises_at n u = outdone k (word v n) (word u (peak_at N n))

  pub node_low : (n : ℕ) → Among n (own_nodes N a) → 1 ≤ n
  node_low n m = (node_of_own N a n m).low

  pub node_most_lem : (n : ℕ) → Among n (own_nodes N a) → n ≤ 32
  node_most_lem n m = omega (arith, (node_of_own N a n m).high, snd.nodes)

  volt_right : (n : ℕ) → Among n (own_nodes N a) → word v n ≡ word (after W) (volt_at N n)
  volt_right n m = sym (volt_put N a k recs (ears W) v snd recs long n (node_of_own N a n m))

  risen : (n : ℕ) → Among n (own_nodes N a) → rises_at n recs ≡ true → (pos (nat_abs (word v n)) ≡ word (after W) (peak_at N n)) × (pos k ≡ word (after W) (peak_step_at N n))
  unfolding new_peak new_peak_step
  risen n m b =
      let h = node_of_own N a n m in
      (sym (rw b at (peak_put N a k recs (ears W) v snd recs long n h)), sym (rw b at (peak_step_put N a k recs (ears W) v snd recs long n h)))

  stayed : (n : ℕ) → Among n (own_nodes N a) → rises_at n recs ≡ false → (word recs (peak_at N n) ≡ word (after W) (peak_at N n)) × (word recs (peak_step_at N n) ≡ word (after W) (peak_step_at N n))
  unfolding new_peak new_peak_step
  stayed n m b =
      let h = node_of_own N a n m in
      (sym (rw b at (peak_put N a k recs (ears W) v snd recs long n h)), sym (rw b at (peak_step_put N a k recs (ears W) v snd recs long n h)))

  -- a peak that stands already is renewed by nothing but itself
  again : (x p : ℤ) → outdone k x (new_peak k x p) ≡ true → outdone k x p ≡ true
  unfolding new_peak
  again x p e = go (outdone k x p) refl e
    where
      go : (b : Bool) → outdone k x p ≡ b → outdone k x (cond b (pos (nat_abs x)) p) ≡ true → outdone k x p ≡ true
      go true q e = q
      go false q e = e

  reads : (u : Words) (n : ℕ) → word (set u (32 + n - 1) (word v n)) (304 + n - 1) ≡ word u (peak_at N n)
  reads u n = get_or-set_other u (32 + n - 1) (304 + n - 1) (word v n) z (λ e. omega arith)

  turn_long : (u : Words) (n : ℕ) → Long W u → Long W (node_turn n u)
  unfolding node_put
  turn_long u n q = simp (put_length, length-set) q

  -- a word, by what a turn puts there
  node_puts : (j : ℕ) (u : Words) (n : ℕ) → Among n (own_nodes N a) → Right W j u → (rises_at n u ≡ true → peak_at N n ≡ j → pos (nat_abs (word v n)) ≡ word (after W) j)
      → (rises_at n u ≡ true → peak_step_at N n ≡ j → pos k ≡ word (after W) j) → Right W j (node_turn n u)
  unfolding node_put put_if
  node_puts j u n m p peak step =
      rw (reads u n)
      (put_with (λ (y : ℤ). y ≡ word (after W) j) (rises_at n u) _ (peak_step_at N n) j (pos k)
      (put_with (λ (y : ℤ). y ≡ word (after W) j) (rises_at n u) _ (peak_at N n) j (pos (nat_abs (word v n)))
      (put_with (λ (y : ℤ). y ≡ word (after W) j) true u (volt_at N n) j (word v n) p (λ _ e. volt_right n m ∙ ap (word (after W)) e)) peak) step)

  -- one that is no peak of its
  node_keeps : (j : ℕ) (u : Words) (n : ℕ) → Among n (own_nodes N a) → peak_at N n ≢ j → peak_step_at N n ≢ j → Right W j u → Right W j (node_turn n u)
  node_keeps j u n m x y p = node_puts j u n m p (λ _ e. absurd (x e)) (λ _ e. absurd (y e))

  -- its own two, once they stand
  abbrev Stood : ℕ → Words → Type 0
  Stood n u = Right W (peak_at N n) u × Right W (peak_step_at N n) u

  stood_again : (n : ℕ) → Among n (own_nodes N a) → (u : Words) → Stood n u → Stood n (node_turn n u)
  stood_again n m u p = (node_puts (peak_at N n) u n m p.0 (λ b _. (risen n m (was b)).0) (λ _ e. absurd (omega (arith, node_low n m))), node_puts (peak_step_at N n) u n m p.1 (λ _ e. absurd (omega (arith, node_low n m))) (λ b _. (risen n m (was b)).1))
    where
      was : rises_at n u ≡ true → rises_at n recs ≡ true
      was b = again (word v n) (word recs (peak_at N n)) (rw (p.0, peak_put N a k recs (ears W) v snd recs long n (node_of_own N a n m)) at b)

  stood_keeps : (n : ℕ) → Among n (own_nodes N a) → (u : Words) (i : ℕ) → Among i (own_nodes N a) → Stood n u → Stood n (node_turn i u)
  stood_keeps n m u i l p = go (ℕ_discrete i n)
    where
      go : Dec (i ≡ n) → Stood n (node_turn i u)
      go (yes e) = rw e (stood_again n m u p)
      go (no e) = (
        node_keeps (peak_at N n) u i l (λ q. e (omega (arith, node_low n m, node_low i l))) (λ q. absurd (omega (arith, node_low n m, node_low i l, node_most_lem n m))) p.0,
        node_keeps (peak_step_at N n) u i l (λ q. absurd (omega (arith, node_low n m, node_low i l, node_most_lem i l))) (λ q. e (omega (arith, node_low n m, node_low i l))) p.1,
      )

  -- what its turn finds of them
  pub record Found (n : ℕ) (u : Words) : Type 0 where
    pub size : Long W u
    pub peak : word u (peak_at N n) ≡ word recs (peak_at N n)
    pub step : word u (peak_step_at N n) ≡ word recs (peak_step_at N n)

  found_keeps : (n : ℕ) → Among n (own_nodes N a) → (u : Words) (i : ℕ) → Among i (own_nodes N a) → i ≢ n → Found n u → Found n (node_turn i u)
  unfolding node_put
  found_keeps n m u i l e f = record {
    size = turn_long u i f.size;
    peak = put_other _ _ (peak_step_at N i) (peak_at N n) _ (λ _ q. omega (arith, node_low n m, node_low i l, node_most_lem n m))
        ∙ put_other _ _ (peak_at N i) (peak_at N n) _ (λ _ q. e (omega (arith, node_low n m, node_low i l)))
        ∙ get_or-set_other u (volt_at N i) (peak_at N n) (word v i) z (λ q. omega (arith, node_low n m, node_low i l, node_most_lem i l)) ∙ f.peak;
    step = put_other _ _ (peak_step_at N i) (peak_step_at N n) _ (λ _ q. e (omega (arith, node_low n m, node_low i l)))
        ∙ put_other _ _ (peak_at N i) (peak_step_at N n) _ (λ _ q. omega (arith, node_low n m, node_low i l, node_most_lem i l))
        ∙ get_or-set_other u (volt_at N i) (peak_step_at N n) (word v i) z (λ q. omega (arith, node_low n m, node_low i l, node_most_lem i l)) ∙ f.step;
  }

  node_stands : (n : ℕ) → Among n (own_nodes N a) → (u : Words) → Found n u → Stood n (node_turn n u)
  unfolding node_put put_if
  node_stands n m u f = rw (reads u n, f.peak) (go (rises_at n recs) refl)
    where
      low : 1 ≤ n
      low = node_low n m

      high : n ≤ 32
      high = node_most_lem n m

      go : (b : Bool) → rises_at n recs ≡ b
          → Stood n (put_if b (put_if b (set u (volt_at N n) (word v n)) (peak_at N n) (pos (nat_abs (word v n)))) (peak_step_at N n) (pos k))
      go true b = (
        put_other true (set (set u (volt_at N n) (word v n)) (peak_at N n) (pos (nat_abs (word v n)))) (peak_step_at N n) (peak_at N n) (pos k) (λ _ q. omega (arith, low, high))
            ∙ put_same true (set u (volt_at N n) (word v n)) (peak_at N n) (pos (nat_abs (word v n))) refl (rw (length-set u (volt_at N n) (word v n)) (omega (arith, low, high, f.size))) ∙ (risen n m b).0,
        put_same true (set (set u (volt_at N n) (word v n)) (peak_at N n) (pos (nat_abs (word v n)))) (peak_step_at N n) (pos k) refl (simp length-set (omega (arith, low, high, f.size))) ∙ (risen n m b).1,
      )
      go false b = (
        put_other true u (volt_at N n) (peak_at N n) (word v n) (λ _ q. omega (arith, low, high)) ∙ f.peak ∙ (stayed n m b).0,
        put_other true u (volt_at N n) (peak_step_at N n) (word v n) (λ _ q. omega (arith, low, high)) ∙ f.step ∙ (stayed n m b).1,
      )

  -- ---- the turns of all its nodes

  pub nodes_keep : (j : ℕ) → ((n : ℕ) → Among n (own_nodes N a) → (peak_at N n ≢ j) × (peak_step_at N n ≢ j)) → Right W j start → Right W j nodes
  unfolding nodes_put
  nodes_keep j h p = fold_keep (λ u n. node_turn n u) (Right W j) (own_nodes N a) (λ u n m q. node_keeps j u n m (h n m).0 (h n m).1 q) start p

  start_long : Long W start
  start_long = length-set recs (0 + (a - 1)) (pos k)

  pub volt_at_lem : (n : ℕ) → Among n (own_nodes N a) → Right W (volt_at N n) nodes
  unfolding nodes_put node_put
  volt_at_lem n m =
      fold_reach (λ u n. node_turn n u) (Right W (volt_at N n)) (Long W) turn_long (own_nodes N a) m
      (λ u i l q. node_keeps (volt_at N n) u i l (λ e. omega (arith, node_low n m, node_low i l, node_most_lem n m)) (λ e. omega (arith, node_low n m, node_low i l, node_most_lem n m)) q)
      (λ u q. here u q) start start_long
    where
      here : (u : Words) → Long W u → Right W (volt_at N n) (node_turn n u)
      here u q =
          put_other _ _ (peak_step_at N n) (volt_at N n) _ (λ _ e. omega (arith, node_low n m)) ∙ put_other _ _ (peak_at N n) (volt_at N n) _ (λ _ e. omega (arith, node_low n m))
          ∙ get_or-set_same u (volt_at N n) (word v n) z (omega (arith, node_low n m, node_most_lem n m)) ∙ volt_right n m

  pub stood_at : (n : ℕ) → Among n (own_nodes N a) → Stood n nodes
  unfolding nodes_put
  stood_at n m =
      fold_first (λ u n. node_turn n u) (Stood n) (Found n) n (own_nodes N a) m (λ u i l e f. found_keeps n m u i l e f) (λ u i l p. stood_keeps n m u i l p) (λ u f. node_stands n m u f) start
      (record {
        size = start_long;
        peak = get_or-set_other recs (0 + (a - 1)) (peak_at N n) (pos k) z (λ e. omega (arith, node_low n m, most, snd.areas));
        step = get_or-set_other recs (0 + (a - 1)) (peak_step_at N n) (pos k) z (λ e. omega (arith, node_low n m, most, snd.areas));
      })

  pub count_is : word (after W) (0 + (a - 1)) ≡ pos k
  count_is = let e : 0 + (a - 1) ≡ a - 1 = omega arith in rw e (count_put N a k recs (ears W) v snd recs long one most)

  pub start_keeps : (j : ℕ) → Right W j recs → Right W j start
  unfolding put_if
  start_keeps j p = put_with (λ (y : ℤ). y ≡ word (after W) j) true recs (0 + (a - 1)) j (pos k) p (λ _ e. sym count_is ∙ ap (word (after W)) e)

  pub nodes_long : Long W nodes
  unfolding nodes_put
  nodes_long = fold_keeps (Long W) (λ u n. node_turn n u) turn_long start (own_nodes N a) start_long
