-- T-exact: each answer to an advance comes exactly when document 01 says, with its place. Assumes nothing.
use Rattle.std.specs.Prelude.{Ok, Err}
use Rattle.std.specs.Prelude.{◌<◌, ◌≡◌, ◌↔◌}
use Rattle.whole.specs.Plain.{ℕ, zero, suc, refl, sym, ap, ◌∙◌, subst, Bool, true, false, true≢false}
use Rattle.whole.specs.Plain.{List, [], leb, length, get_or, leb-true, leb-false, le-leb, lt-leb, arith, Words}
use Rattle.paper.specs.Replies.{Advance}
use Rattle.paper.specs.declared.Refusal.{Refusal}
use Rattle.paper.specs.declared.Refusal.TheVariants.{Store, Network, State, Area, Done, Wait, Floating, Range, Unbalanced, History}
use Rattle.whole.specs.Folds.{and_left, and_right, both}
use Rattle.whole.specs.Members.{among_at}
use Rattle.whole.specs.Places.{place_least, least_place}
use Rattle.paper.specs.Rows.{steps}
use Rattle.paper.specs.Areas.{Net, area_count, free_of, branch_number}
use Rattle.paper.specs.Records.{count_of}
use Rattle.paper.specs.Legs.{Branch}
use Rattle.paper.specs.Solve.{Step, stop, move, solve, settling, solved_step, range_step, balance_step, history_step}
use Rattle.paper.specs.Advance.{Memory, Advanced, waits_for, take_step, ready, on_next, on_net, finish, advance_of}
use Rattle.laws_facts.specs.Nets.{net_in}
use Rattle.laws_floats.proofs.Floats.{search_floats, floats_search}
use Rattle.laws_local.specs.Nodes.{free_of_lem}
use Rattle.laws_local.specs.Waits.{late_not, late_place, waits_line, waits_behind, behind_waits, allowed_free}
use Rattle.laws_local.proofs.Waits.{not_late, free_allowed}
use Rattle.laws_local.specs.Outcome.{legs_now, volts_of, late_now, is_area, is_done, lone, outside, heavy, large, Solving, floats, leaves, tips, exceeds, solves, solving, Outcome, no_area, done, waits, stops, takes, outcome}
use Rattle.laws_stays.specs.Stays.{stop_move}
use Rattle.laws_demands.specs.Said.{IsArea}
use Rattle.laws_demands.specs.Judged.{Judged, Asked, asked, Call, unfit, unread, unformed, judged, call, call_of}
use Rattle.laws_demands.specs.Branches.{now}
use Rattle.laws_demands.specs.Passing.{lone_paths, paths_lone, outside_out, out_outside, inside_all, all_inside, heavy_tips, tips_heavy, even_all, all_even}
use Rattle.laws_demands.specs.Histories.{large_first, first_large, small_all, all_small}
use Rattle.laws_demands.specs.Says.{Next, Late, Ready, Says}

-- the step, by what it finds in turn
module _ (N : Net) (a k : ℕ) (bs : List Branch) where
  solve14 : (n : ℕ) → lone N a k bs ≡ suc n → solve N a k bs ≡ stop (Floating (suc n))
  unfolding solve settling
  solve14 n e = rw e

  solve15 : (n : ℕ) → lone N a k bs ≡ 0 → outside N a k bs ≡ suc n → solve N a k bs ≡ stop (Range (suc n))
  unfolding solve settling solved_step range_step
  solve15 n p e = rw (p, e)

  solve16 : (n : ℕ) → lone N a k bs ≡ 0 → outside N a k bs ≡ 0 → heavy N a k bs ≡ suc n → solve N a k bs ≡ stop (Unbalanced (suc n))
  unfolding solve settling solved_step range_step balance_step
  solve16 n p q e = rw (p, q, e)

  solve17 : (r : ℕ) → lone N a k bs ≡ 0 → outside N a k bs ≡ 0 → heavy N a k bs ≡ 0 → large N a k bs ≡ suc r → solve N a k bs ≡ stop (History (branch_number N (suc r)))
  unfolding solve settling solved_step range_step balance_step history_step
  solve17 r p q h e = rw (p, q, h, e)

  solve0 : lone N a k bs ≡ 0 → outside N a k bs ≡ 0 → heavy N a k bs ≡ 0 → large N a k bs ≡ 0 → solve N a k bs ≡ move bs (volts_of N a k bs)
  unfolding solve settling solved_step range_step balance_step history_step
  solve0 p q h e = rw (p, q, h, e)

module _ (net : Words) (a : ℕ) (m : Memory) where
  abbrev N : Net
  N = net_in net

  abbrev bs : List Branch
  bs = legs_now N a m

  open now N a m use {k, ears}

  is_area_lem : is_area N a m ≡ true → IsArea N a
  is_area_lem e = record { one = leb-true 1 a (and_left (leb 1 a) (leb a (area_count N)) e); most = leb-true a (area_count N) (and_right (leb 1 a) (leb a (area_count N)) e) }

  area_is : IsArea N a → is_area N a m ≡ true
  area_is h = both (le-leb 1 a h.one) (le-leb a (area_count N) h.most)

  area_not : (IsArea N a → ⊥) → is_area N a m ≡ false
  area_not h = go (is_area N a m) refl
    where
      go : (b : Bool) → is_area N a m ≡ b → b ≡ false
      go true e = absurd (h (is_area_lem e))
      go false e = refl

  next : Judged net m → is_area N a m ≡ true → is_done N a m ≡ false → Next net a m
  next j e d = record { judged = j; area = is_area_lem e; undone = leb-false _ _ d }

  late_ready : Next net a m → late_now N a m ≡ 0 → Ready net a m
  late_ready h l = record { next = h; sent = not_late N a k m.records l }

  ok : Ready net a m → Asked N a m
  ok r = asked net a m r.next.judged r.next.area

  late_row : (r : ℕ) → late_now N a m ≡ suc r → Late net a m (branch_number N (suc r))
  late_row r l =
      let q = place_least (waits_for N a k m.records) [] 0 N.rows r (sym (late_place N a k m.records 0 N.rows) ∙ l) in
      let same : r ≡ q.0 = omega (arith, q.1) in
      record {
        row = q.0;
        there = q.2.inside;
        line = waits_line N a k m.records q.0 q.2.hit;
        behind = waits_behind N a k m.records q.0 q.2.hit;
        first = λ i h o. free_allowed N a k m.records i o (q.2.before i h);
        number = ap (λ (x : ℕ). branch_number N (suc x)) same;
      }

  row_late : (b : ℕ) (h : Late net a m b) → late_now N a m ≡ suc h.row
  row_late b h =
      late_place N a k m.records 0 N.rows
      ∙ least_place (waits_for N a k m.records) [] 0 N.rows h.row (record {
        inside = h.there;
        hit = behind_waits N a k m.records h.row h.line h.behind;
        before = λ i l. allowed_free N a k m.records i (h.first i l);
      }) ∙ omega arith

  -- ---- what the answer says

  same_stop : {x y : Refusal} → stop x ≡ stop y → x ≡ y
  same_stop e = cc

  step_says : (r : Ready net a m) (y : Refusal) → solve N a k bs ≡ stop y → Solving N a k bs → Says net a m (Err y)
  step_says r y v (floats i p e) = subst (λ (x : Refusal). Says net a m (Err x)) (same_stop (sym e ∙ v)) (r, search_floats N (ok r).net a k m.records ears i p)
  step_says r y v (leaves i p o e) = subst (λ (x : Refusal). Says net a m (Err x)) (same_stop (sym e ∙ v)) (r, lone_paths N a m (ok r) p, outside_out N a m (ok r) i o)
  step_says r y v (tips i p o h e) = subst (λ (x : Refusal). Says net a m (Err x)) (same_stop (sym e ∙ v)) (r, lone_paths N a m (ok r) p, inside_all N a m (ok r) o, heavy_tips N a m (ok r) i h)
  step_says r y v (exceeds i p o h b e) =
      subst (λ (x : Refusal). Says net a m (Err x)) (same_stop (sym e ∙ v)) (r, lone_paths N a m (ok r) p, inside_all N a m (ok r) o, even_all N a m (ok r) h, large_first N a m (ok r) i _ b refl)
  step_says r y v (solves p o h b e) = absurd (stop_move (sym v ∙ e))

  move_says : (r : Ready net a m) → solve N a k bs ≡ move bs (volts_of N a k bs) → Solving N a k bs → Says net a m (Ok k)
  move_says r v (floats i p e) = absurd (stop_move (sym e ∙ v))
  move_says r v (leaves i p o e) = absurd (stop_move (sym e ∙ v))
  move_says r v (tips i p o h e) = absurd (stop_move (sym e ∙ v))
  move_says r v (exceeds i p o h b e) = absurd (stop_move (sym e ∙ v))
  move_says r v (solves p o h b e) = (r, refl, lone_paths N a m (ok r) p, inside_all N a m (ok r) o, even_all N a m (ok r) h, small_all N a m (ok r) b)

  told : Says net a m (advance_of net a m).answer
  told = go (call net a m)
    where
      answered : (r : Advanced) → advance_of net a m ≡ r → Says net a m r.answer → Says net a m (advance_of net a m).answer
      answered r e h = subst (λ (r : Advanced). Says net a m r.answer) (sym e) h

      by : (j : Judged net m) → Outcome N a m → Says net a m (on_net N a m).answer
      by j (no_area e x) = rw x (j, λ h. true≢false (sym (area_is h) ∙ e))
      by j (done e d x) = rw x (j, is_area_lem e, leb-true _ _ d)
      by j (waits r e d l x) = rw x (next j e d, late_row r l)
      by j (stops y s e d l v x) = rw x (step_says (late_ready (next j e d) l) y v (solving N a k bs))
      by j (takes e d l v x) = rw x (move_says (late_ready (next j e d) l) v (solving N a k bs))

      go : Call net a m → Says net a m (advance_of net a m).answer
      go (unfit f q) = answered _ q f
      go (unread f n q) = answered _ q (f, n)
      go (unformed f n w q) = answered _ q (f, n, w)
      go (judged j) = answered _ (call_of net a m j) (by j (outcome N a m j.formed))

  -- ---- and back

  answer_is : (r : Advanced) → advance_of net a m ≡ r → (advance_of net a m).answer ≡ r.answer
  answer_is r e = ap (λ (r : Advanced). r.answer) e

  on_next_lem : (h : Next net a m) → (advance_of net a m).answer ≡ (on_next N a k m).answer
  unfolding on_net
  on_next_lem h =
      answer_is (on_net N a m) (call_of net a m h.judged) ∙ rw (h.judged.formed, area_is h.area, lt-leb (steps N.head) (count_of m.records a) h.undone)

  on_step : (r : Ready net a m) (s : Step) → solve N a k bs ≡ s → (advance_of net a m).answer ≡ (finish N a k m s).answer
  unfolding on_next ready take_step
  on_step r s e = on_next_lem r.next ∙ rw (late_not N a k m.records r.sent, e)

  -- a free node's number is over 0
  free_over : (q : ℕ) → q < length (free_of N a) → 0 < get_or (free_of N a) q 0
  free_over q h = omega (arith, (free_of_lem N a (among_at (free_of N a) q 0 h)).0.low)

  abbrev exceeding : ℕ → Advance
  exceeding b = Err (History b)

  says_answer : (x : Advance) → Says net a m x → (advance_of net a m).answer ≡ x
  unfolding advance_of on_net on_next
  says_answer (Err Store) h = rw h
  says_answer (Err Network) h = rw (h.0, h.1)
  says_answer (Err State) h = rw (h.0, h.1, h.2)
  says_answer (Err Area) h = answer_is (on_net N a m) (call_of net a m h.0) ∙ rw (h.0.formed, area_not h.1)
  says_answer (Err Done) h = answer_is (on_net N a m) (call_of net a m h.0) ∙ rw (h.0.formed, area_is h.1, le-leb (steps N.head) (count_of m.records a) h.2)
  says_answer (Err (Wait b)) h = on_next_lem h.0 ∙ rw (row_late b h.1, h.1.number)
  says_answer (Err (Floating zero)) h = absurd (omega (arith, h.1.node.low))
  says_answer (Err (Floating (suc n))) h = on_step h.0 _ (solve14 N a k bs n (floats_search N (ok h.0).net a k m.records ears (suc n) h.1))
  says_answer (Err (Range zero)) h = absurd (omega (arith, h.2.node, free_over h.2.place h.2.inside))
  says_answer (Err (Range (suc n))) h = on_step h.0 _ (solve15 N a k bs n (paths_lone N a m (ok h.0) h.1) (out_outside N a m (ok h.0) (suc n) h.2))
  says_answer (Err (Unbalanced zero)) h = absurd (omega (arith, h.3.node.low))
  says_answer (Err (Unbalanced (suc n))) h =
      on_step h.0 _ (solve16 N a k bs n (paths_lone N a m (ok h.0) h.1) (all_inside N a m (ok h.0) h.2) (tips_heavy N a m (ok h.0) (suc n) h.3))
  says_answer (Err (History b)) h =
      on_step h.0 _ (solve17 N a k bs h.4.row (paths_lone N a m (ok h.0) h.1) (all_inside N a m (ok h.0) h.2) (all_even N a m (ok h.0) h.3) (first_large N a m (ok h.0) b h.4))
      ∙ ap exceeding (sym h.4.number)
  says_answer (Ok x) h =
      on_step h.0 _ (solve0 N a k bs (paths_lone N a m (ok h.0) h.2) (all_inside N a m (ok h.0) h.3) (all_even N a m (ok h.0) h.4) (all_small N a m (ok h.0) h.5))
      ∙ ap Ok (sym h.1)

  -- T-exact
  pub exactly : (x : Advance) → ((advance_of net a m).answer ≡ x) ↔ Says net a m x
  exactly x = (λ e. subst (Says net a m) e told, says_answer x)
