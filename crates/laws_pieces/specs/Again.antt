-- T-again: what a call answers after one that a refused area stopped. Nothing is undone: where area 1 was refused all areas stand where the last full step
-- left them, and the same is answered again; else some have taken a step more than others, which is refused by 10. Assumes nothing.
use Rattle.std.specs.Prelude.{Ok, Err}
use Rattle.std.specs.Prelude.{◌+◌, ◌-◌, ◌≤◌, ◌<◌, ◌≡◌, ◌≢◌, ◌||◌, ◌++◌}
use Rattle.whole.specs.Plain.{ℕ, suc, refl, sym, ap, subst, ◌∙◌, Bool, true, false, cond, not, List, [], ltb}
use Rattle.whole.specs.Plain.{le-leb, dec_le, arith, Words, not-false}
use Rattle.paper.specs.declared.Refusal as Paper
use Rattle.paper.specs.declared.Pause.TheVariants.{Stopped}
use Rattle.paper.specs.declared.Unlisted.TheVariants.{Network, Store, State}
use Rattle.whole.specs.Turns.{turns, turns_more, turns_done}
use Rattle.whole.specs.Folds.{or_left, or_right}
use Rattle.paper.specs.Limits as Limits
use Rattle.paper.specs.Rows.{steps}
use Rattle.paper.specs.Network.{is_network}
use Rattle.paper.specs.Areas.{Net, area_count}
use Rattle.paper.specs.Records.{well_formed}
use Rattle.paper.specs.Answers.{accepted}
use Rattle.paper.specs.Advance.{Memory, fits, advance_of}
use Rattle.paper.specs.Listing.{stop_line}
use Rattle.paper.proofs.Kept.{advance_refused}
use Rattle.paper.specs.Pieces.{Listed, listed, writing, ended, area_piece, full_step, step_piece, turn_piece, closing, steps_taken, level, piece_of, on_level, list_of}
use Rattle.laws_facts.specs.Nets.{net_in}
use Rattle.laws_local.specs.Outcome.{StepRefusal}
use Rattle.laws_demands.specs.Judged.{fits_long}
use Rattle.laws_pieces.specs.Level.{Partway, Level, level_counts, step_refused}
use Rattle.laws_pieces.specs.Steps.{run_ended, Refusal}
use Rattle.laws_pieces.specs.Calls.{turns_ended, Over, all_done, refused, more, whole, ends}
use Rattle.laws_pieces.specs.Whole.{some_stand, list_by, list_is}

-- after l, whose last line is the stop line of area a, which was refused by 14 to 17
pub record Again (net : Words) (l : Listed) (a : ℕ) (x : Paper.Refusal) : Type 0 where
  pub step : ℕ
  pub lines : List ℕ
  pub refusal : StepRefusal (Err x)
  pub last : l.written ≡ lines ++ stop_line step a x
  pub same : a ≡ 1 → (room : ℕ) → Limits.step_bytes ≤ room → list_of net l.after room ≡ listed (Ok (Stopped a x)) (stop_line step a x) l.after
  pub apart : a ≢ 1 → (room : ℕ) → Limits.step_bytes ≤ room → list_of net l.after room ≡ listed (Err State) [] l.after

-- area 1 has its turn first
first_refused : (net : Words) (N : Net) (k : ℕ) (m : Memory) {x : Paper.Refusal} → 1 ≤ area_count N → (advance_of net 1 m).answer ≡ Err x
    → step_piece net N k (writing m []) ≡ ended (listed (Ok (Stopped 1 x)) (stop_line k 1 x) m)
unfolding step_piece full_step turns area_piece
first_refused net N k m {x} h b =
    let n = suc (area_count N) in
    let l = listed (Ok (Stopped 1 x)) (stop_line k 1 x) (advance_of net 1 m).after in
    let t : area_piece net k 1 (writing m []) ≡ ended l = rw b in
    ap (full_step N k) (turns_more 1 n (area_piece net k) (writing m []) (omega arith) ∙ ap (turns 2 n (area_piece net k)) t ∙ run_ended (area_piece net k) (λ j y. refl) (n - 2) 2 l)
    ∙ rw (advance_refused net 1 m (ap accepted b))

module _ (net : Words) (network : is_network net ≡ true) {k : ℕ} (left : k < steps (net_in net).head) where
  abbrev N : Net
  N = net_in net

  -- nothing has moved since the last full step
  same_again : {m : Memory} {x : Paper.Refusal} → Partway net network k 1 m → 1 ≤ area_count N → (advance_of net 1 m).answer ≡ Err x → (room : ℕ) → Limits.step_bytes ≤ room
      → list_of net m room ≡ listed (Ok (Stopped 1 x)) (stop_line (suc k) 1 x) m
  unfolding piece_of turn_piece closing
  same_again {m} {x} p some b room h =
      let v : Level net network k m = record { inv = p.inv; counts = λ c o q. p.left c o o q } in
      let e = some_stand net network k m some v in
      let l = listed (Ok (Stopped 1 x)) (stop_line (suc k) 1 x) m in
      let n = suc (steps N.head) in
      let t : turn_piece net N room (suc k) (writing m []) ≡ ended l = rw (le-leb Limits.step_bytes room h) (first_refused net N (suc k) m some b) in
      list_is net network k m room v e h
      ∙ rw e (ap (closing N) (turns_more (suc k) n (turn_piece net N room) (writing m []) (omega arith) ∙ ap (turns (suc k + 1) n (turn_piece net N room)) t ∙ turns_ended net N room (suc k + 1) n l))

  -- area 1 has taken a step more than area a
  not_level : {a : ℕ} {m : Memory} → Partway net network k a m → 2 ≤ a → a ≤ area_count N → level N m.records ≡ false
  not_level {a} {m} p two most =
      elim (level N m.records) as (λ b. level N m.records ≡ b → b ≡ false) [
        | true ↦ λ e. absurd (omega (
          arith,
          p.past 1 (omega arith) (omega arith) (omega arith),
          p.left a (omega arith) (omega arith) most,
          level_counts net network m.records e 1 (omega arith) (omega arith),
          level_counts net network m.records e a (omega arith) most,
        ))
        | false ↦ λ e. refl
      ] refl

  again : {lines : List ℕ} {l : Listed} (r : Refusal net network k left lines l) → Again net l r.area r.why
  again {lines} {l} r =
      let x = r.why in
      let e : l ≡ listed (Ok (Stopped r.area x)) (lines ++ stop_line (suc k) r.area x) r.now =
      r.is ∙ ap (λ (m : Memory). listed (Ok (Stopped r.area x)) (lines ++ stop_line (suc k) r.area x) m) (advance_refused net r.area r.now (ap accepted r.refused)) in
      rw e
      (record {
        step = suc k;
        lines = lines;
        refusal = subst StepRefusal r.refused (step_refused net network k r.area r.now r.part r.least r.most left (ap accepted r.refused));
        last = refl;
        same = λ o room h. rw o (same_again (rw o at r.part) (omega (arith, r.least, r.most)) (rw o at r.refused) room h);
        apart = λ o room h. list_by net network false r.now room r.part.inv h (not_level r.part (omega (arith, r.least)) r.most);
      })

-- 9, 8, 10 did not apply
passed : (m : Memory) {a : ℕ} {x : Paper.Refusal} (p q s : Bool) (l : Listed) → (cond p (listed (Err Store) [] m) (cond q (listed (Err Network) [] m) (cond s (listed (Err State) [] m) l))).answer ≡ Ok (Stopped a x)
    → (p ≡ false) × ((q ≡ false) × (s ≡ false))
passed m true q s l e = let z : ◌≡◌ {A = ℕ} 0 1 = cc in absurd (omega arith)
passed m false true s l e = let z : ◌≡◌ {A = ℕ} 0 1 = cc in absurd (omega arith)
passed m false false true l e = let z : ◌≡◌ {A = ℕ} 0 1 = cc in absurd (omega arith)
passed m false false false l e = (refl, (refl, refl))

module _ (net : Words) (m : Memory) (room : ℕ) {a : ℕ} {x : Paper.Refusal} (stops : (list_of net m room).answer ≡ Ok (Stopped a x)) where
  abbrev N' : Net
  N' = net_in net

  abbrev good : Bool
  good = well_formed N' m.records m.froms m.tos

  door : ((not (fits net m) || ltb room Limits.step_bytes) ≡ false) × ((not (is_network net) ≡ false) × ((not good || not (level N' m.records)) ≡ false))
  unfolding list_of on_level
  door = passed m _ _ _ (piece_of net N' m room) stops

  network : is_network net ≡ true
  network = not-false (is_network net) door.1.0

  here : Level net network (steps_taken N' m.records) m
  here =
      record {
        inv = record { long = fits_long net m (not-false (fits net m) (or_left (not (fits net m)) (ltb room Limits.step_bytes) door.0)); good = not-false good (or_left (not good) (not (level N' m.records)) door.1.1) };
        counts = level_counts net network m.records (not-false (level N' m.records) (or_right (not good) (not (level N' m.records)) door.1.1));
      }

  piece_is : list_of net m room ≡ piece_of net N' m room
  unfolding list_of on_level
  piece_is = rw (door.0, door.1.0, door.1.1)

  over : {l : Listed} → l.answer ≡ Ok (Stopped a x) → Over net network l → Again net l a x
  over e (all_done q) = let z : ◌≡◌ {A = ℕ} 0 1 = cc in absurd (omega arith)
  over {l} e (refused k left lines r) =
      let q : (Ok (Stopped r.area r.why)) ≡ (Ok (Stopped a x)) = sym (ap (λ (y : Listed). y.answer) r.is) ∙ e in
      let s : r.area ≡ a = cc in
      let t : r.why ≡ x = cc in
      rw (← s, ← t) (again net network left r)

  pub after_stop : Again net (list_of net m room) a x
  unfolding piece_of closing
  after_stop =
      let k = steps_taken N' m.records in
      let s : (piece_of net N' m room).answer ≡ (Ok (Stopped a x)) = rw piece_is at stops in
      rw piece_is (elim (dec_le k (steps N'.head)) [
        | yes h ↦ elim (ends net network room (steps N'.head - k) k m [] (omega arith) here) [
          | more k' e v i j u w ↦ let z : ◌≡◌ {A = ℕ} 0 1 = cc in absurd (omega arith)
          | whole o w ↦ over s o
        ]
        | no h ↦ over s (all_done (rw (turns_done (suc k) (suc (steps N'.head)) (turn_piece net N' room) (writing m []) (omega arith))))
      ])
