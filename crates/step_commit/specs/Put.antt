-- What an end of an area's puts into the records, at its turn, is what the paper's step writes there. Assumes nothing.
use Rattle.std.specs.Prelude.{◌+◌, ◌*◌, ◌/◌, ◌%◌, ◌≤◌, ◌<◌, ◌≡◌, ◌≢◌, ◌&&◌, ◌||◌}
use Rattle.whole.specs.Plain.{ℕ, sym, ap, ◌∙◌, subst, Bool, true, false, cond, not, List, eqb, ℤ}
use Rattle.whole.specs.Plain.{pos, lt_z, length, set, length-set, get_or-set_same, ℕ_discrete, arith, Words, z, word, numbers, fold}
use Rattle.whole.specs.Folds.{and_left, both, fold_keeps}
use Rattle.whole.specs.Members.{Among, Kept, among_keep, keep_among, among_numbers, numbers_among}
use Rattle.paper.specs.Limits as Limits
use Rattle.paper.specs.Rows.{kind, is_line, is_breaker, is_l, is_c}
use Rattle.paper.specs.Areas.{Net, area_count}
use Rattle.paper.specs.Records.{current_at, to_current_at, history_at, latch_at}
use Rattle.paper.specs.Latch as Latch
use Rattle.paper.specs.Legs.{Branch, Heard, legs_by, legs_of, heard, current, echo, passed_on}
use Rattle.paper.specs.Advance.{put_if, new_records}
use Rattle.laws_facts.specs.Nets.{row_at}
use Rattle.laws_local.specs.Sound.{Sound}
use Rattle.laws_local.specs.Puts.{put_length, put_other, put_same, put_with}
use Rattle.laws_local.specs.Written.{current_put, to_put, history_put}
use Rattle.plan_ends.specs.Own.{row_of_end, side_of_end, own_end, own_ends}
use Rattle.plan_rows.specs.Planned.{Plan, Planned}
use Rattle.step_legs.specs.declared.Wire.{Wire}
use Rattle.step_legs.specs.Wires.{leg_of}
use Rattle.step_own.specs.Ends.{wire_of, end_leg}
use Rattle.step_own.specs.EndLegs.{from_leg, to_leg}
use Rattle.step_own.specs.Branches.{from_own, to_own}
use Rattle.step_flow.specs.Flown.{passed_by, flown}
use Rattle.step_latch.specs.Parting.{leg_parts, latch_put, parts_paper}
use Rattle.step_records.specs.Records.{leg_put}
use Rattle.step_commit.specs.Reached.{fold_keep, fold_reach}
use Rattle.step_commit.specs.Ends.{found, from_end, to_end, from_puts, to_puts}

-- step k of area a, which came to the voltages v: the records and line stores that it found, and the plan of the network's rows
pub record Writing (N : Net) (a k : ℕ) (recs froms tos v : Words) (plan : Plan) : Type 0 where
  pub one : 1 ≤ a
  pub most : a ≤ area_count N
  pub sound : Sound N
  pub long : length recs ≡ Limits.record_words
  pub planned : Planned N plan

module _ {N : Net} {a k : ℕ} {recs froms tos v : Words} {plan : Plan} (W : Writing N a k recs froms tos v plan) where
  open W use {one, sound as snd, long, planned}

  abbrev pub ears : List Heard
  ears = heard N a k froms tos

  abbrev bs : List Branch
  bs = legs_of N a k recs ears

  abbrev pub after : Words
  after = new_records N a k bs v recs

  -- a word that stands as the paper's step leaves it
  abbrev pub Right : ℕ → Words → Type 0
  Right j w = word w j ≡ word after j

  abbrev pub Long : Words → Type 0
  Long w = length w ≡ length recs

  -- an end's turn
  abbrev pub put : ℕ → Words → Words
  put e x = found (leg_put plan k) v (wire_of N k recs froms tos e) x

  abbrev by : ℕ → Branch
  by = legs_by N a k recs ears

  -- ---- what a row's from end puts: the latch of an SW that parts, the current, a history; and its to end: a line's current there

  abbrev pub now_at : ℕ → ℤ
  now_at i = current v (leg_of (wire_of N k recs froms tos (2 * i)))

  abbrev pub parting : ℕ → Words → Bool
  parting i x = is_breaker (row_at N i) && (not (lt_z z (word x (latch_at i))) && Latch.parts k (row_at N i) (word x (current_at i)) (now_at i))

  abbrev pub latched : ℕ → Words → Words
  latched i x = put_if (parting i x) x (latch_at i) (pos k)

  pub from_is : (i : ℕ) → i < length N.rows → (x : Words)
      → put (2 * i) x ≡ put_if (is_l (row_at N i) || is_c (row_at N i)) (set (latched i x) (current_at i) (now_at i)) (history_at i) (passed_on v (row_at N i) (leg_of (wire_of N k recs froms tos (2 * i))))
  from_is i h x = from_puts plan k v x (from_end N k recs froms tos i) ∙ rw (planned.row i h, parts_paper N i k (word x (current_at i)) (now_at i) (word x (latch_at i)))

  pub to_is : (i : ℕ) (x : Words) → put (2 * i + 1) x ≡ put_if (is_line (row_at N i)) x (to_current_at i) (current v (leg_of (wire_of N k recs froms tos (2 * i + 1))))
  to_is i x = to_puts plan k v x (to_end N k recs froms tos i)

  module _ (i : ℕ) (h : i < length N.rows) where
    module _ (o : own_end N a (2 * i) ≡ true) where
      pub from_wire : leg_of (wire_of N k recs froms tos (2 * i)) ≡ (by i).is_from_end.wire
      unfolding end_leg
      from_wire = rw o at (from_leg N a k recs froms tos i h one)

      from_owned : (by i).is_from_end.own ≡ true
      unfolding own_end
      from_owned =
          let e : 2 * i / 2 ≡ i = omega arith in
          let f : 1 + 2 * i % 2 ≡ 1 = omega arith in
          from_own N a k recs ears i one ∙ (rw (e, f) at o)

      pub current_right : current v (leg_of (wire_of N k recs froms tos (2 * i))) ≡ word after (current_at i)
      current_right = ap (current v) from_wire ∙ sym (current_put N a k recs ears v snd recs long i h from_owned)

      history_right : is_l (row_at N i) || is_c (row_at N i) ≡ true → passed_on v (row_at N i) (leg_of (wire_of N k recs froms tos (2 * i))) ≡ word after (history_at i)
      history_right c = ap (passed_on v (row_at N i)) from_wire ∙ sym (history_put N a k recs ears v snd recs long i h (both c from_owned))

      from_keeps : (j : ℕ) (x : Words) → (is_breaker (row_at N i) ≡ true → latch_at i ≢ j) → Right j x → Right j (put (2 * i) x)
      unfolding put_if
      from_keeps j x d p =
          rw (from_is i h x)
          (put_with (λ (y : ℤ). y ≡ word after j) (is_l (row_at N i) || is_c (row_at N i)) _ (history_at i) j _
          (put_with (λ (y : ℤ). y ≡ word after j) true (latched i x) (current_at i) j _
          (put_other (parting i x) x (latch_at i) j (pos k) (λ b e. d (and_left (is_breaker (row_at N i)) _ b) (sym e)) ∙ p) (λ _ q. current_right ∙ ap (word after) q))
          (λ c q. history_right c ∙ ap (word after) q))

      pub current_reached : (x : Words) → Long x → Right (current_at i) (put (2 * i) x)
      current_reached x n =
          rw (from_is i h x)
          (put_other (is_l (row_at N i) || is_c (row_at N i)) _ (history_at i) (current_at i) _ (λ _ e. omega (arith, snd.rows))
          ∙ get_or-set_same (latched i x) (current_at i) _ z (omega (arith, put_length (parting i x) x (latch_at i) (pos k), snd.rows)) ∙ current_right)

      pub history_reached : (x : Words) → is_l (row_at N i) || is_c (row_at N i) ≡ true → Long x → Right (history_at i) (put (2 * i) x)
      history_reached x c n =
          rw (from_is i h x)
          (put_same (is_l (row_at N i) || is_c (row_at N i)) _ (history_at i) _ c (omega (arith, length-set (latched i x) (current_at i) (now_at i), put_length (parting i x) x (latch_at i) (pos k), snd.rows)) ∙ history_right c)

    module _ (o : own_end N a (2 * i + 1) ≡ true) where
      to_right : is_line (row_at N i) ≡ true → current v (leg_of (wire_of N k recs froms tos (2 * i + 1))) ≡ word after (to_current_at i)
      unfolding end_leg own_end
      to_right c =
          let e : (2 * i + 1) / 2 ≡ i = omega arith in
          let f : 1 + (2 * i + 1) % 2 ≡ 2 = omega arith in
          let q : (by i).is_to_end.own ≡ true = to_own N a k recs ears i one ∙ (rw (e, f) at o) in
          ap (current v) (rw o at (to_leg N a k recs froms tos i h one)) ∙ sym (to_put N a k recs ears v snd recs long i h (both c q))

      to_keeps : (j : ℕ) (x : Words) → Right j x → Right j (put (2 * i + 1) x)
      to_keeps j x p = rw (to_is i x) (put_with (λ (y : ℤ). y ≡ word after j) (is_line (row_at N i)) x (to_current_at i) j _ p (λ c q. to_right c ∙ ap (word after) q))

      pub to_reached : (x : Words) → is_line (row_at N i) ≡ true → Long x → Right (to_current_at i) (put (2 * i + 1) x)
      to_reached x c n = rw (to_is i x) (put_same (is_line (row_at N i)) x (to_current_at i) _ c (omega (arith, snd.rows)) ∙ to_right c)

  -- ---- the turns of an area's ends

  -- a word that is no latch of the area's
  abbrev pub Unlatched : ℕ → Type 0
  Unlatched j = (i : ℕ) → i < length N.rows → is_breaker (row_at N i) ≡ true → own_end N a (2 * i) ≡ true → latch_at i ≢ j

  end_keeps : (j : ℕ) → Unlatched j → (x : Words) (e : ℕ) → Among e (own_ends N a) → Right j x → Right j (put e x)
  unfolding own_ends
  end_keeps j d x e m p = go (ℕ_discrete (e % 2) 0)
    where
      c : Kept (own_end N a) (numbers 0 (2 * length N.rows)) e
      c = keep_among (own_end N a) (numbers 0 (2 * length N.rows)) m

      inside : e / 2 < length N.rows
      inside = omega (arith, (numbers_among 0 (2 * length N.rows) c.among).1)

      go : Dec (e % 2 ≡ 0) → Right j (put e x)
      go (yes q) = let f : e ≡ 2 * (e / 2) = omega arith in subst (λ (n : ℕ). own_end N a n ≡ true → Right j (put n x)) (sym f) (λ o. from_keeps (e / 2) inside o j x (λ b. d (e / 2) inside b o) p) c.passes
      go (no q) = let f : e ≡ 2 * (e / 2) + 1 = omega arith in subst (λ (n : ℕ). own_end N a n ≡ true → Right j (put n x)) (sym f) (λ o. to_keeps (e / 2) inside o j x p) c.passes

  pub end_among : (e : ℕ) → e < 2 * length N.rows → own_end N a e ≡ true → Among e (own_ends N a)
  unfolding own_ends
  end_among e h o = among_keep (own_end N a) (numbers 0 (2 * length N.rows)) (among_numbers 0 (2 * length N.rows) (omega arith) (omega arith)) o

  pub put_long : (x : Words) (e : ℕ) → Long x → Long (put e x)
  unfolding leg_put latch_put flown
  put_long x e n = go (eqb (side_of_end e) 1)
    where
      w : Wire
      w = wire_of N k recs froms tos e

      now : ℤ
      now = current v (leg_of w)

      go : (b : Bool) → Long (cond b (put_if (eqb (kind (row_of_end N e)) 2 || eqb (kind (row_of_end N e)) 3) (set (put_if (leg_parts plan k (flown v w) x) x (latch_at (e / 2)) (pos k)) (current_at (e / 2)) now) (history_at (e / 2)) (passed_by (kind (row_of_end N e)) (echo v (leg_of w))))
          (put_if (eqb (kind (row_of_end N e)) 4) x (to_current_at (e / 2)) now))
      go true = simp (put_length, length-set) n
      go false = simp put_length n

  -- all of them, one after the other
  abbrev pub ends : Words → Words
  ends x = fold (λ x e. put e x) x (own_ends N a)

  pub ends_long : (x : Words) → Long x → Long (ends x)
  ends_long x n = fold_keeps Long (λ x e. put e x) put_long x (own_ends N a) n

  pub ends_keep : (j : ℕ) → Unlatched j → (x : Words) → Right j x → Right j (ends x)
  ends_keep j d x p = fold_keep (λ x e. put e x) (Right j) (own_ends N a) (λ x e m q. end_keeps j d x e m q) x p

  pub ends_reach : (e j : ℕ) → e < 2 * length N.rows → Unlatched j → own_end N a e ≡ true → ((x : Words) → Long x → Right j (put e x)) → (x : Words) → Long x → Right j (ends x)
  ends_reach e j h d o r x n = fold_reach (λ x e. put e x) (Right j) Long put_long (own_ends N a) (end_among e h o) (λ x n m q. end_keeps j d x n m q) r x n
