-- 17 HISTORY: "a next history or sent value beyond 10^17": the row that the step's search finds. Assumes nothing.
use Rattle.std.specs.Prelude.{◌<◌, ◌≡◌, ◌⊎◌, ◌&&◌, ◌||◌, ◌+ℤ◌, ◌-ℤ◌, ◌*ℤ◌}
use Rattle.whole.specs.Plain.{ℕ, suc, refl, sym, ap, ◌∙◌, inl, inr, Bool, true, false, cond}
use Rattle.whole.specs.Plain.{not, and-false, true≢false, [], eqb, leb, ℤ, pos, neg_ℤ, nat_abs}
use Rattle.whole.specs.Plain.{zero-*ℤ, length, get_or, ne_eqb, leb-false, lt-leb, ℕ_discrete, arith, Words, z, word}
use Rattle.whole.specs.Plain.{up_to}
use Rattle.whole.specs.Folds.{both}
use Rattle.whole.specs.Int.{ring_laws, abs_neg}
use Rattle.whole.specs.Places.{place_none, none_place, place_least, least_place}
use Rattle.paper.specs.Limits as Limits
use Rattle.paper.specs.Rows.{Row, is_branch, is_l, is_c, is_line, from, to}
use Rattle.paper.specs.Areas.{Net, area_of, row_area, branch_number}
use Rattle.paper.specs.Records.{history_at}
use Rattle.paper.specs.Legs.{Leg, leg, idle, End, other_end, Branch, branch, conducts, plain_legs, through, current, echo, passed_on}
use Rattle.paper.specs.Solve.{beyond}
use Rattle.paper.specs.Advance.{Memory, written}
use Rattle.laws_facts.specs.Nets.{row_at}
use Rattle.laws_local.specs.Sound.{Sound}
use Rattle.laws_local.specs.Own.{row_is, legs_length, branch_is, line_no, keeper}
use Rattle.laws_local.specs.Written.{history_put}
use Rattle.laws_local.specs.Slots.{sent_put}
use Rattle.laws_local.specs.Outcome.{legs_now, large}
use Rattle.laws_stays.proofs.Sizes.{beyond_place}
use Rattle.laws_demands.specs.Said.{history, from_sent, to_sent, offer}
use Rattle.laws_demands.specs.Judged.{Asked}
use Rattle.laws_demands.specs.Branches.{now, snd, from_leg, to_leg, from_else, to_else, plain_legs_lem, row_else}

-- what row i would pass on is beyond the end: the next history of an L or C of the area, or what one of its own line ends would send
pub data Exceeds (N : Net) (a k : ℕ) (m : Memory) (i : ℕ) : Type 0 where
  keeps : is_l (row_at N i) || is_c (row_at N i) ≡ true → row_area N (row_at N i) ≡ a → Limits.history_end < nat_abs (history (offer N a m) i) → Exceeds N a k m i
  from_sends : is_line (row_at N i) ≡ true → area_of N (from (row_at N i)) ≡ a → Limits.history_end < nat_abs (from_sent N (offer N a m) i k) → Exceeds N a k m i
  to_sends : is_line (row_at N i) ≡ true → area_of N (to (row_at N i)) ≡ a → Limits.history_end < nat_abs (to_sent N (offer N a m) i k) → Exceeds N a k m i

-- b is the number of the first such branch in table order
pub record FirstExceeds (N : Net) (a k : ℕ) (m : Memory) (b : ℕ) : Type 0 where
  pub row : ℕ
  pub there : row < length N.rows
  pub exceeds : Exceeds N a k m row
  pub first : (i : ℕ) → i < row → Exceeds N a k m i → ⊥
  pub number : b ≡ branch_number N (suc row)

abbrev pub AllWithin : Net → ℕ → ℕ → Memory → Type 0
AllWithin N a k m = (i : ℕ) → i < length N.rows → Exceeds N a k m i → ⊥

-- ---- an idle leg passes nothing on, and the to leg of an R, L, C or SW as much as its from leg

idle_passes : (v : Words) (r : Row) → passed_on v r idle ≡ z
unfolding passed_on echo current through
idle_passes v r = rw (zero-*ℤ (word v 0 -ℤ word v 0)) (go (is_l r) (is_c r || is_line r))
  where
    go : (x y : Bool) → cond x z (cond y z z) ≡ z
    go true y = refl
    go false true = refl
    go false false = refl

turned : (g : ℕ) (f t h : ℤ) → (pos g *ℤ (t -ℤ f) +ℤ neg_ℤ h) +ℤ pos g *ℤ (t -ℤ f) ≡ neg_ℤ ((pos g *ℤ (f -ℤ t) +ℤ h) +ℤ pos g *ℤ (f -ℤ t))
turned g f t h = simp ring_laws

turned_size : (v : Words) (r : Row) (f t g : ℕ) (h : ℤ) → nat_abs (passed_on v r (leg t f g (neg_ℤ h))) ≡ nat_abs (passed_on v r (leg f t g h))
unfolding passed_on echo current through
turned_size v r f t g h = rw (turned g (word v f) (word v t) h) (go (is_l r) (is_c r || is_line r) _)
  where
    go : (x y : Bool) (e : ℤ) → nat_abs (cond x (neg_ℤ e) (cond y (neg_ℤ (neg_ℤ e)) z)) ≡ nat_abs (cond x e (cond y (neg_ℤ e) z))
    go true y e = abs_neg e
    go false true e = abs_neg (neg_ℤ e)
    go false false e = refl

-- an R or SW passes nothing on
none_passes : (v : Words) (r : Row) (l : Leg) → is_l r || is_c r ≡ false → is_line r ≡ false → passed_on v r l ≡ z
unfolding passed_on
none_passes v r l e f = go (is_l r) (is_c r) (is_line r) e f
  where
    go : (x y t : Bool) → x || y ≡ false → t ≡ false → cond x (echo v l) (cond (y || t) (neg_ℤ (echo v l)) z) ≡ z
    go true y t p q = absurd (true≢false p)
    go false true t p q = absurd (true≢false p)
    go false false true p q = absurd (true≢false q)
    go false false false p q = refl

over : (A B : ℤ) → not (up_to Limits.history_end A && up_to Limits.history_end B) ≡ true → (Limits.history_end < nat_abs A) ⊎ (Limits.history_end < nat_abs B)
unfolding up_to
over A B e = go (leb (nat_abs A) Limits.history_end) (leb (nat_abs B) Limits.history_end) refl refl e
  where
    go : (x y : Bool) → leb (nat_abs A) Limits.history_end ≡ x → leb (nat_abs B) Limits.history_end ≡ y → not (x && y) ≡ true → (Limits.history_end < nat_abs A) ⊎ (Limits.history_end < nat_abs B)
    go true true p q f = absurd (true≢false (sym f))
    go true false p q f = inr (leb-false _ _ q)
    go false y p q f = inl (leb-false _ _ p)

over_left : (A B : ℤ) → Limits.history_end < nat_abs A → not (up_to Limits.history_end A && up_to Limits.history_end B) ≡ true
unfolding up_to
over_left A B h = rw (lt-leb (nat_abs A) Limits.history_end h)

over_right : (A B : ℤ) → Limits.history_end < nat_abs B → not (up_to Limits.history_end A && up_to Limits.history_end B) ≡ true
unfolding up_to
over_right A B h = rw (lt-leb (nat_abs B) Limits.history_end h) (ap not (and-false (leb (nat_abs A) Limits.history_end)))

not_zero : (x : ℤ) → x ≡ z → Limits.history_end < nat_abs x → ⊥
not_zero x e h = let q : nat_abs x ≡ 0 = ap nat_abs e in omega arith

module _ (N : Net) (a : ℕ) (m : Memory) (ok : Asked N a m) where
  open now N a m use {k, ears, v, by}

  abbrev n : Memory
  n = offer N a m

  f : Sound N
  f = snd N a m ok

  module _ (i : ℕ) (there : i < length N.rows) where
    abbrev r : Row
    r = row_at N i

    abbrev A : ℤ
    A = passed_on v r (by i).is_from_end.wire

    abbrev B : ℤ
    B = passed_on v r (by i).is_to_end.wire

    -- ---- a LINE
    from_is : is_line r ≡ true → area_of N (from r) ≡ a → A ≡ from_sent N n i k
    unfolding written
    from_is l e =
        sym (sent_put N a k m.records ears v (λ b. b.is_from_end) f m.froms (rw ok.long.froms f.slots) i there (both l (ap (λ (x : End). x.own) (from_leg N a k m.records ears i l e))))

    to_is : is_line r ≡ true → area_of N (to r) ≡ a → B ≡ to_sent N n i k
    unfolding written
    to_is l e =
        sym (sent_put N a k m.records ears v (λ b. b.is_to_end) f m.tos (rw ok.long.tos f.slots) i there (both l (ap (λ (x : End). x.own) (to_leg N a k m.records ears i l e))))

    from_not : is_line r ≡ true → (area_of N (from r) ≡ a → ⊥) → A ≡ z
    from_not l d = ap (λ (x : End). passed_on v r x.wire) (from_else N a k m.records ears i l d) ∙ idle_passes v r

    to_not : is_line r ≡ true → (area_of N (to r) ≡ a → ⊥) → B ≡ z
    to_not l d = ap (λ (x : End). passed_on v r x.wire) (to_else N a k m.records ears i l d) ∙ idle_passes v r

    -- ---- an R, L, C or SW
    module _ (l : is_line r ≡ false) (b : is_branch r ≡ true) (mine : row_area N r ≡ a) where
      abbrev wire : Leg
      wire = leg (from r) (to r) (conducts N m.records k i) (word m.records (history_at i))

      own_is : by i ≡ plain_legs r (conducts N m.records k i) (word m.records (history_at i))
      own_is = plain_legs_lem N a k m.records ears i l b mine

      A-is : A ≡ passed_on v r wire
      unfolding plain_legs
      A-is = ap (λ (x : Branch). passed_on v r x.is_from_end.wire) own_is

      B-size : nat_abs B ≡ nat_abs A
      unfolding plain_legs
      B-size =
          ap (λ (x : Branch). nat_abs (passed_on v r x.is_to_end.wire)) own_is
          ∙ turned_size v r (from r) (to r) (conducts N m.records k i) (word m.records (history_at i)) ∙ sym (ap nat_abs A-is)

      B-none : is_l r || is_c r ≡ false → B ≡ z
      B-none e = none_passes v r (by i).is_to_end.wire e l

      kept_is : is_l r || is_c r ≡ true → A ≡ history n i
      unfolding written plain_legs
      kept_is e =
          sym (history_put N a k m.records ears v f m.records ok.long.records i there (both e (ap (λ (x : Branch). x.is_from_end.own) own_is)))

      none_kept : is_l r || is_c r ≡ false → A ≡ z
      none_kept e = none_passes v r (by i).is_from_end.wire e l

    -- ---- a source, or a row of another area
    idle_both : is_line r ≡ false → is_branch r && eqb (row_area N r) a ≡ false → (A ≡ z) × (B ≡ z)
    idle_both l e =
        let is = row_else N a k m.records ears i l e in
        (ap (λ (x : Branch). passed_on v r x.is_from_end.wire) is ∙ idle_passes v r, ap (λ (x : Branch). passed_on v r x.is_to_end.wire) is ∙ idle_passes v r)

    exceeding : (Limits.history_end < nat_abs A) ⊎ (Limits.history_end < nat_abs B) → Exceeds N a k m i
    exceeding h = by_line (is_line r) refl
      where
        line_case : is_line r ≡ true → (Limits.history_end < nat_abs A) ⊎ (Limits.history_end < nat_abs B) → Dec (area_of N (from r) ≡ a) → Dec (area_of N (to r) ≡ a) → Exceeds N a k m i
        line_case l (inl h) (yes e) t = from_sends l e (rw (from_is l e) at h)
        line_case l (inl h) (no d) t = absurd (not_zero A (from_not l d) h)
        line_case l (inr h) x (yes e) = to_sends l e (rw (to_is l e) at h)
        line_case l (inr h) x (no d) = absurd (not_zero B (to_not l d) h)

        kept_case : is_line r ≡ false → is_branch r ≡ true → row_area N r ≡ a → (c : Bool) → is_l r || is_c r ≡ c → (Limits.history_end < nat_abs A) ⊎ (Limits.history_end < nat_abs B) → Exceeds N a k m i
        kept_case l b e true c (inl h) = keeps c e (rw (kept_is l b e c) at h)
        kept_case l b e true c (inr h) = keeps c e (rw (kept_is l b e c) at (rw (B-size l b e) at h))
        kept_case l b e false c (inl h) = absurd (not_zero A (none_kept l b e c) h)
        kept_case l b e false c (inr h) = absurd (not_zero B (B-none l b e c) h)

        else_case : (A ≡ z) × (B ≡ z) → (Limits.history_end < nat_abs A) ⊎ (Limits.history_end < nat_abs B) → Exceeds N a k m i
        else_case p (inl h) = absurd (not_zero A p.0 h)
        else_case p (inr h) = absurd (not_zero B p.1 h)

        by_branch : (y : Bool) → is_branch r ≡ y → Dec (row_area N r ≡ a) → is_line r ≡ false → Exceeds N a k m i
        by_branch true b (yes e) l = kept_case l b e (is_l r || is_c r) refl h
        by_branch true b (no d) l = else_case (idle_both l (rw (b, ne_eqb (row_area N r) a d))) h
        by_branch false b e l = else_case (idle_both l (rw b)) h

        by_line : (x : Bool) → is_line r ≡ x → Exceeds N a k m i
        by_line true l = line_case l h (ℕ_discrete (area_of N (from r)) a) (ℕ_discrete (area_of N (to r)) a)
        by_line false l = by_branch (is_branch r) refl (ℕ_discrete (row_area N r) a) l

    abbrev judged : Bool
    judged = not (up_to Limits.history_end A && up_to Limits.history_end B)

    exceeds_judged : Exceeds N a k m i → judged ≡ true
    exceeds_judged (keeps c e h) =
        let l : is_line r ≡ false = line_no r c in
        over_left A B (rw (kept_is l (keeper r c) e c) h)
    exceeds_judged (from_sends l e h) = over_left A B (rw (from_is l e) h)
    exceeds_judged (to_sends l e h) = over_right A B (rw (to_is l e) h)

    -- the search's test of row i
    beyond_is : beyond v (by i) ≡ judged
    unfolding beyond
    beyond_is = ap (λ (x : Row). not (up_to Limits.history_end (passed_on v x (by i).is_from_end.wire) && up_to Limits.history_end (passed_on v x (by i).is_to_end.wire))) (row_is N a k m.records ears i)

    beyond_exceeds : beyond v (by i) ≡ true → Exceeds N a k m i
    beyond_exceeds e = exceeding (over A B (sym beyond_is ∙ e))

    exceeds_beyond : Exceeds N a k m i → beyond v (by i) ≡ true
    exceeds_beyond e = beyond_is ∙ exceeds_judged e

  abbrev none : Branch
  none = branch [] other_end other_end

  in_legs : (i : ℕ) → i < length N.rows → i < length (legs_now N a m)
  in_legs i h = rw (legs_length N a k m.records ears) h

  at_legs : (i : ℕ) → i < length N.rows → beyond v (get_or (legs_now N a m) i none) ≡ beyond v (by i)
  at_legs i h = ap (beyond v) (branch_is N a k m.records ears i h)

  unbeyond : (i : ℕ) → i < length N.rows → (Exceeds N a k m i → ⊥) → beyond v (by i) ≡ false
  unbeyond i h e = go (beyond v (by i)) refl
    where
      go : (b : Bool) → beyond v (by i) ≡ b → b ≡ false
      go true q = absurd (e (beyond_exceeds i h q))
      go false q = refl

  pub large_first : (r b : ℕ) → large N a k (legs_now N a m) ≡ suc r → b ≡ branch_number N (suc r) → FirstExceeds N a k m b
  large_first r b e u =
      let q = place_least (beyond v) none 0 (legs_now N a m) r (sym (beyond_place v 0 (legs_now N a m)) ∙ e) in
      let h : q.0 < length N.rows = rw (legs_length N a k m.records ears) at q.2.inside in
      let same : q.0 ≡ r = omega (arith, q.1) in
      record {
        row = q.0;
        there = h;
        exceeds = beyond_exceeds q.0 h (sym (at_legs q.0 h) ∙ q.2.hit);
        first = λ i l x. true≢false (sym (exceeds_beyond i (omega arith) x) ∙ sym (at_legs i (omega arith)) ∙ q.2.before i l);
        number = u ∙ ap (λ (x : ℕ). branch_number N (suc x)) (sym same);
      }

  pub first_large : (b : ℕ) (h : FirstExceeds N a k m b) → large N a k (legs_now N a m) ≡ suc h.row
  first_large b h =
      beyond_place v 0 (legs_now N a m)
      ∙ least_place (beyond v) none 0 (legs_now N a m) h.row (record {
        inside = in_legs h.row h.there;
        hit = at_legs h.row h.there ∙ exceeds_beyond h.row h.there h.exceeds;
        before = λ i l. let u : i < length N.rows = omega (arith, h.there) in at_legs i u ∙ unbeyond i u (h.first i l);
      }) ∙ omega arith

  pub small_all : large N a k (legs_now N a m) ≡ 0 → AllWithin N a k m
  small_all e i h x =
      true≢false (sym (exceeds_beyond i h x) ∙ sym (at_legs i h) ∙ place_none (beyond v) none 0 (legs_now N a m) (sym (beyond_place v 0 (legs_now N a m)) ∙ e) i (in_legs i h))

  pub all_small : AllWithin N a k m → large N a k (legs_now N a m) ≡ 0
  all_small h =
      beyond_place v 0 (legs_now N a m)
      ∙ none_place (beyond v) none 0 (legs_now N a m) (λ i l. let u : i < length N.rows = rw (legs_length N a k m.records ears) at l in at_legs i u ∙ unbeyond i u (h i u))
