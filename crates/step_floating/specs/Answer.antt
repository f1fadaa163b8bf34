-- The search as it stands between two legs: what is marked is reached; what a leg could still reach, a visit still comes to. So nothing is where no
-- visit is left, and the answer is the paper's. Assumes nothing.
use Rattle.std.specs.Prelude.{◌+◌, ◌-◌, ◌*◌, ◌≤◌, ◌<◌, ◌≡◌, ◌⊎◌}
use Rattle.whole.specs.Plain.{ℕ, suc, refl, sym, ap, ◌∙◌, inl, inr, Bool, true, false, cond, not}
use Rattle.whole.specs.Plain.{false≢true, List, eqb, length, get_or, set, drop, length-set, get_or-set_same, get_or-set_other}
use Rattle.whole.specs.Plain.{eqb-true, eqb-false, eq-eqb, ne_eqb, mul-le-mul_right, ℕ_discrete, arith, first, replicate}
use Rattle.whole.specs.Upto.{any_default}
use Rattle.paper.specs.Legs.{Leg}
use Rattle.paper.specs.Spread.{Join, mark}
use Rattle.paper.specs.Floating.{reached, leg_join, marks}
use Rattle.paper.specs.Limits as Limits
use Rattle.laws_paths.specs.Paths.{In, Beside, Path, stay, hop, spread_sound, Linked}
use Rattle.laws_paths.specs.Meaning.{leg_joins, marks_length}
use Rattle.laws_paths.specs.Rounds.{Inside}
use Rattle.laws_paths.specs.Reached.{spread_complete}
use Rattle.step_legs.specs.declared.Wire.{Wire}
use Rattle.step_legs.specs.Wires.{leg_at, legs_in, Wires}
use Rattle.step_legs.specs.Leaving.{legs_length, leg_is}
use Rattle.step_legs.specs.Free.{Free, first_here}
use Rattle.step_floating.specs.Search.{seen, loose, reaches, meets, finds, reach, enlist, longer, unseen, Room}
use Rattle.step_floating.specs.Joins.{joins_all, leg_in}
use Rattle.step_floating.specs.Marks.{zero_any, zero_set, set_zero, marks_own, unseen_set, unseen_most}
use Rattle.step_floating.specs.Found.{Found, found_end, finds_found, finds_met, meets_found, reaches_other, reaches_not}

abbrev pub start : List ℕ → List ℕ
start free = marks (loose free) Limits.node_end

-- what the paper's rounds come to
abbrev pub goal : List Wire → List ℕ → List ℕ
goal legs free = reached (loose free) Limits.node_end (legs_in legs)

-- what is marked 0 at the start still is, and what is marked 0 now is in the end
pub record Marked (legs : List Wire) (free m : List ℕ) : Type 0 where
  pub long : length m ≡ suc Limits.node_end
  pub kept : (n : ℕ) → mark (start free) n ≡ 0 → get_or m n 0 ≡ 0
  pub right : (n : ℕ) → get_or m n 0 ≡ 0 → n ≤ Limits.node_end → mark (goal legs free) n ≡ 0

-- leg t is still gone over: in the visit of node n, which has come to leg j, or in that of a listed node
pub data Due (legs : List Wire) (list : List ℕ) (listed n j t : ℕ) : Type 0 where
  now : j ≤ t → meets (leg_at legs t) n ≡ true → Due legs list listed n j t
  later : (i : ℕ) → i < listed → meets (leg_at legs t) (get_or list i 0) ≡ true → Due legs list listed n j t

pub record State (legs : List Wire) (free m list : List ℕ) (listed n j : ℕ) : Type 0 where
  pub marked : Marked legs free m
  pub room : Room m listed
  pub places : length list ≡ suc Limits.node_end
  pub due : (t : ℕ) → t < length legs → (reaches (leg_at legs t) m ≡ 0 → ⊥) → Due legs list listed n j t

-- what is left of the search: a node that is not reached is yet to be listed and to be visited
abbrev pub left : ℕ → List ℕ → ℕ → ℕ → ℕ
left legs m listed j = (2 * unseen m + listed) * (legs + 1) + (legs - j)

-- ---- what the rounds come to
module _ {legs : List Wire} (w : Wires legs) (free : List ℕ) where
  legs_inside : Inside (leg_joins (legs_in legs)) (suc Limits.node_end)
  unfolding Inside
  legs_inside =
      joins_all (λ j. (j.one < suc Limits.node_end) × (j.two < suc Limits.node_end)) (legs_in legs)
      (λ t h c.
      let k : t < length legs = omega (arith, legs_length legs) in
      rw (leg_is legs t k) (omega (arith, (w.wired t k).near_end, (w.wired t k).far_end)))

  goal_linked : {n p : ℕ} → Linked (leg_joins (legs_in legs)) n p → mark (start free) p ≡ 0 → mark (goal legs free) n ≡ 0
  unfolding reached
  goal_linked {n} {p} v e =
      omega (arith, spread_complete (leg_joins (legs_in legs)) (start free) n p (rw marks_length legs_inside) (rw marks_length (omega arith)) v)

  goal_beside : {n p : ℕ} → Beside (leg_joins (legs_in legs)) n p → mark (goal legs free) p ≡ 0 → mark (goal legs free) n ≡ 0
  unfolding reached
  goal_beside {n} {p} b e =
      let s = spread_sound (leg_joins (legs_in legs)) (start free) p in
      goal_linked (record { joins = suc s.way.joins; path = hop b s.way.path }) (sym s.first ∙ e)

  pub state_start : State legs free (start free) (replicate (suc Limits.node_end) 0) 0 0 0
  unfolding meets
  state_start = record {
    marked = record {
      long = marks_length (loose free) Limits.node_end;
      kept = λ n e. zero_any (start free) n n e;
      right = λ n e h. goal_linked (record { joins = 0; path = stay }) (any_default (start free) n n 0 (rw marks_length (omega arith)) ∙ e);
    };
    room = record { own = marks_own free; room = omega (arith, unseen_most (start free), marks_length (loose free) Limits.node_end) };
    places = refl;
    due = λ t h r. now (omega arith) refl;
  }

-- ---- one leg
module _ {legs : List Wire} (w : Wires legs) {free m list : List ℕ} {listed n j : ℕ} (s : State legs free m list listed n j) (here : j < length legs) where
  abbrev l : Leg
  l = leg_at legs j

  abbrev x : ℕ
  x = finds l n m

  ends : (l.near ≤ Limits.node_end) × (l.far ≤ Limits.node_end)
  ends = let e = w.wired j here in (e.near_end, e.far_end)

  -- it reaches nothing
  due_none : x ≡ 0 → (t : ℕ) → t < length legs → (reaches (leg_at legs t) m ≡ 0 → ⊥) → Due legs list listed n (j + 1) t
  due_none e t h r = go (s.due t h r)
    where
      go : Due legs list listed n j t → Due legs list listed n (j + 1) t
      go (later i a b) = later i a b
      go (now a b) = elim (ℕ_discrete t j) [ yes q ↦ absurd (r (sym (finds_met (leg_at legs t) n m b) ∙ ap (λ (i : ℕ). finds (leg_at legs i) n m) q ∙ e)) | no q ↦ now (omega arith) b ]

  -- it reaches node x
  module _ (some : x ≡ 0 → ⊥) where
    what : Found l m x
    what = finds_found l n m s.room.own refl some

    end : x ≤ Limits.node_end
    end = found_end ends.0 ends.1 what

    goal_some : mark (goal legs free) x ≡ 0
    goal_some = go what.ends
      where
        joined : In (leg_join l) (leg_joins (legs_in legs))
        joined = rw (leg_is legs j here) at (leg_in (legs_in legs) j (rw (legs_length legs) here) (rw (leg_is legs j here) what.conducts))

        go : ((x ≡ l.far) × (get_or m l.near 0 ≡ 0)) ⊎ ((x ≡ l.near) × (get_or m l.far 0 ≡ 0)) → mark (goal legs free) x ≡ 0
        go (inl e) = goal_beside w free (record { join = leg_join l; within = joined; ends = inr (refl, sym e.0) }) (s.marked.right l.near e.1 ends.0)
        go (inr e) = goal_beside w free (record { join = leg_join l; within = joined; ends = inl (sym e.0, refl) }) (s.marked.right l.far e.1 ends.1)

    marked_some : Marked legs free (set m x 0)
    marked_some = record {
      long = simp length-set s.marked.long;
      kept = λ k e. zero_set m x k (s.marked.kept k e);
      right = set_zero m x (λ k. k ≤ Limits.node_end → mark (goal legs free) k ≡ 0) (λ h. goal_some) s.marked.right;
    }

    fewer : unseen (set m x 0) + 1 ≡ unseen m
    fewer = unseen_set m x (λ e. some (sym what.unreached ∙ e))

    room_some : Room (set m x 0) (listed + 1)
    room_some = record {
      own = λ k. elim (ℕ_discrete k x) [ yes q ↦ inl (zero_here k q) | no q ↦ rw (get_or-set_other m x k 0 0 q) (s.room.own k) ];
      room = omega (arith, fewer, s.room.room);
    }
      where
        zero_here : (k : ℕ) → k ≡ x → get_or (set m x 0) k 0 ≡ 0
        zero_here k q = rw q (get_or-set_same m x 0 0 (omega (arith, s.marked.long, end)))

    due_some : (t : ℕ) → t < length legs → (reaches (leg_at legs t) (set m x 0) ≡ 0 → ⊥) → Due legs (set list listed x) (listed + 1) n (j + 1) t
    due_some t h r = by (meets (leg_at legs t) x) refl
      where
        go : meets (leg_at legs t) x ≡ false → Due legs list listed n j t → Due legs (set list listed x) (listed + 1) n (j + 1) t
        go e (later i a b) = later i (omega arith) (rw (get_or-set_other list listed i x 0 (λ q. omega arith)) b)
        go e (now a b) = now (elim (ℕ_discrete t j) [ yes q ↦ absurd (false≢true (sym e ∙ ap (λ (i : ℕ). meets (leg_at legs i) x) q ∙ meets_found l x m what)) | no q ↦ omega arith ]) b

        by : (b : Bool) → meets (leg_at legs t) x ≡ b → Due legs (set list listed x) (listed + 1) n (j + 1) t
        by true e = later listed (omega arith) (rw (get_or-set_same list listed x 0 (omega (arith, s.places, s.room.room, fewer))) e)
        by false e = go e (s.due t h (λ z. r (reaches_other (leg_at legs t) x m e ∙ z)))

  pub state_next : State legs free (reach x m) (enlist x listed list) (longer x listed) n (j + 1)
  unfolding reach enlist longer
  state_next = elim (eqb x 0) as (λ b. eqb x 0 ≡ b → State legs free (cond b m (set m x 0)) (cond b list (set list listed x)) (cond b listed (listed + 1)) n (j + 1)) [
    | true ↦ λ e. record { marked = s.marked; room = s.room; places = s.places; due = due_none (eqb-true x 0 e) }
    | false ↦ λ e. let h = eqb-false x 0 e in record { marked = marked_some h; room = room_some h; places = simp length-set s.places; due = due_some h }
  ] refl

  pub left_next : left (length legs) (reach x m) (longer x listed) (j + 1) < left (length legs) m listed j
  unfolding reach longer
  left_next = elim (eqb x 0) as (λ b. eqb x 0 ≡ b → left (length legs) (cond b m (set m x 0)) (cond b listed (listed + 1)) (j + 1) < left (length legs) m listed j) [
    | true ↦ λ e. omega arith
    | false ↦ λ e. fall (unseen (set m x 0)) (fewer (eqb-false x 0 e))
  ] refl
    where
      fall : (k : ℕ) → k + 1 ≡ unseen m → (2 * k + (listed + 1)) * (length legs + 1) + (length legs - (j + 1)) < left (length legs) m listed j
      fall k e = let f : 2 * k + (listed + 1) + 1 ≤ 2 * unseen m + listed = omega arith in omega (arith, mul-le-mul_right (length legs + 1) f)

-- ---- the next visit
module _ {legs : List Wire} {free m list : List ℕ} {listed n j : ℕ} (s : State legs free m list listed n j) (over : length legs ≤ j) where
  module _ (some : listed ≡ 0 → ⊥) where
    pub state_visit : State legs free m list (listed - 1) (get_or list (listed - 1) 0) 0
    state_visit = record {
      marked = s.marked;
      room = record { own = s.room.own; room = omega (arith, s.room.room) };
      places = s.places;
      due = λ t h r. go t h (s.due t h r);
    }
      where
        go : (t : ℕ) → t < length legs → Due legs list listed n j t → Due legs list (listed - 1) (get_or list (listed - 1) 0) 0 t
        go t h (now a b) = absurd (omega arith)
        go t h (later i a b) = elim (ℕ_discrete i (listed - 1)) [ yes q ↦ now (omega arith) (rw q at b) | no q ↦ later i (omega arith) b ]

    pub left_visit : left (length legs) m (listed - 1) 0 < left (length legs) m listed j
    left_visit = let f : 2 * unseen m + (listed - 1) + 1 ≤ 2 * unseen m + listed = omega arith in omega (arith, mul-le-mul_right (length legs + 1) f)

  -- where none is left, no leg reaches anything
  pub calm : listed ≡ 0 → (t : ℕ) → t < length legs → reaches (leg_at legs t) m ≡ 0
  calm none t h = elim (ℕ_discrete (reaches (leg_at legs t) m) 0) [ yes e ↦ e | no e ↦ absurd (go (s.due t h e)) ]
    where
      go : Due legs list listed n j t → ⊥
      go (now a b) = omega arith
      go (later i a b) = omega arith

-- ---- marks over which no join reaches anything new
module _ (js : List Join) (m : List ℕ) (even : (i : Join) → In i js → seen m i.one ≡ seen m i.two) where
  beside_seen : {n p : ℕ} → Beside js n p → seen m n ≡ seen m p
  beside_seen {n} {p} b = go b.join (even b.join b.within) b.ends
    where
      go : (i : Join) → seen m i.one ≡ seen m i.two → ((i.one ≡ n) × (i.two ≡ p)) ⊎ ((i.one ≡ p) × (i.two ≡ n)) → seen m n ≡ seen m p
      go i e (inl c) = rw (← c.0, ← c.1) e
      go i e (inr c) = rw (← c.0, ← c.1) (sym e)

  path_seen : {k n p : ℕ} → Path js k n p → seen m n ≡ seen m p
  path_seen stay = refl
  path_seen (hop b w) = beside_seen b ∙ path_seen w

module _ {legs : List Wire} {free m list : List ℕ} {listed n j : ℕ} (s : State legs free m list listed n j) where
  -- then what is not marked 0 never will be
  pub goal_seen : length legs ≤ j → listed ≡ 0 → (k : ℕ) → mark (goal legs free) k ≡ 0 → get_or m k 0 ≡ 0
  unfolding reached
  goal_seen over none k e =
      let x = spread_sound (leg_joins (legs_in legs)) (start free) k in
      eqb-true (get_or m k 0) 0 (path_seen (leg_joins (legs_in legs)) m even x.way.path ∙ eq-eqb (get_or m x.node 0) 0 (s.marked.kept x.node (sym x.first ∙ e)))
    where
      even : (i : Join) → In i (leg_joins (legs_in legs)) → seen m i.one ≡ seen m i.two
      even =
          joins_all (λ i. seen m i.one ≡ seen m i.two) (legs_in legs)
          (λ t h c.
          let k : t < length legs = omega (arith, legs_length legs) in
          rw (leg_is legs t k) (reaches_not (leg_at legs t) m (calm s over none t k) (rw (leg_is legs t k) at c)))

-- ---- free node after free node
abbrev pub floats : List Wire → List ℕ → ℕ → Bool
floats legs free n = not (eqb (mark (goal legs free) n) 0)

module _ {legs : List Wire} {free m list : List ℕ} {listed n j : ℕ} (s : State legs free m list listed n j) (f : Free free) {i r : ℕ} (h : i < length free) (e : r ≡ first (floats legs free) (drop i free)) where
  pub search_on : get_or m (get_or free i 0) 0 ≡ 0 → r ≡ first (floats legs free) (drop (i + 1) free)
  search_on z = first_here (floats legs free) free i r h e false (rw (s.marked.right (get_or free i 0) z (f.node i h)))

  pub search_found : length legs ≤ j → listed ≡ 0 → (get_or m (get_or free i 0) 0 ≡ 0 → ⊥) → r ≡ get_or free i 0
  search_found over none x =
      first_here (floats legs free) free i r h e true (rw (ne_eqb (mark (goal legs free) (get_or free i 0)) 0 (λ z. x (goal_seen s over none (get_or free i 0) z))))
