-- What the areas and the search for floating nodes mean, by paths. Assumes nothing.
use Rattle.std.specs.Prelude.{◌≤◌, ◌<◌, ◌≡◌, ◌⊎◌, ◌↔◌}
use Rattle.whole.specs.Plain.{ℕ, suc, refl, sym, ap, ◌∙◌, inl, inr, Bool, true, false, cond}
use Rattle.whole.specs.Plain.{List, map, length, get_or, length-map, get_or-eq_default, dec_lt, arith, keep, numbers}
use Rattle.whole.specs.Plain.{first}
use Rattle.whole.specs.Folds.{length_numbers, get_d_numbers, get_d_map}
use Rattle.paper.specs.Limits as Limits
use Rattle.paper.proofs.Kept.{either}
use Rattle.paper.specs.Rows.{Row}
use Rattle.paper.specs.Spread.{Join, mark, spread}
use Rattle.paper.specs.Areas.{joins, join_of, lowest}
use Rattle.paper.specs.Legs.{Leg}
use Rattle.paper.specs.Floating.{conducting, leg_join, marks, reached}
use Rattle.laws_paths.specs.Paths.{Beside, Path, stay, hop, Linked, Marked, spread_sound}
use Rattle.laws_paths.specs.Rounds.{Inside}
use Rattle.laws_paths.specs.Reached.{spread_complete}

-- ---- paths go both ways and join up

turned : {js : List Join} {n m : ℕ} → Beside js n m → Beside js m n
turned b = record { join = b.join; within = b.within; ends = elim b.ends [ inl x ↦ inr x | inr x ↦ inl x ] }

further : {js : List Join} {k n m p : ℕ} → Path js k n m → Beside js m p → Linked js n p
further stay b = record { joins = 1; path = hop b stay }
further (hop c w) b = let r = further w b in record { joins = suc r.joins; path = hop c r.path }

then : {js : List Join} {n m p : ℕ} (k : ℕ) → Path js k n m → Linked js m p → Linked js n p
then k stay v = v
then k (hop {k = i} b w) v = let r = then i w v in record { joins = suc r.joins; path = hop b r.path }

back : {js : List Join} {n p : ℕ} (k : ℕ) → Path js k n p → Linked js p n
back k stay = record { joins = 0; path = stay }
back k (hop {k = i} b w) = let r = back i w in further r.path (turned b)

-- ---- first marks

mark_own : (l x : ℕ) → mark (numbers 0 l) x ≡ x
mark_own l x = elim (dec_lt x l) [ yes h ↦ get_d_numbers 0 l x x h ∙ omega arith | no h ↦ get_or-eq_default (numbers 0 l) x (rw length_numbers (omega arith)) ]

-- ---- "Nodes joined by R, L, C or SW (open or closed) are in one area."

abbrev pub area_joins : List Row → List Join
area_joins rows = map join_of (keep joins rows)

-- the lowest node of n's area hangs together with n
pub lowest_linked : (rows : List Row) (nodes n : ℕ) → Linked (area_joins rows) n (mark (lowest rows nodes) n)
unfolding lowest
lowest_linked rows nodes n =
    let s : Marked (area_joins rows) (numbers 0 (suc nodes)) n (mark (spread (area_joins rows) (numbers 0 (suc nodes))) n) = spread_sound (area_joins rows) (numbers 0 (suc nodes)) n in
    rw (s.first ∙ mark_own (suc nodes) s.node) s.way

-- and is the lowest that does
pub lowest_least : (rows : List Row) (nodes n p : ℕ) → Inside (area_joins rows) (suc nodes) → nodes ≤ Limits.node_end → Linked (area_joins rows) n p → mark (lowest rows nodes) n ≤ p
unfolding lowest
lowest_least rows nodes n p h u w =
    rw mark_own at (spread_complete (area_joins rows) (numbers 0 (suc nodes)) n p (rw length_numbers h) (rw length_numbers (omega arith)) w)

-- so two nodes hang together exactly when they have the same lowest node
pub same_area : (rows : List Row) (nodes n p : ℕ) → Inside (area_joins rows) (suc nodes) → nodes ≤ Limits.node_end
    → Linked (area_joins rows) n p ↔ (mark (lowest rows nodes) n ≡ mark (lowest rows nodes) p)
same_area rows nodes n p h u =
    let low = lowest rows nodes in
    let ln = lowest_linked rows nodes n in
    let lp = lowest_linked rows nodes p in (
      λ w.
          let b = back w.joins w.path in
          omega (arith, lowest_least rows nodes n (mark low p) h u (then w.joins w.path lp), lowest_least rows nodes p (mark low n) h u (then b.joins b.path ln)),
      λ e. then ln.joins ln.path (rw e (back lp.joins lp.path)),
    )

-- ---- "A free node needs a path .. to ground, to a fixed node, or to a node with a line end"

abbrev pub leg_joins : List Leg → List Join
leg_joins legs = map leg_join (keep conducting legs)

-- a path of legs that conduct, to ground or to a fixed node
pub record Grounded (fix : ℕ → Bool) (legs : List Leg) (n : ℕ) : Type 0 where
  pub node : ℕ
  pub way : Linked (leg_joins legs) n node
  pub ground : (node ≡ 0) ⊎ (fix node ≡ true)

pub marks_length : (fix : ℕ → Bool) (nodes : ℕ) → length (marks fix nodes) ≡ suc nodes
unfolding marks
marks_length fix nodes = length-map (numbers 0 (suc nodes)) (λ n. cond (fix n) 0 n) ∙ length_numbers 0 (suc nodes)

marks_at : (fix : ℕ → Bool) (nodes x : ℕ) → x < suc nodes → mark (marks fix nodes) x ≡ cond (fix x) 0 x
unfolding marks
marks_at fix nodes x h =
    let e : get_or (numbers 0 (suc nodes)) x 0 ≡ x = get_d_numbers 0 (suc nodes) x 0 h ∙ omega arith in
    get_d_map (λ n. cond (fix n) 0 n) (numbers 0 (suc nodes)) x 0 x (rw length_numbers h) ∙ ap (λ (y : ℕ). cond (fix y) 0 y) e

marks_ground : (fix : ℕ → Bool) (nodes x : ℕ) → mark (marks fix nodes) x ≡ 0 → (x ≡ 0) ⊎ (fix x ≡ true)
marks_ground fix nodes x e =
    elim (dec_lt x (suc nodes)) [
      | yes h ↦ elim (fix x) as (λ b. cond b 0 x ≡ 0 → (x ≡ 0) ⊎ (b ≡ true)) [ true ↦ λ q. inr refl | false ↦ λ q. inl q ] (sym (marks_at fix nodes x h) ∙ e)
      | no h ↦ inl (sym (get_or-eq_default (marks fix nodes) x (rw marks_length (omega arith))) ∙ e)
    ]

marks_zero : (fix : ℕ → Bool) (nodes x : ℕ) → x ≤ nodes → (x ≡ 0) ⊎ (fix x ≡ true) → mark (marks fix nodes) x ≡ 0
marks_zero fix nodes x h (inl q) = marks_at fix nodes x (omega arith) ∙ either (λ (n : ℕ). n ≡ 0) (fix x) 0 x refl q
marks_zero fix nodes x h (inr q) = marks_at fix nodes x (omega arith) ∙ rw q

pub reached_sound : (fix : ℕ → Bool) (nodes : ℕ) (legs : List Leg) (n : ℕ) → mark (reached fix nodes legs) n ≡ 0 → Grounded fix legs n
unfolding reached
reached_sound fix nodes legs n e =
    let s : Marked (leg_joins legs) (marks fix nodes) n (mark (spread (leg_joins legs) (marks fix nodes)) n) = spread_sound (leg_joins legs) (marks fix nodes) n in
    record { node = s.node; way = s.way; ground = marks_ground fix nodes s.node (sym s.first ∙ e) }

pub reached_complete : (fix : ℕ → Bool) (nodes : ℕ) (legs : List Leg) (n : ℕ) → Inside (leg_joins legs) (suc nodes) → nodes ≤ Limits.node_end
    → (g : Grounded fix legs n) → g.node ≤ nodes → mark (reached fix nodes legs) n ≡ 0
unfolding reached
reached_complete fix nodes legs n h u g l =
    omega (arith, spread_complete (leg_joins legs) (marks fix nodes) n g.node (rw marks_length h) (rw marks_length (omega arith)) g.way, marks_zero fix nodes g.node l g.ground)
