-- The wires of an area's own ends: with the conductances of a step, and with its histories too. They are the legs of those ends, and sums over them fit a
-- word. Assumes nothing.
use Rattle.std.specs.Prelude.{◌+◌, ◌*◌, ◌/◌, ◌%◌, ◌≤◌, ◌<◌, ◌≡◌, ◌∷◌}
use Rattle.whole.specs.Plain.{ℕ, zero, suc, refl, sym, ap, ◌∙◌, Bool, true, false}
use Rattle.whole.specs.Plain.{cond, List, [], map, map-map, eqb, pos, length, take, length-map, ext_get_or}
use Rattle.whole.specs.Plain.{eqb-true, le_trans, arith, Words, z, word, nat, numbers, keep, count}
use Rattle.std.proofs.Math.Numerals.{add-one}
use Rattle.whole.specs.Folds.{get_d_map, count_append, count_map, count_next, keep_append, numbers_more}
use Rattle.whole.specs.Members.{among_at, keep_among, numbers_among}
use Rattle.whole.specs.Written.{count_take}
use Rattle.paper.specs.Limits as Limits
use Rattle.paper.specs.Rows.{kind, is_branch, is_breaker}
use Rattle.paper.specs.Classes.{by_branch}
use Rattle.paper.specs.Areas.{Net, row_area}
use Rattle.paper.specs.Records.{latch_at}
use Rattle.paper.specs.Legs.{Leg, leg, idle}
use Rattle.paper.specs.Solve.{leaves}
use Rattle.laws_facts.specs.Nets.{NetSound, row_at, conducts_same}
use Rattle.plan_ends.specs.Own.{row_of_end, own_end, own_ends, end_at, near_of, FrameOf, Framed}
use Rattle.step_legs.specs.declared.Wire.{Wire}
use Rattle.step_legs.specs.Wires.{leg_of, no_wire, settled, unfound, wire_at, wires_in, legs_in, Wired, Wires, Sized}
use Rattle.step_legs.specs.Written.{SameBut}
use Rattle.step_own.specs.Ends.{g_at, h_at, leg_of_end, wire_of, bare_of_end, Kept}
use Rattle.step_own.specs.EndSizes as Sizes

-- with the conductances that the switches have at step k, by the latches in the records
pub record Conducting (N : Net) (a k : ℕ) (recs : Words) (legs : List Wire) : Type 0 where
  pub framed : Framed N a legs
  pub g : (j : ℕ) → j < length legs → (wire_at legs j).g ≡ pos (g_at N k recs (end_at N a j))

pub record Laid (N : Net) (a k : ℕ) (recs froms tos : Words) (legs : List Wire) : Type 0 where
  pub conducting : Conducting N a k recs legs
  pub h : (j : ℕ) → j < length legs → (wire_at legs j).h ≡ h_at N k recs froms tos (end_at N a j)

-- a wire that keeps what the network settles keeps its frame, whatever it conducts
pub frame_kept : {N : Net} {e : ℕ} {v w : Wire} → record (settled w) { g = z } ≡ record (settled v) { g = z } → FrameOf N e v → FrameOf N e w
frame_kept e f = record {
  near = ap (λ (x : Wire). x.near) e ∙ f.near;
  far = ap (λ (x : Wire). x.far) e ∙ f.far;
  row = ap (λ (x : Wire). x.row) e ∙ f.row;
  end = ap (λ (x : Wire). x.end) e ∙ f.end;
  kind = ap (λ (x : Wire). x.kind) e ∙ f.kind;
}

pub conducting_same : {N : Net} {a k : ℕ} {recs : Words} {before after : List Wire} → SameBut before after → Conducting N a k recs before → Conducting N a k recs after
conducting_same s c = record {
  framed = record { long = s.long ∙ c.framed.long; line = λ j h. let l : j < _ = rw s.long at h in frame_kept (ap (λ (x : Wire). record x { g = z }) (s.same j l)) (c.framed.line j l) };
  g = λ j h. let l : j < _ = rw s.long at h in ap (λ (x : Wire). x.g) (s.same j l) ∙ c.g j l;
}

-- an own end, by its place
pub end_own : (N : Net) (a j : ℕ) → j < length (own_ends N a) → (end_at N a j < 2 * length N.rows) × (own_end N a (end_at N a j) ≡ true)
unfolding own_ends
end_own N a j h =
    let c = keep_among (own_end N a) (numbers 0 (2 * length N.rows)) (among_at (own_ends N a) j 0 h) in
    (omega (arith, (numbers_among 0 (2 * length N.rows) c.among).1), c.passes)

-- ---- records in which no switch of the area has parted since
pub record SameLatches (N : Net) (a : ℕ) (recs recs' : Words) : Type 0 where
  pub latch : (i : ℕ) → i < length N.rows → is_breaker (row_at N i) ≡ true → row_area N (row_at N i) ≡ a → word recs (latch_at i) ≡ word recs' (latch_at i)

pub conducting_latched : {N : Net} {a k : ℕ} {recs recs' : Words} {legs : List Wire} → NetSound N → 1 ≤ a → SameLatches N a recs recs' → Conducting N a k recs legs → Conducting N a k recs' legs
conducting_latched {N} {a} {k} {recs} {recs'} s one same c = record {
  framed = c.framed;
  g = λ j h.
      let e = end_at N a j in
      let o = end_own N a j (omega (arith, c.framed.long)) in
      c.g j h ∙ ap pos (conducts_same N recs recs' k (e / 2) (λ b. same.latch (e / 2) (omega (arith, o.0)) b (Sizes.own_breaker N s a one e o.0 o.1 b)));
}

-- ---- wire by wire
lines_are : {N : Net} {a : ℕ} {legs : List Wire} {B : Type 0} → Framed N a legs → (f : Wire → B) (g : ℕ → B) (d : B) → ((j : ℕ) → j < length legs → f (wire_at legs j) ≡ g (end_at N a j))
    → map f legs ≡ map g (own_ends N a)
lines_are {N} {a} {legs} r f g d e =
    ext_get_or d (map f legs) (map g (own_ends N a)) (length-map legs f ∙ r.long ∙ sym (length-map (own_ends N a) g))
    (λ j h.
    let i : j < length legs = rw (length-map legs f) at h in
    get_d_map f legs j no_wire d i ∙ e j i ∙ sym (get_d_map g (own_ends N a) j 0 d (omega (arith, r.long))))

module _ {N : Net} {a k : ℕ} {recs froms tos : Words} {legs : List Wire} (l : Laid N a k recs froms tos legs) where
  pub wire_at_lem : (j : ℕ) → j < length legs → unfound (wire_at legs j) ≡ wire_of N k recs froms tos (end_at N a j)
  wire_at_lem j h =
      let f = l.conducting.framed.line j h in
      rw (f.near, f.far, f.row, f.end, f.kind, l.conducting.g j h, l.h j h)

  pub wires_are : wires_in legs ≡ map (wire_of N k recs froms tos) (own_ends N a)
  unfolding wires_in
  wires_are = lines_are l.conducting.framed unfound (wire_of N k recs froms tos) no_wire wire_at_lem

  pub legs_are : legs_in legs ≡ map (leg_of_end N k recs froms tos) (own_ends N a)
  unfolding legs_in
  legs_are = lines_are l.conducting.framed leg_of (leg_of_end N k recs froms tos) idle (λ j h. ap leg_of (wire_at_lem j h))

-- without their histories
pub bares_are : {N : Net} {a k : ℕ} {recs : Words} {legs : List Wire} → Conducting N a k recs legs → map (λ x. leg x.near x.far x.g z) (legs_in legs) ≡ map (bare_of_end N k recs) (own_ends N a)
unfolding legs_in
bares_are {N} {a} {k} {recs} {legs} c =
    map-map (λ (x : Leg). leg x.near x.far x.g z) leg_of legs
    ∙ lines_are c.framed (λ w. leg w.near w.far (nat w.g) z) (bare_of_end N k recs) idle (λ j h. let f = c.framed.line j h in rw (f.near, f.far, c.g j h))

-- ---- at most one of a row's two ends leaves a node
small : (b : Bool) → cond b 1 0 ≤ 1
small true = omega arith
small false = omega arith

module _ (N : Net) (s : NetSound N) (a : ℕ) (one : 1 ≤ a) (p : ℕ) where
  abbrev leaves_end : ℕ → Bool
  leaves_end e = eqb (near_of N e) p

  abbrev leaver : ℕ → ℕ
  leaver e = cond (own_end N a e) (cond (leaves_end e) 1 0) 0

  abbrev some : ℕ → ℕ
  some n = count leaves_end (keep (own_end N a) (numbers 0 n))

  some_more : (n : ℕ) → some (n + 1) ≡ some n + leaver n
  unfolding count keep
  some_more n = let e : 0 + n ≡ n = omega arith in rw (numbers_more 0 n, e, keep_append, count_append) (ap (λ (x : ℕ). some n + x) (by (own_end N a n)))
    where
      by : (b : Bool) → count leaves_end (cond b (n ∷ []) []) ≡ cond b (cond (leaves_end n) 1 0) 0
      by true = omega arith
      by false = refl

  row_ends : (i : ℕ) → i < length N.rows → leaver (2 * i) + leaver (2 * i + 1) ≤ cond (is_branch (row_at N i)) 1 0
  unfolding near_of
  row_ends i h = go (own_end N a (2 * i)) refl (own_end N a (2 * i + 1)) refl (leaves_end (2 * i)) refl (leaves_end (2 * i + 1)) refl
    where
      e : 2 * i / 2 ≡ i
      e = omega arith

      f : (2 * i + 1) / 2 ≡ i
      f = omega arith

      first : own_end N a (2 * i) ≡ true → is_branch (row_at N i) ≡ true
      first o = rw e at (Sizes.own_branch N s a one (2 * i) (omega arith) o)

      second : own_end N a (2 * i + 1) ≡ true → is_branch (row_at N i) ≡ true
      second o = rw f at (Sizes.own_branch N s a one (2 * i + 1) (omega arith) o)

      from_is : near_of N (2 * i) ≡ nat (word (row_at N i) 1)
      from_is = let q : 1 + 2 * i % 2 ≡ 1 = omega arith in rw (e, q)

      to_is : near_of N (2 * i + 1) ≡ nat (word (row_at N i) 2)
      to_is = let q : 1 + (2 * i + 1) % 2 ≡ 2 = omega arith in rw (f, q)

      go : (b : Bool) → own_end N a (2 * i) ≡ b → (c : Bool) → own_end N a (2 * i + 1) ≡ c → (u : Bool) → leaves_end (2 * i) ≡ u → (v : Bool) → leaves_end (2 * i + 1) ≡ v
          → cond b (cond u 1 0) 0 + cond c (cond v 1 0) 0 ≤ cond (is_branch (row_at N i)) 1 0
      go true o true q true x true y =
          absurd (((s.row i h).branch (first o)).apart (sym from_is ∙ eqb-true (near_of N (2 * i)) p x ∙ sym (eqb-true (near_of N (2 * i + 1)) p y) ∙ to_is))
      go true o true q true x false y = rw (first o) (omega arith)
      go true o true q false x v y = rw (first o) (omega (arith, small v))
      go true o false q u x v y = rw (first o) (omega (arith, small u))
      go false o true q u x v y = rw (second q) (omega (arith, small v))
      go false o false q u x v y = omega arith

  some_few : (i : ℕ) → i ≤ length N.rows → some (2 * i) ≤ count is_branch (take i N.rows)
  unfolding keep numbers count
  some_few zero h = omega arith
  some_few (suc i) h =
      let e : 2 * suc i ≡ 2 * i + 1 + 1 = omega arith in
      rw e (omega (arith, some_more (2 * i + 1), some_more (2 * i), some_few i (omega arith), row_ends i (omega arith), rw add-one at (count_next is_branch N.rows i [] (omega arith))))

  pub few : {k : ℕ} {recs : Words} {legs : List Wire} → Conducting N a k recs legs → count (leaves p) (legs_in legs) ≤ Limits.branch_end
  unfolding leaves own_ends
  few {k} {recs} {legs} c =
      let e = sym (count_map (leaves p) (λ x. leg x.near x.far x.g z) (legs_in legs)) ∙ ap (count (leaves p)) (bares_are c) ∙ count_map (leaves p) (bare_of_end N k recs) (own_ends N a) in
      rw e (omega (arith, some_few (length N.rows) (omega arith), count_take is_branch N.rows (length N.rows), s.branch_most))

-- ---- what makes sums over them fit
module _ {N : Net} {a k : ℕ} {legs : List Wire} (s : NetSound N) (one : 1 ≤ a) where
  pub conducting_wires : {recs : Words} → Conducting N a k recs legs → Wires legs
  conducting_wires {recs} c = record { wired = wired; few = λ p. few N s a one p c }
    where
      wired : (j : ℕ) → j < length legs → Wired (wire_at legs j)
      wired j h =
          let f = c.framed.line j h in
          let o = end_own N a j (omega (arith, c.framed.long)) in
          let e = end_at N a j in
          record {
            near_end = rw f.near (le_trans (Sizes.near_most N s a one e o.0 o.1) s.node_most);
            far_end = rw f.far (le_trans (Sizes.far_most N s a one e o.0 o.1) s.node_most);
            row_below = rw f.row (omega (arith, s.row_most, o.0));
            end_end = rw f.end (omega arith);
            kind_end = rw f.kind (by_branch (λ k. k ≤ 9) (kind (row_of_end N e)) (Sizes.own_branch N s a one e o.0 o.1) (omega arith) (omega arith) (omega arith) (omega arith) (omega arith) (omega arith));
            g_sign = rw (c.g j h) tt;
            g_end = rw (c.g j h) (record { size = Sizes.g_most_lem N s a one e o.0 o.1 k recs });
          }

  pub laid_sized : {recs froms tos : Words} → Kept recs froms tos → Laid N a k recs froms tos legs → Sized legs
  laid_sized kept l = record {
    wires = conducting_wires l.conducting;
    h_end = λ j h. let o = end_own N a j (omega (arith, l.conducting.framed.long)) in rw (l.h j h) (record { size = Sizes.h_most N s a one (end_at N a j) o.0 o.1 kept k });
  }
