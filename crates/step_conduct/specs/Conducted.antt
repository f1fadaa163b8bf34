-- The conductances of legs at a step, by the plan's rows and the records' latches, and the step before which they stay. Assumes nothing.
use Rattle.std.specs.Prelude.{◌+◌, ◌≤◌, ◌<◌, ◌≡◌, ◌&&◌, ◌||◌}
use Rattle.whole.specs.Plain.{ℕ, refl, sym, ap, ◌∙◌, Bool, true, false, cond, not, List, eqb}
use Rattle.whole.specs.Plain.{leb, ltb, ℤ, pos, lt_z, length, get_or, set, length-set, get_or-set_same, get_or-set_other}
use Rattle.whole.specs.Plain.{ltb-true, ltb-false, le-leb, lt-leb, lt-ltb, le-ltb, dec_lt, ℕ_discrete, arith, Words, z, word, nat}
use Rattle.paper.specs.Limits as Limits
use Rattle.paper.specs.Records.{latch_at}
use Rattle.plan_rows.specs.declared.Row.{Row}
use Rattle.plan_rows.specs.Planned.{Plan, row_in}
use Rattle.step_legs.specs.declared.Wire.{Wire}
use Rattle.step_legs.specs.Wires.{no_wire, wire_at}

-- past the last step of any study, and past the last change of any switch
abbrev pub never : ℕ
never = Limits.open_end + 1

-- an SW or an SWT
abbrev pub switches : Row → Bool
switches r = eqb r.kind 5 || eqb r.kind 9

-- the step from which it is open again, by its latch
unfoldable pub opening_of : Row → ℤ → ℕ
opening_of r p = cond (eqb r.kind 5) (cond (lt_z z p) (nat p + 1) never) r.opens

unfoldable pub open_of : ℕ → ℕ → Row → Bool
open_of k o r = switches r && not (leb r.closes k && ltb k o)

unfoldable pub conducts_of : ℕ → ℕ → Row → ℕ
conducts_of k o r = cond (open_of k o r) 0 r.g

-- a leg's row, when it opens, and the leg with its conductance at step k
abbrev pub row_of_wire : Plan → Wire → Row
row_of_wire plan l = row_in plan l.row

abbrev pub opening_at : Plan → Words → Wire → ℕ
opening_at plan recs l = opening_of (row_of_wire plan l) (word recs (latch_at l.row))

unfoldable pub conducted : Plan → Words → ℕ → Wire → Wire
conducted plan recs k l = record l { g = pos (conducts_of k (opening_at plan recs l) (row_of_wire plan l)) }

pub record RatedWire (plan : Plan) (l : Wire) : Type 0 where
  pub there : l.row < 80
  pub g_end : (row_of_wire plan l).g ≤ Limits.conductance_end

pub record Rated (plan : Plan) (legs : List Wire) : Type 0 where
  pub wire : (j : ℕ) → j < length legs → RatedWire plan (wire_at legs j)

-- ---- a switch, case by case
module _ (k o : ℕ) (r : Row) where
  pub no_switch : switches r ≡ false → false ≡ open_of k o r
  unfolding open_of
  no_switch h = rw h

  pub not_yet : switches r ≡ true → k < r.closes → true ≡ open_of k o r
  unfolding open_of
  not_yet e h = rw (e, lt-leb r.closes k h)

  pub no_more : switches r ≡ true → r.closes ≤ k → leb o k ≡ open_of k o r
  unfolding open_of
  no_more e h = rw (e, le-leb r.closes k h) (turned (ltb k o) refl)
    where
      turned : (t : Bool) → ltb k o ≡ t → leb o k ≡ not t
      turned true e = lt-leb o k (ltb-true k o e)
      turned false e = le-leb o k (ltb-false k o e)

  pub conducts_most : conducts_of k o r ≤ r.g
  unfolding conducts_of
  conducts_most = elim (open_of k o r) as (λ b. cond b 0 r.g ≤ r.g) [ true ↦ omega arith | false ↦ omega arith ]

-- ---- how long

pub record Sooner (until k change u : ℕ) : Type 0 where
  pub most : u ≤ until
  pub on : k < until → k < u
  pub before : k < change → u ≤ change

-- up to u, and no longer than `until`, the row stays as it is at step k
pub record Stays (k o : ℕ) (r : Row) (until u : ℕ) : Type 0 where
  pub most : u ≤ until
  pub on : k < until → k < u
  pub closes : switches r ≡ true → k < r.closes → u ≤ r.closes
  pub opens : switches r ≡ true → k < o → u ≤ o

-- a change comes at both steps or at neither
change_stays : (c k i u : ℕ) → (k < c → u ≤ c) → k ≤ i → i < u → (leb c k ≡ leb c i) × (ltb k c ≡ ltb i c)
change_stays c k i u h l m = go (dec_lt k c)
  where
    go : Dec (k < c) → (leb c k ≡ leb c i) × (ltb k c ≡ ltb i c)
    go (yes q) = let e : i < c = omega (arith, h q) in (lt-leb c k q ∙ sym (lt-leb c i e), lt-ltb k c q ∙ sym (lt-ltb i c e))
    go (no q) =
        let x : c ≤ k = omega arith in
        let y : c ≤ i = omega arith in
        (le-leb c k x ∙ sym (le-leb c i y), le-ltb k c x ∙ sym (le-ltb i c y))

pub conducts_stays : (k o : ℕ) (r : Row) (i u : ℕ) → Stays k o r u u → k ≤ i → i < u → conducts_of k o r ≡ conducts_of i o r
unfolding conducts_of open_of
conducts_stays k o r i u t l m = go (switches r) refl
  where
    go : (b : Bool) → switches r ≡ b → conducts_of k o r ≡ conducts_of i o r
    go true e = rw ((change_stays r.closes k i u (t.closes e) l m).0, (change_stays o k i u (t.opens e) l m).1)
    go false e = rw e

-- the first n legs
pub record Conducted (plan : Plan) (recs : Words) (k n : ℕ) (before after : List Wire) (until : ℕ) : Type 0 where
  pub long : length after ≡ length before
  pub done : (j : ℕ) → j < n → wire_at after j ≡ conducted plan recs k (wire_at before j)
  pub left : (j : ℕ) → n ≤ j → wire_at after j ≡ wire_at before j
  pub stays : (j : ℕ) → j < n → Stays k (opening_at plan recs (wire_at before j)) (row_of_wire plan (wire_at before j)) until until
  pub on : k < until
  pub most : until ≤ never

pub conducted_more : {plan : Plan} {recs : Words} {k n : ℕ} {before after : List Wire} {until u : ℕ} → Conducted plan recs k n before after until → n < length before
    → Stays k (opening_at plan recs (wire_at after n)) (row_of_wire plan (wire_at after n)) until u → Conducted plan recs k (n + 1) before (set after n (conducted plan recs k (wire_at after n))) u
conducted_more {plan} {recs} {k} {n} {before} {after} {until} {u} c h s = record {
  long = length-set after n _ ∙ c.long;
  done = λ j l. by j l (ℕ_discrete j n);
  left = λ j l. get_or-set_other after n j _ no_wire (λ e. omega arith) ∙ c.left j (omega arith);
  stays = λ j l. stay j l (ℕ_discrete j n);
  on = s.on c.on;
  most = omega (arith, s.most, c.most);
}
  where
    here : wire_at after n ≡ wire_at before n
    here = c.left n (omega arith)

    by : (j : ℕ) → j < n + 1 → Dec (j ≡ n) → get_or (set after n (conducted plan recs k (wire_at after n))) j no_wire ≡ conducted plan recs k (wire_at before j)
    by j l (yes e) = rw e (get_or-set_same after n _ no_wire (omega (arith, c.long)) ∙ ap (conducted plan recs k) here)
    by j l (no e) = get_or-set_other after n j _ no_wire e ∙ c.done j (omega arith)

    stay : (j : ℕ) → j < n + 1 → Dec (j ≡ n) → Stays k (opening_at plan recs (wire_at before j)) (row_of_wire plan (wire_at before j)) u u
    stay j l (yes e) =
        let t = rw here at s in
        rw e (record { most = omega arith; on = λ q. q; closes = t.closes; opens = t.opens })
    stay j l (no e) =
        let t = c.stays j (omega arith) in
        record { most = omega arith; on = λ q. q; closes = λ q r. omega (arith, t.closes q r, s.most); opens = λ q r. omega (arith, t.opens q r, s.most) }
