-- What leaves the own of all areas where it stands: one area's legs written anew, framed as before. Assumes nothing.
use Rattle.std.specs.Prelude.{◌+◌, ◌-◌, ◌≤◌, ◌<◌, ◌≡◌, ◌++◌}
use Rattle.whole.specs.Plain.{ℕ, sym, ap, ◌∙◌, List, length, set, take, drop}
use Rattle.whole.specs.Plain.{get_or-set_same, get_or-set_other, length-take-le, take_at, drop_at, drop-drop, arith}
use borrow.Rule.Slice.PartMut.{put_mid, post_of, mid_len, same_len_mid, take_put, drop_put}
use Rattle.paper.specs.Areas.{Net}
use Rattle.plan_ends.specs.Own.{Framed}
use Rattle.step_legs.specs.declared.Wire.{Wire}
use Rattle.step_legs.specs.declared.Source.{Source}
use Rattle.plan_own.specs.declared.Own.{Own}
use Rattle.plan_own.specs.Owns.{nothing, own_in, Tables, Ours, Apart}
use Rattle.plan_lay.specs.Grown.{part, part_kept}

-- ---- a part put back into a list
module _ {A : Type 0} (l m : List A) (f t : ℕ) (h : f ≤ t) (k : t ≤ length l) (e : length m ≡ t - f) where
  abbrev put : List A
  put = put_mid f (t - f) l m

  pub put_length : length put ≡ length l
  put_length = same_len_mid f (t - f) l m (e ∙ sym (mid_len f t l k))

  pub put_here : part f t put ≡ m
  put_here =
      ap (take (t - f)) (drop_at (take f l) (m ++ post_of f (t - f) l) f (length-take-le f l (omega arith)))
      ∙ take_at m (post_of f (t - f) l) (t - f) e

  pub put_below : (i j : ℕ) → i ≤ j → j ≤ f → part i j put ≡ part i j l
  put_below i j p q = part_kept put l f i j (take_put f (t - f) l m (omega arith)) p q (omega (arith, put_length)) (omega arith)

  pub put_above : (i j : ℕ) → t ≤ i → part i j put ≡ part i j l
  put_above i j p = ap (take (j - i)) (from put ∙ ap (drop (i - t)) (drop_put f t l m h k e) ∙ sym (from l))
    where
      from : (x : List A) → drop i x ≡ drop (i - t) (drop t x)
      from x = let q : t + (i - t) ≡ i = omega arith in sym (drop-drop (i - t) t x ∙ ap (λ (n : ℕ). drop n x) q)

-- ---- legs: what a call on `&mut legs[o.legs..o.legs_end]` leaves, where the part is framed at its end
abbrev pub legs_put : Own → List Wire → List Wire → List Wire
legs_put o legs new = put_mid o.legs (o.legs_end - o.legs) legs new

ours_by : {N : Net} {b : ℕ} {o : Own} {legs legs' : List Wire} {nodes : List ℕ} {sources : List Source} → Ours N b o legs nodes sources → Framed N b (part o.legs o.legs_end legs') → Ours N b o legs' nodes sources
ours_by w f = record { legs_in = w.legs_in; nodes_in = w.nodes_in; sources_in = w.sources_in; framed = f; free = w.free; nodes = w.nodes; sources = w.sources }

module _ {N : Net} {a : ℕ} {o : Own} {legs : List Wire} {nodes : List ℕ} {sources : List Source} (t : Tables legs nodes sources) (w : Ours N a o legs nodes sources) (new : List Wire) (f : Framed N a new) where
  pub end_in : o.legs_end ≤ length legs
  end_in = omega (arith, w.legs_in, t.legs_long)

  pub new_long : length new ≡ o.legs_end - o.legs
  new_long = f.long ∙ sym w.framed.long ∙ mid_len o.legs o.legs_end legs end_in

  pub tables_legs : Tables (legs_put o legs new) nodes sources
  tables_legs = record { legs_long = put_length legs new o.legs o.legs_end w.legs_in.0 end_in new_long ∙ t.legs_long; nodes_long = t.nodes_long; sources_long = t.sources_long }

  pub ours_legs : Ours N a o (legs_put o legs new) nodes sources
  ours_legs = ours_by w (rw (put_here legs new o.legs o.legs_end w.legs_in.0 end_in new_long) f)

  -- another area's own
  pub other_below : {b : ℕ} {u : Own} → Apart u o → Ours N b u legs nodes sources → Ours N b u (legs_put o legs new) nodes sources
  other_below {u = u} p v = ours_by v (rw (put_below legs new o.legs o.legs_end w.legs_in.0 end_in new_long u.legs u.legs_end v.legs_in.0 p.legs) v.framed)

  pub other_above : {b : ℕ} {u : Own} → Apart o u → Ours N b u legs nodes sources → Ours N b u (legs_put o legs new) nodes sources
  other_above {u = u} p v = ours_by v (rw (put_above legs new o.legs o.legs_end w.legs_in.0 end_in new_long u.legs u.legs_end p.legs) v.framed)

-- ---- the table of areas
pub own_put : (owns : List Own) (a : ℕ) (o : Own) → a < length owns → own_in (set owns a o) a ≡ o
own_put owns a o h = rw (get_or-set_same owns a o nothing h)

pub own_other : (owns : List Own) (a b : ℕ) (o : Own) → (b ≡ a → ⊥) → own_in (set owns a o) b ≡ own_in owns b
own_other owns a b o q = rw (get_or-set_other owns a b o nothing q)
