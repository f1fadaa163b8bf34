-- What some sources give by node is a sum over them; one more, and the node still has room. Assumes nothing.
use Rattle.std.specs.Prelude.{◌+◌, ◌*◌, ◌≤◌, ◌<◌, ◌≡◌, ◌&&◌, ◌∷◌, ◌+ℤ◌}
use Rattle.whole.specs.Plain.{ℕ, suc, refl, sym, ap, ◌∙◌, Bool, true, false, cond, List}
use Rattle.whole.specs.Plain.{[], eqb, ℤ, nat_abs, +ℤ_assoc, +ℤ_idr, length, set, length-set}
use Rattle.whole.specs.Plain.{le_trans, mul-le-mul_right, length-replicate, eqb-true, arith, Words, z, word, fold, total}
use Rattle.std.specs.Int.{w64}
use Rattle.std.proofs.Common.{SFits}
use Rattle.whole.specs.Int.{abs_add_le, fits64}
use Rattle.whole.specs.Folds.{fold_keeps}
use Rattle.whole.specs.Filled.{get_d_same}
use Rattle.whole.specs.Written.{set_at}
use Rattle.paper.specs.Limits as Limits
use Rattle.paper.proofs.Kept.{either}
use Rattle.laws_volts.specs.Range.{set_end}
use Rattle.step_legs.specs.declared.Source.{Source}
use Rattle.step_legs.specs.Sums.{none, from_none}
use Rattle.step_sources.specs.Table.{value_of, Room, give, given}

pub none_room : Room 0 none
none_room = record { end = λ n. rw (get_d_same (suc Limits.node_end) n z) (omega arith) }

module _ (p : Source → Bool) (k : ℕ) where
  -- what a source gives at node n
  abbrev pub share : ℕ → Source → ℤ
  share n r = cond (p r && eqb r.node n) (value_of k r) z

  module _ (w : Words) (r : Source) where
    abbrev sum : ℤ
    sum = word w r.node +ℤ value_of k r

    pub give_is : (n : ℕ) (x : ℤ) → n ≡ r.node → x ≡ value_of k r → p r ≡ true → set w n (word w n +ℤ x) ≡ give p k w r
    unfolding give
    give_is n x e f g = rw (e, f, g)

    pub give_not : p r ≡ false → w ≡ give p k w r
    unfolding give
    give_not e = rw e

    give_length : length (give p k w r) ≡ length w
    unfolding give
    give_length = either (λ u. length u ≡ length w) (p r) _ w (length-set w r.node sum) refl

    give_at : (n : ℕ) → n < length w → word (give p k w r) n ≡ word w n +ℤ share n r
    unfolding give
    give_at n h = by (p r)
      where
        here : (t : Bool) → eqb r.node n ≡ t → cond t sum (word w n) ≡ word w n +ℤ cond t (value_of k r) z
        here true e = ap (λ (j : ℕ). word w j +ℤ value_of k r) (eqb-true r.node n e)
        here false e = sym (+ℤ_idr (word w n))

        by : (b : Bool) → word (cond b (set w r.node sum) w) n ≡ word w n +ℤ cond (b && eqb r.node n) (value_of k r) z
        by true = set_at w r.node n sum z h ∙ here (eqb r.node n) refl
        by false = sym (+ℤ_idr (word w n))

    -- one source more than j
    pub room_next : (j : ℕ) → Room j w → nat_abs (value_of k r) ≤ Limits.injection_end → Room (j + 1) (give p k w r)
    unfolding give
    room_next j room size = record { end = λ n. either (λ u. nat_abs (word u n) ≤ (j + 1) * Limits.injection_end) (p r) _ w (set_end w r.node n _ sum more (less n)) (less n) }
      where
        less : (n : ℕ) → nat_abs (word w n) ≤ (j + 1) * Limits.injection_end
        less n = omega (arith, room.end n)

        more : nat_abs sum ≤ (j + 1) * Limits.injection_end
        more = omega (arith, abs_add_le (word w r.node) (value_of k r) (room.end r.node) size)

  fold_at : (rows : List Source) (w : Words) (n : ℕ) → n < length w → word (fold (give p k) w rows) n ≡ word w n +ℤ total (share n) rows
  unfolding fold total
  fold_at [] w n h = sym (+ℤ_idr (word w n))
  fold_at (r ∷ rows) w n h =
      fold_at rows (give p k w r) n (rw (give_length w r) h) ∙ ap (λ (x : ℤ). x +ℤ total (share n) rows) (give_at w r n h) ∙ +ℤ_assoc (word w n) (share n r) (total (share n) rows)

  pub given_at : (rows : List Source) (n : ℕ) → n ≤ Limits.node_end → word (given p k rows) n ≡ total (share n) rows
  unfolding given
  given_at rows n h =
      fold_at rows none n (rw (length-replicate (suc Limits.node_end) z) (omega arith)) ∙ from_none n (total (share n) rows)

  pub given_length : (rows : List Source) → length (given p k rows) ≡ suc Limits.node_end
  unfolding given
  given_length rows = fold_keeps (λ w. length w ≡ suc Limits.node_end) (give p k) (λ w r e. give_length w r ∙ e) none rows (length-replicate (suc Limits.node_end) z)

-- what one more at a node with room asks
pub room_adds : {j : ℕ} {w : Words} → Room j w → j < Limits.source_end → (n : ℕ) (x : ℤ) → n ≤ Limits.node_end → nat_abs x ≤ Limits.injection_end
    → (n < 33) × SFits w64 (word w n) × SFits w64 (word w n +ℤ x)
room_adds {j} {w} room few n x node size =
    (omega arith, fits64 (word w n) (omega (arith, room.end n)), fits64 (word w n +ℤ x) (omega (arith, abs_add_le (word w n) x (room.end n) size)))

-- room beside fewer is room beside more
pub room_more : {i j : ℕ} {w : Words} → Room i w → i ≤ j → Room j w
room_more {i} {j} room h = record { end = λ n. le_trans (room.end n) (mul-le-mul_right Limits.injection_end h) }
