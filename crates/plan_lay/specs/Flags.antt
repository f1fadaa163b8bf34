-- "A node with a VS is fixed": flags by node, set row by row. Assumes nothing.
use Rattle.std.specs.Prelude.{◌+◌, ◌≤◌, ◌<◌, ◌≡◌, ◌&&◌, ◌||◌}
use Rattle.whole.specs.Plain.{ℕ, suc, refl, sym, ap, ◌∙◌, Bool, true, false, cond, List}
use Rattle.whole.specs.Plain.{[], eqb, length, get_or, take, set, replicate, length-set, length-replicate, get_or-replicate}
use Rattle.whole.specs.Plain.{take-suc, take-length, arith, any}
use Rattle.std.proofs.Common.{add-one}
use Rattle.whole.specs.Folds.{any_append}
use Rattle.whole.specs.Truths.{or_false, or-true}
use Rattle.whole.specs.Written.{set_at}
use Rattle.paper.specs.Limits as Limits
use Rattle.paper.specs.Rows.{is_fixing, at}
use Rattle.paper.specs.Faults.{fixes}
use Rattle.paper.specs.Areas.{Net, fixed}
use Rattle.laws_facts.specs.Nets.{row_at}

pub record FlaggedTo (N : Net) (i : ℕ) (flags : List Bool) : Type 0 where
  pub long : length flags ≡ suc Limits.node_end
  pub flag_at : (n : ℕ) → n ≤ Limits.node_end → get_or flags n false ≡ any (fixes n) (take i N.rows)

pub record Flagged (N : Net) (flags : List Bool) : Type 0 where
  pub flag_at : (n : ℕ) → n ≤ Limits.node_end → get_or flags n false ≡ fixed N n

-- row i's flag
unfoldable pub flag_row : Net → ℕ → List Bool → List Bool
flag_row N i l = cond (is_fixing (row_at N i)) (set l (at (row_at N i)) true) l

module _ (N : Net) (i : ℕ) (l : List Bool) where
  pub flag_put : (n : ℕ) → is_fixing (row_at N i) ≡ true → n ≡ at (row_at N i) → set l n true ≡ flag_row N i l
  unfolding flag_row
  flag_put n e f = rw (f, e)

  pub flag_not : is_fixing (row_at N i) ≡ false → l ≡ flag_row N i l
  unfolding flag_row
  flag_not e = rw e

  length_flag : length (flag_row N i l) ≡ length l
  unfolding flag_row
  length_flag = elim (is_fixing (row_at N i)) as (λ b. length (cond b (set l (at (row_at N i)) true) l) ≡ length l) [ true ↦ length-set l (at (row_at N i)) true | false ↦ refl ]

  flag_here : (n : ℕ) → n < length l → get_or (flag_row N i l) n false ≡ (get_or l n false || fixes n (row_at N i))
  unfolding flag_row fixes
  flag_here n h = go (is_fixing (row_at N i))
    where
      either : (t : Bool) → cond t true (get_or l n false) ≡ (get_or l n false || t)
      either true = sym (or-true (get_or l n false))
      either false = sym (or_false (get_or l n false))

      go : (b : Bool) → get_or (cond b (set l (at (row_at N i)) true) l) n false ≡ (get_or l n false || (b && eqb (at (row_at N i)) n))
      go true = set_at l (at (row_at N i)) n true false h ∙ either (eqb (at (row_at N i)) n)
      go false = sym (or_false (get_or l n false))

any_next : {A : Type 0} (p : A → Bool) (l : List A) (i : ℕ) (d : A) → i < length l → any p (take (i + 1) l) ≡ (any p (take i l) || p (get_or l i d))
unfolding any
any_next p l i d h = rw (add-one i, take-suc l i d, any_append, or_false (p (get_or l i d)))

pub flagged_none : (N : Net) → FlaggedTo N 0 (replicate (suc Limits.node_end) false)
unfolding any
flagged_none N = record { long = length-replicate (suc Limits.node_end) false; flag_at = λ n h. get_or-replicate (suc Limits.node_end) n false false (omega arith) }

pub flagged_more : {N : Net} {i : ℕ} {l : List Bool} → FlaggedTo N i l → i < length N.rows → FlaggedTo N (i + 1) (flag_row N i l)
flagged_more {N} {i} {l} f h = record {
  long = length_flag N i l ∙ f.long;
  flag_at = λ n k. flag_here N i l n (omega (arith, f.long)) ∙ ap (λ (b : Bool). b || fixes n (row_at N i)) (f.flag_at n k) ∙ sym (any_next (fixes n) N.rows i [] h);
}

pub flagged_all : {N : Net} {l : List Bool} → FlaggedTo N (length N.rows) l → Flagged N l
unfolding fixed
flagged_all {N} f = record { flag_at = λ n k. rw take-length at (f.flag_at n k) }
