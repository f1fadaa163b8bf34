-- How a network is laid out, asked of its record alone: how many areas there are, a node's area, a branch's row. 9 for its length, 8, then 2 where there is no such
-- node or branch. Assumes nothing.
use Rattle.std.specs.Prelude.{Option, Some, None, is_some, Result, Ok, Err, ◌+◌, ◌-◌, ◌≤◌, ◌<◌, ◌≡◌, ◌&&◌}
use Rattle.whole.specs.Plain.{ℕ, zero, suc, refl, sym, ap, Bool, true, false, true≢false, ◌∙◌, cond, not, leb, eqb, eq-eqb, ne_eqb, length, arith, Words}
use Rattle.whole.specs.Named.{placed}
use Rattle.paper.specs.Limits as Limits
use Rattle.paper.specs.Network.{is_network, table_of}
use Rattle.paper.specs.Areas.{Net, net_of, area_of, area_count, branch_number}
use Rattle.paper.specs.declared.Unfit.{Unfit}
use Rattle.paper.specs.declared.Unfit.TheVariants as U
use Rattle.call_shape.specs.declared.Unasked.{Unasked}
use Rattle.call_shape.specs.declared.Unasked.TheVariants.{Nothing, Network, Store}

abbrev pub Asked : Type 0
Asked = Result ℕ Unasked

-- the paper's number; 0 for an accepted call
abbrev pub asked_number : Asked → ℕ
asked_number (Ok x) = 0
asked_number (Err Nothing) = 2
asked_number (Err Network) = 8
asked_number (Err Store) = 9

-- what is told, and 0 of a refusal
abbrev pub told_number : Asked → ℕ
told_number (Ok x) = x
told_number (Err y) = 0

-- lent memory that is unfit, as a question refuses it
abbrev pub unasked_of : Unfit → Unasked
unasked_of U.Network = Network
unasked_of U.Store = Store

-- of n numbers by place, from place i on, the place, from 1, of the first that is b; 0 where none is
unfoldable pub place_from : (ℕ → ℕ) → ℕ → ℕ → ℕ → ℕ
place_from f b i zero = 0
place_from f b i (suc n) = let r = place_from f b (suc i) n in cond (eqb (f i) b) (suc i) r

-- "Branches are numbered from 1 in table order": the row of branch b, from 1, is the first up to which b are counted
unfoldable pub branch_row : Net → ℕ → ℕ
branch_row N b = cond (leb 1 b) (place_from (λ i. branch_number N (suc i)) b 0 (length N.rows)) 0

abbrev pub or_nothing : ℕ → Asked
or_nothing zero = Err Nothing
or_nothing (suc n) = Ok (suc n)

unfoldable pub areas_in : Net → Asked
areas_in N = Ok (area_count N)

unfoldable pub area_in : Net → ℕ → Asked
area_in N n = cond (leb 1 n && leb n N.nodes) (Ok (area_of N n)) (Err Nothing)

unfoldable pub row_in : Net → ℕ → Asked
row_in N b = or_nothing (branch_row N b)

unfoldable pub of_network : Words → (Net → Asked) → Asked
of_network net f = cond (not (eqb (length net) Limits.network_words)) (Err Store) (cond (not (is_network net)) (Err Network) (f (net_of (table_of net))))

abbrev pub areas_asked : Words → Asked
areas_asked net = of_network net areas_in

abbrev pub area_asked : Words → ℕ → Asked
area_asked net n = of_network net (λ N. area_in N n)

abbrev pub row_asked : Words → ℕ → Asked
row_asked net b = of_network net (λ N. row_in N b)

-- the place from 1 of a place from 0
abbrev named_place : Option ℕ → ℕ
named_place None = 0
named_place (Some i) = suc i

-- ---- one place after another

pub place_next : (f : ℕ → ℕ) (b i rows : ℕ) → i < rows → place_from f b i (rows - i) ≡ cond (eqb (f i) b) (suc i) (place_from f b (suc i) (rows - suc i))
unfolding place_from
place_next f b i rows h = let e : rows - i ≡ suc (rows - suc i) = omega arith in rw e

-- two ways to number, over the same rows
pub place_same : (f g : ℕ → ℕ) (b i n : ℕ) → ((j : ℕ) → j < i + n → f j ≡ g j) → place_from f b i n ≡ place_from g b i n
unfolding place_from
place_same f g b i zero h = refl
place_same f g b i (suc n) h = rw (h i (omega arith), place_same f g b (suc i) n (λ j l. h j (omega arith)))

pub place_hit : (f : ℕ → ℕ) (b i rows : ℕ) → i < rows → f i ≡ b → place_from f b i (rows - i) ≡ suc i
place_hit f b i rows h e = place_next f b i rows h ∙ rw (eq-eqb (f i) b e)

pub place_pass : (f : ℕ → ℕ) (b i rows : ℕ) → i < rows → (f i ≡ b → ⊥) → place_from f b (i + 1) (rows - (i + 1)) ≡ place_from f b i (rows - i)
place_pass f b i rows h n = let e : i + 1 ≡ suc i = omega arith in rw e (sym (place_next f b i rows h ∙ rw (ne_eqb (f i) b n)))

-- what is told of a place, from 0 in the code
pub told_place : (p : ℕ) {i : ℕ} → Some i ≡ placed p → Ok (i + 1) ≡ or_nothing p
told_place zero e = absurd (true≢false (ap is_some e))
told_place (suc p) {i} e = let q : i + 1 ≡ suc i = omega arith in rw q (ap (λ (x : Option ℕ). or_nothing (named_place x)) e)

pub told_nothing : (p : ℕ) → None ≡ placed p → Err Nothing ≡ or_nothing p
told_nothing zero e = refl
told_nothing (suc p) e = absurd (true≢false (sym (ap is_some e)))

pub place_most : (f : ℕ → ℕ) (b i n : ℕ) → place_from f b i n ≤ i + n
unfolding place_from
place_most f b i zero = omega arith
place_most f b i (suc n) = by (eqb (f i) b) (place_from f b (suc i) n) (place_most f b (suc i) n)
  where
    by : (t : Bool) (l : ℕ) → l ≤ suc i + n → cond t (suc i) l ≤ i + suc n
    by true l h = omega arith
    by false l h = omega arith

pub place_in : (f : ℕ → ℕ) (b n : ℕ) {i : ℕ} → Some i ≡ placed (place_from f b 0 n) → i < n
place_in f b n e = by (place_from f b 0 n) e (place_most f b 0 n)
  where
    by : (p : ℕ) {i : ℕ} → Some i ≡ placed p → p ≤ 0 + n → i < n
    by zero e h = absurd (true≢false (ap is_some e))
    by (suc p) e h = omega (arith, ap named_place e)
