-- A table of lines that passes, written down as a record, is a network: what the record says is the table again. Assumes nothing.
use Rattle.std.specs.Prelude.{◌-◌, ◌<◌, ◌≡◌, ◌∷◌, ◌++◌}
use Rattle.whole.specs.Plain.{ℕ, suc, refl, sym, ap, ◌∙◌, subst, Bool, true, false, bool_beq, true≢false}
use Rattle.whole.specs.Plain.{List, [], tail, append_assoc, ℤ, pos, negsuc, length, replicate, take_at}
use Rattle.whole.specs.Plain.{drop_at, eq-eqb, eqb-true, le-leb, arith, Words, z, between, same, same_words, filled}
use Rattle.whole.specs.Folds.{and_right, both}
use Rattle.paper.specs.Limits as Limits
use Rattle.paper.specs.Rows.{Row, Field, kinds, fields_of, kind, is_study}
use Rattle.paper.specs.Network.{Table, laid, network_of, row_of_words, rows_of, count_of_rows, table_of, passes, is_network}
use Rattle.whole.specs.Filled.{length_filled}
use Rattle.laws_facts.specs.Layout.{arity_most}
use Rattle.laws_facts.specs.Table.{row_most_lem}
use Rattle.laws_spelling.specs.Numbers.{speakable, all_speakable}
use Rattle.laws_spelling.specs.Lines.{Sayable}
use Rattle.laws_spelling.specs.Texts.{Sayables}

same_words_lem : (w : Words) → same_words w w ≡ true
unfolding same_words same
same_words_lem [] = refl
same_words_lem (pos a ∷ w) = both (eq-eqb a a refl) (same_words_lem w)
same_words_lem (negsuc a ∷ w) = both (eq-eqb a a refl) (same_words_lem w)

-- ---- a row

speak_length : (fs : List Field) (w : Words) → all_speakable fs w ≡ true → length w ≡ length fs
unfolding all_speakable
speak_length [] [] e = refl
speak_length [] (x ∷ w) e = absurd (true≢false (sym e))
speak_length (f ∷ fs) [] e = absurd (true≢false (sym e))
speak_length (f ∷ fs) (x ∷ w) e = ap suc (speak_length fs w (and_right (speakable f x) (all_speakable fs w) e))

pub tail_length : (r : Row) → Sayable r → length (tail r) ≡ length (fields_of (kind r))
tail_length r s = speak_length (fields_of (kind r)) (tail r) s.numbers

row_length : (r : Row) → Sayable r → length r ≡ suc (length (fields_of (kind r)))
row_length r s = ap length s.whole ∙ ap suc (tail_length r s)

-- a row's words, filled up, give the row back
row_back : (r : Row) → Sayable r → row_of_words (filled 8 z r) ≡ r
unfolding row_of_words filled
row_back [] s = absurd (omega (arith, row_length [] s))
row_back (x ∷ xs) s = take_at (x ∷ xs) (replicate (8 - length (x ∷ xs)) z) (suc (length (fields_of (kind (x ∷ xs))))) (row_length (x ∷ xs) s)

rows_back : (f : Bool) (rs : List Row) (w : Words) → Sayables f rs → rows_of (length rs) (laid rs ++ w) ≡ rs
unfolding rows_of laid
rows_back f [] w s = refl
rows_back f (r ∷ rs) w s =
    let l : length (filled 8 z r) ≡ 8 = length_filled 8 z r (omega (arith, row_length r s.0, arity_most (kind r))) in
    let e : (filled 8 z r ++ laid rs) ++ w ≡ filled 8 z r ++ (laid rs ++ w) = append_assoc (filled 8 z r) (laid rs) w in
    rw (e, take_at (filled 8 z r) (laid rs ++ w) 8 l, drop_at (filled 8 z r) (laid rs ++ w) 8 l, row_back r s.0, rows_back false rs w s.2)

-- ---- the study's row

pub record Study (s : Row) : Type 0 where
  pub x : ℤ
  pub y : ℤ
  pub w : ℤ
  pub is : s ≡ z ∷ x ∷ y ∷ w ∷ []

pub study_fields : length (fields_of 0) ≡ 3
unfolding fields_of kinds
study_fields = refl

pub study_row : (r : Row) → Sayable r → bool_beq true (is_study r) ≡ true → Study r
study_row r s e = go (tail r) (tail_length r s ∙ ap (λ (k : ℕ). length (fields_of k)) k ∙ study_fields) (s.whole ∙ ap (λ (k : ℕ). pos k ∷ tail r) k)
  where
    k : kind r ≡ 0
    k = eqb-true (kind r) 0 (elim (is_study r) as (λ b. bool_beq true b ≡ true → b ≡ true) [ true ↦ λ q. q | false ↦ λ q. q ] e)

    go : (l : Words) → length l ≡ 3 → r ≡ z ∷ l → Study r
    go [] h q = absurd (omega arith)
    go (a ∷ []) h q = absurd (omega arith)
    go (a ∷ (b ∷ [])) h q = absurd (omega arith)
    go (a ∷ (b ∷ (c ∷ []))) h q = record { x = a; y = b; w = c; is = q }
    go (a ∷ (b ∷ (c ∷ (d ∷ m)))) h q = absurd (omega arith)

-- ---- the record

table_back : (x y w : ℤ) (rs : List Row) → Sayables false rs → table_of (network_of ((z ∷ x ∷ y ∷ w ∷ []) ∷ rs)) ≡ (z ∷ x ∷ y ∷ w ∷ []) ∷ rs
unfolding table_of network_of filled
table_back x y w rs s = ap (λ (l : List Row). (z ∷ x ∷ y ∷ w ∷ []) ∷ l) (rows_back false rs _ s)

pub table_again : (rows : Table) → 0 < length rows → Sayables true rows → table_of (network_of rows) ≡ rows
table_again [] h s = absurd (omega arith)
table_again (r ∷ rs) h s =
    let q = study_row r s.0 s.1 in
    subst (λ (r : Row). table_of (network_of (r ∷ rs)) ≡ r ∷ rs) (sym q.is) (table_back q.x q.y q.w rs s.2)

row_count : (x y w : ℤ) (rs : List Row) → count_of_rows (network_of ((z ∷ x ∷ y ∷ w ∷ []) ∷ rs)) ≡ pos (length rs)
unfolding network_of filled
row_count x y w rs = refl

study_network : (x y w : ℤ) (rs : List Row) → Sayables false rs → passes ((z ∷ x ∷ y ∷ w ∷ []) ∷ rs) ≡ true → is_network (network_of ((z ∷ x ∷ y ∷ w ∷ []) ∷ rs)) ≡ true
unfolding is_network between
study_network x y w rs s e =
    rw (table_back x y w rs s, e, same_words_lem, row_count x y w rs, le-leb 0 (length rs) (omega arith), le-leb (length rs) Limits.row_end (row_most_lem (z ∷ x ∷ y ∷ w ∷ []) rs e))

pub table_network : (rows : Table) → 0 < length rows → Sayables true rows → passes rows ≡ true → is_network (network_of rows) ≡ true
table_network [] h s e = absurd (omega arith)
table_network (r ∷ rs) h s e =
    let q = study_row r s.0 s.1 in
    subst (λ (r : Row). passes (r ∷ rs) ≡ true → is_network (network_of (r ∷ rs)) ≡ true) (sym q.is) (λ e. study_network q.x q.y q.w rs s.2 e) e
