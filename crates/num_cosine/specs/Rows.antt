-- The quarter table in rows of four, each entry in its row. Assumes nothing.
use Rattle.std.specs.Prelude.{◌+◌, ◌*◌, ◌/◌, ◌%◌, ◌≡◌}
use Rattle.whole.specs.Plain.{ℕ, ap, ◌∙◌, List, get_or, div-add-mod', mod-lt, arith}
use Rattle.whole.specs.Tables.{table, table_at}
use Rattle.num_cosine.specs.Quarter.{entry}

unfoldable pub row_of : ℕ → List ℕ
row_of r = table 4 (λ i. entry (4 * r + i))

pub row_entry : (j : ℕ) → get_or (row_of (j / 4)) (j % 4) 0 ≡ entry j
unfolding row_of
row_entry j =
    let e : 4 * (j / 4) + j % 4 ≡ j = omega (arith, div-add-mod' j 4) in
    table_at 4 (λ i. entry (4 * (j / 4) + i)) 0 (j % 4) (mod-lt j (omega arith)) ∙ ap entry e
