-- `text_write::put_row` meets its contract: the row's fields are the record's own words behind its kind. Assumes nothing.
use Rattle.std.specs.Prelude.{◌+◌, ◌*◌, ◌-◌, ◌<◌, ◌≤◌, ◌≡◌}
use Rattle.whole.specs.Plain.{true, ℕ, Words, length, le_of_eq, le_trans, arith, take, drop}
use Rattle.paper.specs.Network.{is_network}
use Rattle.paper.specs.Rows.{word_of, kind, fields_of}
use Rattle.paper.specs.Listing.{line_of}
use Rattle.paper.specs.Writing.{row_line}
use Rattle.laws_facts.specs.Layout.{arity_most}
use Rattle.laws_facts.specs.Nets.{net_in, row_at, network_length}
use Rattle.laws_facts.proofs.Nets.{net_sound}
use Rattle.list_digits.specs.Puts.{puts_as}
use Rattle.text_write.specs.Lines.{row_line_lem}
use Rattle.text_write.proofs.put_row.Goals as goal

most : (net : Words) (i : ℕ) → is_network net ≡ true → i < length (net_in net).rows → i < 80
most net i e h = omega (arith, h, (net_sound net e).row_most)

few : (k : ℕ) {n : ℕ} → n ≡ length (fields_of k) → n ≤ 5
few k e = le_trans (le_of_eq e) (arity_most k)

line_is : (net : Words) (i : ℕ) → i < length (net_in net).rows → {k n : ℕ} → k ≡ kind (row_at (net_in net) i) → n ≡ length (fields_of k)
    → line_of (word_of k) (take (9 + 8 * i + n - (9 + 8 * i)) (drop (9 + 8 * i) net)) ≡ row_line (row_at (net_in net) i)
line_is net i h {k} {n} e f =
    let d : 9 + 8 * i + n - (9 + 8 * i) ≡ n = omega arith in
    rw d (row_line_lem net i h e f)

pub put_line-requires : goal.put_line-requires
put_line-requires c =
    let net = c.args.net.words.now in
    rw (line_is net c.args.i c.requires.known c.kind-kind.ensures c.fields.ensures) c.requires.room

pub returns : goal.returns
returns c = puts_as (line_is c.args.net.words.now c.args.i c.requires.known c.kind-kind.ensures c.fields.ensures) c.put_line.ensures

pub overflow_mul-first : goal.overflow_mul-first
overflow_mul-first c = omega (arith, most c.args.net.words.now c.args.i c.args.net.passes c.requires.known)

pub overflow_add-first : goal.overflow_add-first
overflow_add-first c = omega (arith, most c.args.net.words.now c.args.i c.args.net.passes c.requires.known)

pub overflow_add-end : goal.overflow_add-end
overflow_add-end c = omega (arith, most c.args.net.words.now c.args.i c.args.net.passes c.requires.known, few _ c.fields.ensures)

pub offset_bounds-net-first : goal.offset_bounds-net-first
offset_bounds-net-first c = omega (arith, most c.args.net.words.now c.args.i c.args.net.passes c.requires.known, few _ c.fields.ensures)

pub slice_bounds-put_line-end : goal.slice_bounds-put_line-end
slice_bounds-put_line-end c =
    let net = c.args.net.words.now in
    omega (arith, most net c.args.i c.args.net.passes c.requires.known, few _ c.fields.ensures, network_length net c.args.net.passes)
