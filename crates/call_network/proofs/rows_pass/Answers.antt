-- `call_network::rows_pass` meets its contract: one that fails is refusal 8, and after the last there is none. Assumes nothing.
use Rattle.std.specs.Prelude.{◌≡◌, ◌<◌, ◌≤◌, Option, Some, None}
use Rattle.whole.specs.Plain.{ℕ, Bool, refl, sym, ap, ◌∙◌, true, false, cond, List, [], length, get_or, Words, arith}
use Rattle.text_faults.specs.declared.Seen.{Seen}
use Rattle.call_network.specs.Judged.{words_of, rows_in, good_row}
use Rattle.call_network.specs.Laws.{replayed_next, judged_true}
use Rattle.call_network.specs.Replayed.{row_words, rows_count}
use Rattle.call_network.specs.Refused.{row_refused}
use Rattle.call_network.proofs.rows_pass.Goals as goal

unmade : (b : Bool) (x : Seen) → ◌≡◌ {A = Option Seen} None (cond b (Some x) None) → b ≡ false
unmade true x e = absurd (let q : ◌≡◌ {A = ℕ} 0 1 = cc in omega arith)
unmade false x e = refl

made : (b : Bool) (x y : Seen) → ◌≡◌ {A = Option Seen} (Some y) (cond b (Some x) None) → (b ≡ true) × (y ≡ x)
made true x y e = (refl, cc)
made false x y e = absurd (let q : ◌≡◌ {A = ℕ} 0 1 = cc in omega arith)

-- what the loop meets is the row's words
met : (net : Words) (rows i : ℕ) (l : List Words) → rows ≤ 80 → l ≡ rows_in net rows → i < length l → (i < rows) × (get_or l i [] ≡ words_of net i)
met net rows i l few e h =
    let k : i < rows = omega (arith, ap length e, rows_count net rows few) in
    (k, ap (λ (t : List Words). get_or t i []) e ∙ row_words net rows i [] few k)

pub returns-in_default : goal.returns-in_default
returns-in_default c =
    let m = met c.args.net.now c.args.rows c.loop-words.words-index _ c.requires.sized.few c.rows_in-words-items.ensures c.loop-words-test.true in
    row_refused c.args.net.now c.args.rows c.requires.sized c.loop-words.seen c.loop-words.words-index m.0 c.loop-words.invariant.stands
    (ap (good_row c.loop-words.seen) (sym m.1) ∙ unmade _ _ c.in_default.ensures)

pub loop-words-preserved : goal.loop-words-preserved
loop-words-preserved c =
    let m = met c.args.net.now c.args.rows c.loop-words.words-index _ c.requires.sized.few c.rows_in-words-items.ensures c.loop-words-test.true in
    let n = made _ _ _ c.in-Some.ensures in
    rw (n.1, m.1)
    (replayed_next c.args.net.now c.args.rows c.requires.sized c.loop-words.seen c.loop-words.words-index m.0 (ap (good_row c.loop-words.seen) (sym m.1) ∙ n.0) c.loop-words.invariant)

pub returns : goal.returns
returns c =
    let n : length c.rows_in-words-items.result.now ≡ c.args.rows = ap length c.rows_in-words-items.ensures ∙ rows_count c.args.net.now c.args.rows c.requires.sized.few in
    let e : c.loop-words.words-index ≡ c.args.rows = omega arith in
    judged_true c.args.net.now c.args.rows c.requires.sized c.loop-words.seen c.requires.rows_value.0 (rw e at c.loop-words.invariant)
