-- A node's voltage, its largest magnitude and the first step where it came (02, peaks), "so that asking doesn't go through the listing": by node number, 9, 8, 10
-- of the records alone, 2 for no such node. Nothing is lent to be written. Assumes nothing.
use Rattle.std.specs.Prelude.{Ok, Err}
use Rattle.std.specs.Prelude.{◌≡◌, ◌&&◌}
use Rattle.whole.specs.Plain.{ℕ, sym, ◌∙◌, cond, not, leb, eqb, ℤ, nat_abs, length, Words, z, word}
use Rattle.paper.specs.Replies.{Looking, told_of}
use Rattle.paper.specs.declared.Told.{Told}
use Rattle.paper.specs.declared.Unlooked.{Unlooked}
use Rattle.paper.specs.declared.Unlooked.TheVariants.{Node, Network, Store, State}
use Rattle.paper.specs.Limits as Limits
use Rattle.paper.specs.Network.{is_network, table_of}
use Rattle.paper.specs.Areas.{Net, net_of}
use Rattle.paper.specs.Records.{volt_at, peak_at, peak_step_at, records_formed}

-- the paper's number; 0 for an accepted call
abbrev pub unlooked_number : Unlooked → ℕ
unlooked_number Node = 2
unlooked_number Network = 8
unlooked_number Store = 9
unlooked_number State = 10

abbrev pub looking_number : Looking → ℕ
looking_number (Ok t) = 0
looking_number (Err x) = unlooked_number x

-- what is told, and 0 of a refusal
abbrev pub told_voltage : Looking → ℤ
told_voltage (Ok t) = t.voltage
told_voltage (Err x) = z

abbrev pub of_told : (Told → ℕ) → Looking → ℕ
of_told f (Ok t) = f t
of_told f (Err x) = 0

abbrev pub told_peak : Looking → ℕ
told_peak = of_told (λ t. t.peak)

abbrev pub told_step : Looking → ℕ
told_step = of_told (λ t. t.step)

abbrev pub told : Net → Words → ℕ → Looking
told N recs n = Ok (told_of (word recs (volt_at N n)) (nat_abs (word recs (peak_at N n))) (nat_abs (word recs (peak_step_at N n))))

unfoldable pub look_net : Net → Words → ℕ → Looking
look_net N recs n = cond (not (records_formed N recs)) (Err State) (cond (not (leb 1 n && leb n N.nodes)) (Err Node) (told N recs n))

unfoldable pub look_of : Words → Words → ℕ → Looking
look_of net recs n =
    cond (not (eqb (length net) Limits.network_words && eqb (length recs) Limits.record_words)) (Err Store)
    (cond (not (is_network net)) (Err Network)
    (look_net (net_of (table_of net)) recs n))

-- ---- what the contract says of the answer, on all inputs, and that it leaves nothing open

pub record Looks (net recs : Words) (n : ℕ) (x : Looking) : Type 0 where
  pub answer : x ≡ look_of net recs n

pub look_one : (net recs : Words) (n : ℕ) {x y : Looking} → Looks net recs n x → Looks net recs n y → x ≡ y
look_one net recs n p q = p.answer ∙ sym q.answer
