-- An area's advance. "Advancing: 9, 8, then 10 to 17"; "Every refusal leaves all lent memory unchanged." Assumes nothing.
use Rattle.std.specs.Prelude.{Ok, Err}
use Rattle.std.specs.Prelude.{◌+◌, ◌%◌, ◌&&◌, ◌||◌, ◌∷◌}
use Rattle.whole.specs.Plain.{ℕ, zero, suc, Bool, true, false, cond, not, List, [], leb, ltb}
use Rattle.whole.specs.Plain.{eqb, ℤ, set, length, Words}
use Rattle.paper.specs.Replies.{Advance}
use Rattle.paper.specs.declared.Refusal.TheVariants.{Network, Store, State, Area, Done, Wait}
use Rattle.whole.specs.Turns.{turns}
use Rattle.paper.specs.Limits as Limits
use Rattle.paper.specs.Rows.{Row, is_line, from, to, steps}
use Rattle.paper.specs.Faults.{delay, slots}
use Rattle.paper.specs.Network.{is_network, table_of}
use Rattle.paper.specs.Areas.{Net, net_of, area_of, area_count, branch_number, step}
use Rattle.paper.specs.Records.{Found, count_of, offset, owner_of, next_of, well_formed}
use Rattle.paper.specs.Legs.{End, Branch, branch_in, here, heard, legs_of, passed_on}
use Rattle.paper.specs.Solve.{Step, stop, move, solve}

-- what is lent to be written
pub record Memory : Type 0 where
  pub records : Words
  pub froms : Words
  pub tos : Words

abbrev pub memory : Words → Words → Words → Memory
memory r f t = record { records = r; froms = f; tos = t }

pub record Advanced : Type 0 where
  pub answer : Advance
  pub after : Memory

abbrev pub advanced : Advance → Memory → Advanced
advanced a m = record { answer = a; after = m }

-- ---- 13 WAIT: "a far area's count is below k - d"; "The wait rule reads k - q"

abbrev pub late : Net → Words → ℕ → Row → ℕ → Bool
late N recs k r far = ltb (count_of recs (area_of N far) + delay (step N) r) k

unfoldable pub waits_for : Net → ℕ → ℕ → Words → Row → Bool
waits_for N a k recs r =
    is_line r && ((here N a (from r) && late N recs k r (to r)) || (here N a (to r) && late N recs k r (from r)))

-- the first such row's place, from 1, or 0
unfoldable pub first_late : Net → ℕ → ℕ → Words → ℕ → List Row → ℕ
first_late N a k recs i [] = 0
first_late N a k recs i (r ∷ rs) = let l = first_late N a k recs (suc i) rs in cond (waits_for N a k recs r) (suc i) l

-- ---- what an accepted step writes

unfoldable pub put_if : Bool → Words → ℕ → ℤ → Words
put_if true w i x = set w i x
put_if false w i x = w

-- the words of the area's own, and no others
unfoldable pub renewed : Net → ℕ → Found → ℕ → Words → Words
renewed N a f j [] = []
renewed N a f j (x ∷ w) = cond (eqb (owner_of N j) a) (next_of N f j) x ∷ renewed N a f (suc j) w

abbrev pub found : ℕ → List Branch → Words → Words → Found
found k bs v w = record { step = k; legs = bs; volts = v; before = w }

unfoldable pub new_records : Net → ℕ → ℕ → List Branch → Words → Words → Words
new_records N a k bs v w = renewed N a (found k bs v w) 0 w

-- "An area's advance writes only the slots of its own line ends."
unfoldable pub put_sent : Net → ℕ → (Branch → End) → List Branch → Words → ℕ → Words → Words
put_sent N k end bs v i w =
    let b = branch_in bs i in
    put_if (is_line b.row && (end b).own) w (offset N i + k % slots N.head b.row) (passed_on v b.row (end b).wire)

unfoldable pub new_store : Net → ℕ → (Branch → End) → List Branch → Words → Words → Words
new_store N k end bs v w = turns 0 (length bs) (put_sent N k end bs v) w

unfoldable pub written : Net → ℕ → ℕ → List Branch → Words → Memory → Memory
written N a k bs v m =
    memory (new_records N a k bs v m.records) (new_store N k (λ b. b.is_from_end) bs v m.froms) (new_store N k (λ b. b.is_to_end) bs v m.tos)

-- ---- the call

abbrev pub finish : Net → ℕ → ℕ → Memory → Step → Advanced
finish N a k m (stop x) = advanced (Err x) m
finish N a k m (move bs v) = advanced (Ok k) (written N a k bs v m)

-- "an advance depends on nothing but the network, its own area's records, the far counts and the far values it reads."
unfoldable pub take_step : Net → ℕ → ℕ → Memory → List Branch → Advanced
take_step N a k m bs = finish N a k m (solve N a k bs)

unfoldable pub ready : Net → ℕ → ℕ → Memory → Advanced
ready N a k m = take_step N a k m (legs_of N a k m.records (heard N a k m.froms m.tos))

abbrev pub or_wait : Net → Memory → Advanced → ℕ → Advanced
or_wait N m next zero = next
or_wait N m next (suc r) = advanced (Err (Wait (branch_number N (suc r)))) m

unfoldable pub on_next : Net → ℕ → ℕ → Memory → Advanced
on_next N a k m = or_wait N m (ready N a k m) (first_late N a k m.records 0 N.rows)

-- 10 STATE, 11 AREA: "no such area", 12 DONE: "the area has taken all steps"
unfoldable pub on_net : Net → ℕ → Memory → Advanced
on_net N a m =
    cond (not (well_formed N m.records m.froms m.tos)) (advanced (Err State) m)
    (cond (not (leb 1 a && leb a (area_count N))) (advanced (Err Area) m)
    (cond (leb (steps N.head) (count_of m.records a)) (advanced (Err Done) m)
    (on_next N a (suc (count_of m.records a)) m)))

-- 9 STORE: "a lent length wrong: network 1,024 signed 64-bit words, .. line stores 4,096 each"; with peaks (02) "9 follows the new length" of the records
unfoldable pub fits : Words → Memory → Bool
fits net m =
    eqb (length net) Limits.network_words
    && eqb (length m.records) Limits.record_words
    && eqb (length m.froms) Limits.store_words
    && eqb (length m.tos) Limits.store_words

unfoldable pub advance_of : Words → ℕ → Memory → Advanced
advance_of net a m =
    cond (not (fits net m)) (advanced (Err Store) m)
    (cond (not (is_network net)) (advanced (Err Network) m)
    (on_net (net_of (table_of net)) a m))
