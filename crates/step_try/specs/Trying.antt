-- A step tried on what is kept for it: what it goes by, what it leaves in the legs, and that it is the paper's step. Assumes nothing.
use Rattle.std.specs.Prelude.{Some, None, Result, Ok, Err, ⊤}
use Rattle.whole.specs.Plain.{ℕ, zero, suc, refl, sym, ap, ◌∙◌, Bool, true, false, cond, List}
use Rattle.whole.specs.Plain.{[], map, T, ℤ, pos, non_neg, length, get_or, take, arith, Words, z, word, nat}
use Rattle.std.specs.Prelude.{Float, ◌+◌, ◌-◌, ◌≤◌, ◌<◌, ◌≡◌, ◌∷◌}
use Rattle.paper.specs.Replies.{Advance}
use Rattle.paper.specs.declared.Refusal.TheVariants.{Unbalanced, History}
use Rattle.whole.specs.Named.{named, placed}
use Rattle.whole.specs.Size.{∣◌∣≤◌}
use Rattle.paper.specs.Limits as Limits
use Rattle.paper.specs.Rows as Rows
use Rattle.paper.specs.Areas.{Net, fixed, free_of, area_of, branch_number}
use Rattle.paper.specs.Sources.{injected}
use Rattle.paper.specs.Elimination.{voltages}
use Rattle.paper.specs.Legs.{Leg, Branch, legs_of, heard, both_legs}
use Rattle.paper.specs.Floating.{floating}
use Rattle.paper.specs.Solve.{stop, solve, still_of, system, proposed, out_of_range, settled, unbalanced, first_beyond}
use Rattle.laws_facts.specs.Nets.{NetSound}
use Rattle.plan_ends.specs.Own.{source_lines}
use Rattle.plan_rows.specs.declared.Row.{Row}
use Rattle.plan_rows.specs.Planned.{Plan, row_in, row_of, Planned}
use Rattle.step_legs.specs.declared.Wire.{Wire}
use Rattle.step_legs.specs.declared.Source.{Source}
use Rattle.step_legs.specs.Wires.{wire_at, legs_in, wires_in, Wires, Sized}
use Rattle.step_legs.specs.Shares.{Volts}
use Rattle.step_legs.specs.Sums.{Near}
use Rattle.step_legs.specs.Free.{Free}
use Rattle.step_factors.specs.Factors.{Serves}
use Rattle.step_factors.specs.Positions.{bare}
use Rattle.step_factors.specs.Proposed.{matrix_of}
use Rattle.step_sources.specs.Table.{Sources, is_fixing, is_iS, given}
use Rattle.step_sources.specs.Own.{own_sources_lem, own_still, own_injected, still_volts}
use Rattle.step_histories.specs.Heard.{heard_leg}
use Rattle.step_histories.specs.Laws.{heard_laid}
use Rattle.step_own.specs.Ends.{Kept}
use Rattle.step_own.specs.Laid.{Laid, wires_are, legs_are, bares_are, laid_sized}
use Rattle.laws_local.specs.Own.{legs_length}
use Rattle.step_own.specs.Paper as Own
use Rattle.step_floating.specs.Free.{free_node, free_nodes}
use Rattle.step_floating.specs.Local.{floating_joins, joins_bare}
use Rattle.step_flow.specs.Flown.{flown}
use Rattle.step_flow.specs.Beyond.{passed_beyond, first_row, first_by}
use Rattle.step_prepare.specs.Serving.{Serving}
use Rattle.step_solve.specs.declared.OutOfRange.{OutOfRange}
use Rattle.step_solve.specs.Settling.{refusal_of, Solved, refused, refused_is, refused_none, settled_volts}
use Rattle.step_try.specs.declared.At.{At}
use Rattle.step_try.specs.Outcomes.{Tried, tried_stop, tried_move, in_turn, on_range, on_balance, on_history, on_none, solve_turns, found}
use Rattle.step_try.specs.Beyond.{first_is, beyond_most}

-- an area's own parts of the tables, prepared for the step, and a well-formed state
pub record Trying (N : Net) (a : ℕ) (plan : Plan) (sources : List Source) (free : List ℕ) (legs : List Wire) (f : List (List Float)) (recs froms tos : Words) (at : At) : Type 0 where
  pub sound : NetSound N
  pub one : 1 ≤ a
  pub planned : Planned N plan
  pub sources_are : sources ≡ source_lines N a
  pub free_are : free ≡ free_of N a
  pub room : at.base + length free ≤ 32
  pub serving : Serving N a at.k recs at.base legs f
  pub kept : Kept recs froms tos
  pub limit : at.limit ≡ pos (Rows.limit N.head)
  pub few : at.k ≤ Limits.steps_end

pub record Known (plan : Plan) (sources : List Source) (free : List ℕ) (legs : List Wire) (f : List (List Float)) (recs froms tos : Words) (at : At) : Type 0 where
  pub net : Net
  pub area : ℕ
  pub trying : Trying net area plan sources free legs f recs froms tos at

abbrev pub branches : Net → ℕ → ℕ → Words → Words → Words → List Branch
branches N a k recs froms tos = legs_of N a k recs (heard N a k froms tos)

-- the legs that an accepted step is written from
pub record Flowing (N : Net) (a k : ℕ) (recs froms tos v : Words) (lines : List Wire) : Type 0 where
  pub legs : List Wire
  pub laid : Laid N a k recs froms tos legs
  pub flows : lines ≡ map (flown v) legs
  pub volts : Volts v

-- what 16 and 17 go by
pub record Judging (legs : List Wire) (free : List ℕ) (out given : Words) (at : At) : Type 0 where
  pub wires : Wires legs
  pub nodes : Free free
  pub near : Near Limits.node_end out given
  pub limit_sign : T (non_neg at.limit)
  pub limit_end : ∣ at.limit ∣≤ 1000000000000000

none_some : {n : ℕ} → None ≡ Some n → ⊥
none_some e = cc

-- 16 and 17 in turn, by their places; the number is that of the branch at the second
abbrev pub in_flow : ℕ → ℕ → ℕ → ℕ → Advance
in_flow k (suc b) h number = Err (Unbalanced (suc b))
in_flow k zero (suc h) number = Err (History number)
in_flow k zero zero number = Ok k

module _ (k : ℕ) where
  pub flow_unbalanced : (b h n : ℕ) {p : ℕ} → named b ≡ Some p → Err (Unbalanced p) ≡ in_flow k b h n
  flow_unbalanced zero h n e = absurd (none_some e)
  flow_unbalanced (suc b) h n {p} e = let q : suc b ≡ p = cc in rw q

  pub flow_beyond : (b h : ℕ) (f : ℕ → ℕ) {i : ℕ} → named b ≡ None → placed h ≡ Some i → Err (History (f i)) ≡ in_flow k b h (f (h - 1))
  flow_beyond (suc b) h f d e = absurd (none_some (sym d))
  flow_beyond zero zero f d e = absurd (none_some e)
  flow_beyond zero (suc h) f {i} d e = let q : h ≡ i = cc in let o : suc h - 1 ≡ h = omega arith in rw (o, q)

  pub flow_takes : (b h n : ℕ) → named b ≡ None → placed h ≡ None → Ok k ≡ in_flow k b h n
  flow_takes (suc b) h n d e = absurd (none_some (sym d))
  flow_takes zero (suc h) n d e = absurd (none_some (sym e))
  flow_takes zero zero n d e = refl

-- the place is a row's
row_most : (legs : List Wire) → ((j : ℕ) → j < length legs → (wire_at legs j).row < 80) → first_row legs ≤ 80
unfolding first_row
row_most [] h = omega arith
row_most (w ∷ legs) h = either (passed_beyond w) (first_row legs) (row_most legs (λ j q. h (suc j) (omega arith)))
  where
    either : (t : Bool) (r : ℕ) → r ≤ 80 → cond t (suc w.row) r ≤ 80
    either true r q = omega (arith, h 0 (omega arith))
    either false r q = q

pub place_most : {legs : List Wire} {i : ℕ} → Wires legs → placed (first_row legs) ≡ Some i → i < 80
place_most {legs} {i} w e = go (first_row legs) (row_most legs (λ j h. (w.wired j h).row_below)) e
  where
    go : (n : ℕ) → n ≤ 80 → placed n ≡ Some i → i < 80
    go zero l q = absurd (none_some q)
    go (suc n) l q = let d : n ≡ i = cc in omega (arith, d)

pub record Tries (N : Net) (a k : ℕ) (recs froms tos : Words) (lines : List Wire) (answer : Advance) (volts : Words) : Type 0 where
  pub tried : Tried k (solve N a k (branches N a k recs froms tos)) volts answer
  pub flowing : answer ≡ Ok k → Flowing N a k recs froms tos volts lines

-- ---- the try is the paper's step
module _ {N : Net} {a : ℕ} {plan : Plan} {sources : List Source} {free : List ℕ} {legs : List Wire} {f : List (List Float)} {recs froms tos : Words} {at : At}
    (t : Trying N a plan sources free legs f recs froms tos at) {lines : List Wire} (l : Laid N a at.k recs froms tos lines) where
  abbrev k : ℕ
  k = at.k

  abbrev bs : List Branch
  bs = branches N a at.k recs froms tos

  pub all_sized : Sized lines
  all_sized = laid_sized t.sound t.one t.kept l

  pub all_free : Free free
  all_free = free_nodes N t.sound a t.free_are

  -- no node floats, by what was prepared
  grounded : floating (fixed N) N.nodes (free_of N a) (both_legs bs) ≡ 0
  grounded =
      sym (Own.own_floating N a k recs froms tos t.one (fixed N) N.nodes (free_of N a))
      ∙ rw (sym (legs_are l))
      (sym (floating_joins (fixed N) N.nodes (free_of N a) _ (legs_in lines) (joins_bare (legs_in lines)))
      ∙ ap (floating (fixed N) N.nodes (free_of N a)) (bares_are l.conducting)
      ∙ t.serving.grounded)

  module _ (inject : Words) (same : (n : ℕ) → area_of N n ≡ a → word inject n ≡ injected N at.k n) where
    at_free : (i : ℕ) → i < length (free_of N a) → word inject (get_or (free_of N a) i 0) ≡ injected N k (get_or (free_of N a) i 0)
    at_free i h = same (get_or (free_of N a) i 0) (free_node N t.sound a i h).1

    proposed_is : (still : Words) → proposed (legs_in lines) free still (λ p. word inject p) ≡ proposed (both_legs bs) (free_of N a) still (injected N k)
    proposed_is still = rw (legs_are l, t.free_are) (Own.own_proposed N a k recs froms tos t.one (free_of N a) (λ p. word inject p) (injected N k) at_free still)

    unbalanced_is : (v : Words) → unbalanced (nat at.limit) (legs_in lines) (λ p. word inject p) v free ≡ unbalanced (Rows.limit N.head) (both_legs bs) (injected N k) v (free_of N a)
    unbalanced_is v =
        rw (t.limit, legs_are l, t.free_are) (Own.own_unbalanced N a k recs froms tos t.one (free_of N a) (λ p. word inject p) (injected N k) at_free (Rows.limit N.head) v)

    beyond_is : (v : Words) → first_by v (wires_in lines) ≡ first_beyond v 0 bs
    beyond_is v = rw (wires_are l) (first_is N a k recs froms tos t.one v)

    abbrev range : ℕ
    range = out_of_range (free_of N a) (proposed (both_legs bs) (free_of N a) (still_of N a k) (injected N k))

    module _ {still v : Words} {solved : Result ⊤ OutOfRange} (e : still ≡ still_of N a at.k) (s : Solved free (proposed (legs_in lines) free still (λ p. word inject p)) still v solved) where
      range_is : solved ≡ refused range
      range_is = let q : out_of_range free (proposed (legs_in lines) free still (λ p. word inject p)) ≡ range = rw (proposed_is still, t.free_are, e) in s.answer ∙ ap refused q

      -- 15
      pub tries_range : {w : Words} {out : OutOfRange} → solved ≡ Err out → Tried k (solve N a k bs) w (Err (refusal_of out))
      tries_range {w} {out} d =
          let n = refused_is range (sym d ∙ range_is) in
          tried_stop k (solve_turns N a k bs grounded ∙ rw (sym n.0) (on_range N bs (found N a k bs) out.node (unbalanced (Rows.limit N.head) (both_legs bs) (injected N k) (found N a k bs) (free_of N a)) n.1))

      volts_are : solved ≡ Ok tt → v ≡ found N a k bs
      volts_are z = s.volts z ∙ rw (proposed_is still, t.free_are, e)

      -- 16, 17, or the voltages
      pub tries_flow : {r : Advance} {b h : ℕ} → solved ≡ Ok tt → b ≡ unbalanced (nat at.limit) (legs_in lines) (λ p. word inject p) v free → h ≡ first_by v (wires_in lines)
          → r ≡ in_flow k b h (row_in plan (h - 1)).number → Tried k (solve N a k bs) v r
      unfolding row_of
      tries_flow {r} {b} {h} z x y q = go b h (x ∙ unbalanced_is v ∙ rw (volts_are z)) (y ∙ beyond_is v ∙ rw (volts_are z)) q
        where
          none : range ≡ 0
          none = refused_none range (sym z ∙ range_is)

          turns : solve N a k bs ≡ in_turn N bs (found N a k bs) range (unbalanced (Rows.limit N.head) (both_legs bs) (injected N k) (found N a k bs) (free_of N a))
          turns = solve_turns N a k bs grounded

          number : (h : ℕ) → suc h ≤ 0 + length bs → (row_in plan (suc h - 1)).number ≡ branch_number N (suc h)
          number h m =
              let o : suc h - 1 ≡ h = omega arith in
              rw o (ap (λ (x : Row). x.number) (t.planned.row h (omega (arith, legs_length N a k recs (heard N a k froms tos)))))

          go : (b h : ℕ) → b ≡ unbalanced (Rows.limit N.head) (both_legs bs) (injected N k) (found N a k bs) (free_of N a) → h ≡ first_beyond (found N a k bs) 0 bs
              → r ≡ in_flow k b h (row_in plan (h - 1)).number → Tried k (solve N a k bs) v r
          go (suc b) h x y w = rw w (tried_stop k (turns ∙ rw (sym x) (on_balance N bs (found N a k bs) (suc b) none (λ o. omega arith))))
          go zero (suc h) x y w =
              let m : suc h ≤ 0 + length bs = omega (arith, y, beyond_most (found N a k bs) 0 bs) in
              rw w (tried_stop k (turns ∙ rw (sym x) (on_history N bs (found N a k bs) {b = 0} (suc h) none refl y (λ o. omega arith) ∙ ap (λ (n : ℕ). stop (History n)) (sym (number h m)))))
          go zero zero x y w = rw w (tried_move k bs (turns ∙ rw (sym x) (on_none N bs (found N a k bs) {b = 0} none refl (sym y))) (volts_are z))

-- ---- what its parts leave
module _ {N : Net} {a : ℕ} {plan : Plan} {sources : List Source} {free : List ℕ} {legs : List Wire} {f : List (List Float)} {recs froms tos : Words} {at : At}
    (t : Trying N a plan sources free legs f recs froms tos at) where
  pub heard_from : {after : List Wire} → after ≡ map (heard_leg plan recs froms tos at.k) legs → Laid N a at.k recs froms tos after
  heard_from e = rw e (heard_laid t.sound t.planned t.serving.conducts froms tos)

  pub still_from : {v : Words} → v ≡ given is_fixing at.k sources → v ≡ still_of N a at.k
  still_from e = e ∙ ap (given is_fixing at.k) t.sources_are ∙ own_still N t.sound a at.k t.one

  pub inject_from : {inject : Words} → inject ≡ given is_iS at.k sources → (n : ℕ) → area_of N n ≡ a → word inject n ≡ injected N at.k n
  inject_from e n q = rw (e, t.sources_are) (own_injected N t.sound a at.k t.one n q)

  pub drives : Sources sources
  drives = rw t.sources_are (own_sources_lem N t.sound a)

  pub volts_from : {v : Words} → v ≡ given is_fixing at.k sources → Volts v
  volts_from e = rw (still_from e) (still_volts N t.sound at.k a)

  pub serves_from : {after : List Wire} → Laid N a at.k recs froms tos after → Serves at.base (length free) (matrix_of (map bare (legs_in after)) free) f
  serves_from l = rw (bares_are l.conducting, t.free_are) t.serving.serves

-- what was found is in the range
pub found_volts : (legs : List Leg) (free : List ℕ) (still v : Words) (inject : ℕ → ℤ) → Volts still → v ≡ settled free (proposed legs free still inject) still → Volts v
unfolding proposed
found_volts legs free still v inject u e = rw e (settled_volts free (take (length free) (voltages (length free) (system legs free still inject))) still u)
