-- `step_sources::drive` meets its contract: the sources that are left lead to the answer, and those passed have left room. Assumes nothing.
use Rattle.std.specs.Prelude.{◌+◌, ◌≤◌, ◌<◌, ◌≡◌}
use Rattle.whole.specs.Plain.{ℕ, ap, ◌∙◌, Bool, List, length, get_or, le_trans, arith, Words}
use Rattle.whole.specs.Folds.{fold_next, fold_end}
use Rattle.step_legs.specs.declared.Source.{Source}
use Rattle.step_sources.specs.Table.{no_source, is_fixing, is_iS, Sources, give, given}
use Rattle.step_sources.specs.Given.{none_room, room_next, room_more, given_length}
use Rattle.step_sources.specs.Values.{value_size}
use Rattle.step_sources.proofs.drive.Invariants.{After}
use Rattle.step_sources.proofs.drive.Goals as goal

-- one source more
module _ (p : Source → Bool) (k : ℕ) (sources : List Source) (s : Sources sources) (j : ℕ) (l : j < length sources) {w w' : Words} where
  more : After p k sources j w → w' ≡ give p k w (get_or sources j no_source) → After p k sources (j + 1) w'
  more a e = record {
    left = fold_next (give p k) sources j no_source w w' _ l e a.left;
    room = rw e (room_next p k w (get_or sources j no_source) j a.room (le_trans (value_size k (get_or sources j no_source)) (s.sound j l).peak_most));
  }

pub loop-source-init : goal.loop-source-init
unfolding given
loop-source-init c =
    let e = c.requires.none_yet in
    (record { left = rw e.0; room = rw e.0 none_room }, record { left = rw e.1; room = rw e.1 none_room })

pub drive_one-requires : goal.drive_one-requires
drive_one-requires c =
    let i = c.loop-source.invariant in
    let s = c.requires.sources.0 in
    record { sound = (s.sound c.loop-source.source-index (omega arith), c.requires.sources.1); room = (room_more i.0.room (omega (arith, s.few)), room_more i.1.room (omega (arith, s.few))) }

pub loop-source-preserved : goal.loop-source-preserved
loop-source-preserved c =
    let s = c.requires.sources.0 in
    let i = c.loop-source.invariant in
    let l : c.loop-source.source-index < length c.args.sources.now = omega arith in
    let e = c.drive_one.ensures in
    (more is_fixing _ _ s _ l i.0 e.v_value, more is_iS _ _ s _ l i.1 e.inject_value)

pub returns : goal.returns
returns c =
    let i = c.loop-source.invariant in
    let l : length c.args.sources.now ≤ c.loop-source.source-index = omega arith in
    let e = fold_end (give is_iS _) _ _ _ _ l i.1.left in
    record {
      v_value = fold_end (give is_fixing _) _ _ _ _ l i.0.left;
      inject_value = e;
      injects_within = record { long = ap length e ∙ given_length is_iS _ _; end = λ n. omega (arith, i.1.room.end n, c.requires.sources.0.few) };
    }
