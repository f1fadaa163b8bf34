-- A full step from a state in step: all areas take it and its lines are listed, or a refused area ends the piece. Assumes nothing.
use Rattle.std.specs.Prelude.{Ok, Err}
use Rattle.std.specs.Prelude.{◌+◌, ◌-◌, ◌≤◌, ◌<◌, ◌≡◌, ◌++◌}
use Rattle.whole.specs.Plain.{ℕ, zero, suc, refl, ap, ◌∙◌, true, List, arith}
use Rattle.whole.specs.Plain.{Words}
use Rattle.paper.specs.declared.Refusal as Paper
use Rattle.paper.specs.declared.Pause.TheVariants.{Stopped}
use Rattle.whole.specs.Turns.{run, turns}
use Rattle.paper.specs.Rows.{steps}
use Rattle.paper.specs.Network.{is_network}
use Rattle.paper.specs.Areas.{Net, area_count}
use Rattle.paper.specs.Answers.{accepted}
use Rattle.paper.specs.Advance.{Memory, advance_of}
use Rattle.paper.specs.Listing.{step_lines, stop_line}
use Rattle.paper.specs.Pieces.{Listed, listed, Piece, writing, ended, went_on, area_piece, full_step, step_piece}
use Rattle.laws_facts.specs.Nets.{net_in}
use Rattle.laws_pieces.specs.Level.{Partway, Level, level_start, level_end, leads_on}

-- what has ended stays so
pub run_ended : (f : ℕ → Piece → Piece) → ((k : ℕ) (l : Listed) → f k (ended l) ≡ ended l) → (d i : ℕ) (l : Listed) → run d i f (ended l) ≡ ended l
unfolding run
run_ended f h zero i l = refl
run_ended f h (suc d) i l = ap (run d (suc i) f) (h i l) ∙ run_ended f h d (suc i) l

module _ (net : Words) (network : is_network net ≡ true) where
  abbrev N : Net
  N = net_in net

  module _ (k : ℕ) (left : k < steps N.head) (out : List ℕ) where
    -- area a was refused: those before it took the step
    pub record Refusal (l : Listed) : Type 0 where
      pub area : ℕ
      pub now : Memory
      pub least : 1 ≤ area
      pub most : area ≤ area_count N
      pub part : Partway net network k area now
      pub why : Paper.Refusal
      pub refused : (advance_of net area now).answer ≡ Err why
      pub is : l ≡ listed (Ok (Stopped area why)) (out ++ stop_line (suc k) area why) (advance_of net area now).after

    -- the areas' turns
    pub data Turned (s : Piece) : Type 0 where
      all_took : (m : Memory) → s ≡ writing m out → Level net network (suc k) m → Turned s
      one_refused : (l : Listed) → s ≡ ended l → Refusal l → Turned s

    turned : (d a : ℕ) (m : Memory) → Partway net network k a m → 1 ≤ a → a + d ≡ suc (area_count N) → Turned (run d a (area_piece net (suc k)) (writing m out))
    unfolding run area_piece
    turned zero a m p one e = let q : a ≡ suc (area_count N) = omega arith in all_took m refl (level_end net network (rw q at p))
    turned (suc d) a m p one e =
        elim (advance_of net a m).answer as (λ y. (advance_of net a m).answer ≡ y → Turned (run d (suc a) (area_piece net (suc k)) (went_on (suc k) a out (advance_of net a m).after y))) [
          | Ok c ↦ λ x. turned d (suc a) (advance_of net a m).after (leads_on net network k a m p one (omega arith) (ap accepted x)) (omega arith) (omega arith)
          | Err y ↦ λ x. one_refused _ (run_ended (area_piece net (suc k)) (λ j x. refl) d (suc a) _)
              (record { area = a; now = m; least = one; most = omega arith; part = p; why = y; refused = x; is = refl })
        ] refl

    -- the whole step
    pub data Stepped (s : Piece) : Type 0 where
      full : (m : Memory) → s ≡ writing m (out ++ step_lines N m.records (suc k)) → Level net network (suc k) m → Stepped s
      stopped : (l : Listed) → s ≡ ended l → Refusal l → Stepped s

    pub stepped : (m : Memory) → Level net network k m → Stepped (step_piece net N (suc k) (writing m out))
    unfolding step_piece full_step turns
    stepped m v =
        elim (turned (suc (area_count N) - 1) 1 m (level_start net network v) (omega arith) (omega arith))
        [ all_took m' e v' ↦ full m' (ap (full_step N (suc k)) e) v' | one_refused l e x ↦ stopped l (ap (full_step N (suc k)) e) x ]
