-- One line more, and the end of the text. Assumes nothing.
use Rattle.std.specs.Prelude.{Option, Some, None, Result, Ok, Err, ◌+◌, ◌≤◌, ◌<◌, ◌≡◌, ◌&&◌, ◌||◌, ◌∷◌, ◌++◌}
use Rattle.std.specs.Result.{result_ok}
use Rattle.whole.specs.Plain.{ℕ, zero, suc, refl, sym, ◌∙◌, ap, subst, Bool, true, false, cond}
use Rattle.whole.specs.Plain.{bool_beq, false≢true, List, [], eqb, get_or, length, drop}
use Rattle.whole.specs.Plain.{length-append, length-set, length-drop, drop_of_length-le, drop-cons, drop-drop}
use Rattle.whole.specs.Plain.{length-sets, eq-eqb, ne_eqb, ℕ_discrete, arith, Words, z, empty, any, filled}
use Rattle.whole.specs.Folds.{and_left, and_right}
use Rattle.paper.specs.Rows.{Row, kind, is_study}
use Rattle.paper.specs.declared.Fault.TheVariants.{Form}
use Rattle.paper.specs.Faults.{row_fault}
use Rattle.paper.specs.Text.{line_kind, row_of}
use Rattle.paper.proofs.Kept.{either}
use Rattle.paper.specs.Network.{Table}
use Rattle.paper.specs.Reading.{Lines, good, bad, line_number, taken, line_read, closed, lines_of}
use Rattle.text_faults.specs.declared.Seen.{Seen}
use Rattle.text_faults.specs.Seen.{seen_fault, seen_after}
use Rattle.text_faults.specs.Stands.{Stands}
use Rattle.text_line.specs.declared.Walk.{Walk}
use Rattle.text_line.specs.Parts.{kept, before, is_lF, ended, line_of}
use Rattle.text_line.specs.Walks.{line_at}
use Rattle.text_line.specs.Lines.{ReadLine, line_good, line_bad}
use Rattle.text_study.specs.declared.Progress.{Progress}
use Rattle.text_study.specs.Held.{held_row}
use Rattle.text_study.specs.Laid.{put_row, put_study, put_line}
use Rattle.text_study.specs.Texts.{lines_from, from_end, from_line, from_bad, from_open, spelled, line_form, line_place, line_fault}
use Rattle.text_study.specs.Rows as Line
use Rattle.text_study.specs.States.{fault_seen, closed_up, Kept, Fine, State, Accepted, Ends, in_place, kept_after, room, put_here}

-- ---- small laws

taken_bad : (t : Table) (r : Row) (n : ℕ) → (n ≡ 0 → ⊥) → taken t r n ≡ bad (line_number t) n
taken_bad t r zero h = absurd (h refl)
taken_bad t r (suc n) h = refl

-- the first line is the one after no rows
first_line : (t : Table) → eqb (line_number t) 1 ≡ empty t
first_line [] = refl
first_line (r ∷ t) = ne_eqb (line_number (r ∷ t)) 1 (λ (e : line_number (r ∷ t) ≡ 1). omega arith)

line_within : (u : List ℕ) → ended u ≡ true → length (line_of u) < length u
unfolding any before
line_within [] e = absurd (false≢true e)
line_within (b ∷ u) e =
    elim (is_lF b) as (λ x. (x || ended u) ≡ true → length (kept x b (line_of u)) < suc (length u)) [ true ↦ λ g. omega arith | false ↦ λ g. omega (arith, line_within u g) ] e

put_length : (n : ℕ) (w l : Words) → length (put_line n w l) ≡ length l
unfolding put_line put_row put_study
put_length n w l = either (λ (v : Words). length v ≡ length l) (is_study w) (put_study w l) (put_row n w l) (simp length-set) (simp (length-set, length-sets))

-- a line is well formed, in its place, and its row has no fault
abbrev pub Right : Option Walk → Seen → Bool → Type 0
Right None s first = ⊥
Right (Some w) s first = (bool_beq first (is_study w.row) ≡ true) × (seen_fault s w.row ≡ 0)

pub no_fault : (l : Option Walk) (s : Seen) (first : Bool) → fault_seen l s first ≡ 0 → Right l s first
unfolding fault_seen
no_fault None s first e = absurd (omega (arith, e))
no_fault (Some w) s first e =
    let p = bool_beq first (is_study w.row) in
    elim p as (λ x. p ≡ x → cond x (seen_fault s w.row) 1 ≡ 0 → Right (Some w) s first) [ true ↦ λ f g. (f, g) | false ↦ λ f g. absurd (omega arith) ] refl e

-- ---- one line more

module _ (text : List ℕ) (p : Progress) (net : Words) (st : State text p net) (more : p.at < length text) where
  abbrev now : Fine text p net
  now = st.fine

  abbrev left : List ℕ
  left = drop p.at text

  abbrev first : Bool
  first = eqb p.line 1

  over : ended left ≡ true → lines_of text ≡ lines_from (line_read (good now.t) (line_of left)) (drop (suc (length (line_of left))) left)
  over x = sym now.rest ∙ from_line (good now.t) left x

  -- the line's own fault ends the reading
  stop : ended left ≡ true → (f : ℕ) → line_read (good now.t) (line_of left) ≡ bad (line_number now.t) f → lines_of text ≡ bad p.line f
  stop x f b = over x ∙ ap (λ (ls : Lines). lines_from ls (drop (suc (length (line_of left))) left)) b ∙ from_bad (line_number now.t) f (drop (suc (length (line_of left))) left) ∙ ap (λ (n : ℕ). bad n f) (sym now.line)

  -- a line that is not well formed
  pub form : {w : Walk} → line_at text p.at ≡ Err w → lines_of text ≡ bad p.line 1
  form o =
      let c = drop-cons text p.at 0 more in
      let bad_form : (ended left && spelled (line_of left)) ≡ false = line_bad text p.at o in
      elim (ended left) as (λ x. ended left ≡ x → lines_of text ≡ bad p.line 1) [
        | true ↦ λ x. stop x 1 (line_form now.t (line_of left) (sym (ap (λ (y : Bool). y && spelled (line_of left)) x) ∙ bad_form))
        | false ↦ λ x. sym now.rest ∙ rw c (from_open now.t (get_or text p.at 0) (drop (suc p.at) text) (sym (ap ended c) ∙ x)) ∙ ap (λ (n : ℕ). bad n 1) (sym now.line)
      ] refl

  module _ (w : Walk) (o : line_at text p.at ≡ Ok w) where
    reads : ReadLine left p.at w
    reads = line_good text p.at o

    ends : ended left ≡ true
    ends = and_left (ended left) (spelled (line_of left)) reads.verdict

    spelt : spelled (line_of left) ≡ true
    spelt = and_right (ended left) (spelled (line_of left)) reads.verdict

    row_is : w.row ≡ held_row (filled 8 z (row_of (line_of left)))
    row_is = reads.row ∙ sym (Line.held_words (line_of left) spelt)

    pub known : kind w.row < 10
    known = rw row_is (Line.known_held (line_of left) spelt)

    study_is : is_study w.row ≡ eqb (line_kind (line_of left)) 0
    study_is = ap is_study row_is ∙ ap (λ (k : ℕ). eqb k 0) (Line.kind_held (line_of left) spelt)

    place_is : bool_beq first (is_study w.row) ≡ bool_beq (empty now.t) (eqb (line_kind (line_of left)) 0)
    place_is = rw (ap (λ (n : ℕ). eqb n 1) now.line ∙ first_line now.t, study_is)

    fault_is : bool_beq first (is_study w.row) ≡ true → seen_fault p.seen w.row ≡ row_fault now.t (row_of (line_of left))
    fault_is q = ap (seen_fault p.seen) row_is ∙ Line.found (line_of left) spelt p.seen now.t now.stands (sym place_is ∙ q)

    read : bool_beq first (is_study w.row) ≡ true → line_read (good now.t) (line_of left) ≡ taken now.t (row_of (line_of left)) (seen_fault p.seen w.row)
    read q = line_fault now.t (line_of left) spelt (sym place_is ∙ q) ∙ ap (taken now.t (row_of (line_of left))) (sym (fault_is q))

    -- the fault of one that is
    fault : (f : ℕ) → f ≡ fault_seen (Some w) p.seen first → (f ≡ 0 → ⊥) → lines_of text ≡ bad p.line f
    unfolding fault_seen
    fault f g n = by_place (bool_beq first (is_study w.row)) refl
      where
        by_place : (x : Bool) → bool_beq first (is_study w.row) ≡ x → lines_of text ≡ bad p.line f
        by_place true q =
            let h : f ≡ seen_fault p.seen w.row = g ∙ rw q in
            stop ends f (read q ∙ ap (taken now.t (row_of (line_of left))) (sym h) ∙ taken_bad now.t (row_of (line_of left)) f n)
        by_place false q =
            let h : f ≡ 1 = g ∙ rw q in
            stop ends 1 (line_place now.t (line_of left) spelt (sym place_is ∙ q)) ∙ ap (bad p.line) (sym h)

    module _ (a : Right (Some w) p.seen first) where
      there : in_place (line_of left) spelt p.seen now.t
      there = sym place_is ∙ a.0

      same : seen_fault p.seen (held_row (filled 8 z (row_of (line_of left)))) ≡ 0
      same = ap (seen_fault p.seen) (sym row_is) ∙ a.1

      pub has_room : is_study w.row ≡ false → p.seen.branches + p.seen.sources < 80
      has_room n = room (line_of left) spelt p.seen now.t there now.stands same (sym (ap is_study row_is) ∙ n)

      pub line_in : w.at < length text
      line_in = omega (arith, reads.place, line_within left ends, length-drop p.at text)

      after : drop (w.at + 1) text ≡ drop (suc (length (line_of left))) left
      after =
          let q : w.at + 1 ≡ p.at + suc (length (line_of left)) = omega (arith, reads.place) in
          ap (λ (n : ℕ). drop n text) q ∙ sym (drop-drop (suc (length (line_of left))) p.at text)

      going_on : lines_from (good (now.t ++ (row_of (line_of left) ∷ []))) (drop (w.at + 1) text) ≡ lines_of text
      going_on = rw after (sym (over ends ∙ ap (λ (ls : Lines). lines_from ls (drop (suc (length (line_of left))) left)) (read a.0 ∙ ap (taken now.t (row_of (line_of left))) a.1)))

      pub line_on : p.at < w.at + 1
      line_on = omega (arith, reads.place)

      pub advanced : State text (record { at = w.at + 1; line = p.line + 1; seen = seen_after p.seen w.row }) (put_line (p.seen.branches + p.seen.sources) w.row net)
      advanced =
          let rows = now.t ++ (row_of (line_of left) ∷ []) in
          record {
            inside = let h = line_in in omega arith;
            lines = let h = st.lines in omega (arith, reads.place);
            wide = put_length (p.seen.branches + p.seen.sources) w.row net ∙ st.wide;
            fine = record {
              t = rows;
              line = omega (arith, now.line, length-append now.t (row_of (line_of left) ∷ []));
              stands = subst (λ (v : Words). Stands (seen_after p.seen v) rows) (sym row_is) (Line.still_stands (line_of left) spelt p.seen now.t now.stands there same);
              kept = subst (λ (v : Words). Kept (seen_after p.seen v) rows) (sym row_is) (kept_after (line_of left) spelt p.seen now.t there now.kept);
              written =
                  ap (λ (v : Words). put_line (p.seen.branches + p.seen.sources) v net) row_is
                  ∙ ap (put_line (p.seen.branches + p.seen.sources) (held_row (filled 8 z (row_of (line_of left))))) now.written
                  ∙ put_here (line_of left) spelt p.seen now.t there now.stands now.kept same;
              rest = going_on;
            };
          }

  -- any line with a fault ends the reading
  pub refused : (l : Result Walk Walk) → l ≡ line_at text p.at → (f : ℕ) → f ≡ fault_seen (result_ok l) p.seen first → (f ≡ 0 → ⊥) → lines_of text ≡ bad p.line f
  unfolding fault_seen
  refused (Err w) e f g n = form (sym e) ∙ ap (bad p.line) (sym g)
  refused (Ok w) e f g n = fault w (sym e) f g n

-- ---- the end

module _ (text : List ℕ) (p : Progress) (net : Words) (st : State text p net) (l : length text ≤ p.at) where
  past : lines_of text ≡ closed [] (good st.fine.t)
  past = sym st.fine.rest ∙ ap (lines_from (good st.fine.t)) (drop_of_length-le text l) ∙ from_end (good st.fine.t)

  first_is : eqb p.line 1 ≡ empty st.fine.t
  first_is = ap (λ (n : ℕ). eqb n 1) st.fine.line ∙ first_line st.fine.t

  pub ended_empty : p.line ≡ 1 → lines_of text ≡ bad 1 1
  unfolding closed
  ended_empty e =
      let x : empty st.fine.t ≡ true = sym first_is ∙ eq-eqb p.line 1 e in
      past ∙ rw x (ap (λ (n : ℕ). bad n 1) (sym st.fine.line ∙ e))

  pub ended_whole : (p.line ≡ 1 → ⊥) → Accepted (lines_of text) net
  unfolding closed
  ended_whole n =
      let x : empty st.fine.t ≡ false = sym first_is ∙ ne_eqb p.line 1 n in
      record { t = st.fine.t; lines = past ∙ rw x; written = st.fine.written }

  pub ended_all : Ends (lines_of text) (closed_up p) net
  unfolding closed_up
  ended_all = elim (ℕ_discrete p.line 1) [
    | yes e ↦ rw (eq-eqb p.line 1 e) (ended_empty e ∙ ap (λ (n : ℕ). bad n 1) (sym e))
    | no n ↦ rw (ne_eqb p.line 1 n) (ended_whole n)
  ]

pub closed_empty : (p : Progress) → p.line ≡ 1 → closed_up p ≡ Err (record { line = 1; fault = Form })
unfolding closed_up
closed_empty p e = rw e

pub closed_whole : (p : Progress) → (p.line ≡ 1 → ⊥) → closed_up p ≡ Ok tt
unfolding closed_up
closed_whole p n = rw (ne_eqb p.line 1 n)
