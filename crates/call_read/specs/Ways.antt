-- The ways through a reading: 9, 7, a faulty line, or the record. Assumes nothing.
use Rattle.std.specs.Prelude.{Ok, Err}
use Rattle.std.specs.Prelude.{◌≤◌, ◌<◌, ◌≡◌}
use Rattle.whole.specs.Plain.{ℕ, refl, List, length}
use Rattle.whole.specs.Plain.{eq-eqb, ne_eqb, lt-ltb, le-ltb, Words}
use Rattle.paper.specs.declared.Fault.{Fault}
use Rattle.paper.specs.declared.Fault.TheVariants.{Form, Node, Value, Travel, Double, Full}
use Rattle.paper.specs.declared.Unread.TheVariants.{Line, Size, Store}
use Rattle.paper.specs.Faulted.{fault_number, fault_from}
use Rattle.paper.specs.One.{Reads}
use Rattle.paper.specs.Reading.{faulty, read_of, read_end, lines_of}
use Rattle.text_study.specs.declared.BadLine.{BadLine}
use Rattle.text_study.specs.States.{Accepted, Faulty}

-- the fault of a fault's number
numbered : (f : Fault) → fault_from (fault_number f) ≡ f
numbered Form = refl
numbered Node = refl
numbered Value = refl
numbered Travel = refl
numbered Double = refl
numbered Full = refl

module _ (text : List ℕ) (net : Words) where
  pub wrong_store : (length net ≡ 1024 → ⊥) → Reads text net (Err Store) net
  unfolding read_of
  wrong_store n = record { answer = rw (ne_eqb (length net) 1024 n); network = rw (ne_eqb (length net) 1024 n) }

  pub too_long : length net ≡ 1024 → 65536 < length text → Reads text net (Err Size) net
  unfolding read_of
  too_long e h = record { answer = rw (eq-eqb (length net) 1024 e, lt-ltb 65536 (length text) h); network = rw (eq-eqb (length net) 1024 e, lt-ltb 65536 (length text) h) }

  module _ (e : length net ≡ 1024) (h : length text ≤ 65536) where
    the_lines : read_of text net ≡ read_end net (lines_of text)
    unfolding read_of
    the_lines = rw (eq-eqb (length net) 1024 e, le-ltb 65536 (length text) h)

    pub wrong_line : (b : BadLine) → Faulty (lines_of text) b → Reads text net (Err (Line b.line b.fault)) net
    unfolding faulty
    wrong_line b a = record { answer = rw (the_lines, a, numbered b.fault); network = rw (the_lines, a) }

    pub right_text : (rows : Words) → Accepted (lines_of text) rows → Reads text net (Ok tt) rows
    right_text rows a = record { answer = rw (the_lines, a.lines); network = rw (the_lines, a.lines) a.written }
