-- "Numbered refusals", 1 to 6: the number of a line's fault, and the fault of a number; 0 where there is none. Assumes nothing.
use Rattle.std.specs.Prelude.{Option, Some, None}
use Rattle.whole.specs.Plain.{ℕ, cond, eqb}
use Rattle.paper.specs.declared.Fault.{Fault}
use Rattle.paper.specs.declared.Fault.TheVariants.{Form, Node, Value, Travel, Double, Full}

abbrev pub fault_number : Fault → ℕ
fault_number Form = 1
fault_number Node = 2
fault_number Value = 3
fault_number Travel = 4
fault_number Double = 5
fault_number Full = 6

abbrev pub fault_from : ℕ → Fault
fault_from f = cond (eqb f 1) Form (cond (eqb f 2) Node (cond (eqb f 3) Value (cond (eqb f 4) Travel (cond (eqb f 5) Double Full))))

abbrev pub fault_by : ℕ → Option Fault
fault_by f = cond (eqb f 0) None (Some (fault_from f))
