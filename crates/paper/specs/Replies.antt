-- What the calls answer: a Result each, whose Err says why the call is refused. Assumes nothing.
use Rattle.std.specs.Prelude.{Result}
use Rattle.whole.specs.Plain.{ℕ, ℤ}
use Rattle.paper.specs.declared.Unread.{Unread}
use Rattle.paper.specs.declared.Unfit.{Unfit}
use Rattle.paper.specs.declared.Unfit.TheVariants as U
use Rattle.paper.specs.declared.Refusal.{Refusal}
use Rattle.paper.specs.declared.Refusal.TheVariants as R
use Rattle.paper.specs.declared.Pause.{Pause}
use Rattle.paper.specs.declared.Unlisted.{Unlisted}
use Rattle.paper.specs.declared.Unlisted.TheVariants as L
use Rattle.paper.specs.declared.Told.{Told}
use Rattle.paper.specs.declared.Unlooked.{Unlooked}
use Rattle.paper.specs.declared.Unlooked.TheVariants as K

abbrev pub Reading : Type 0
Reading = Result (Unit {0}) Unread

abbrev pub Resetting : Type 0
Resetting = Result (Unit {0}) Unfit

abbrev pub Advance : Type 0
Advance = Result ℕ Refusal

abbrev pub Listing : Type 0
Listing = Result Pause Unlisted

abbrev pub Writing : Type 0
Writing = Result ℕ Unfit

abbrev pub Looking : Type 0
Looking = Result Told Unlooked

-- what is told of a node
abbrev pub told_of : ℤ → ℕ → ℕ → Told
told_of v p s = record { voltage = v; peak = p; step = s }

-- lent memory that is unfit, as each call refuses it
abbrev pub refused_of : Unfit → Refusal
refused_of U.Network = R.Network
refused_of U.Store = R.Store

abbrev pub unlisted_of : Unfit → Unlisted
unlisted_of U.Network = L.Network
unlisted_of U.Store = L.Store

abbrev pub unlooked_of : Unfit → Unlooked
unlooked_of U.Network = K.Network
unlooked_of U.Store = K.Store
