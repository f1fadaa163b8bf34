-- A line of the table as a row of words, kind first and then the fields as in the text, and the table of kinds that the text, the
-- refusals and the network record all go by. Assumes nothing.
use Rattle.std.specs.Prelude.{◌||◌, ◌∷◌}
use Rattle.whole.specs.Plain.{ℕ, Bool, true, false, List, [], eqb, ℤ, pos, negsuc, neg_ℤ, lt_z, get_or, length, Words}
use Rattle.whole.specs.Plain.{z, word, nat}
use Prim.Native.Char.{code}
use Prim.Native.String.{String}
use Rattle.paper.specs.Limits as Limits

-- a text, by its bytes
unfoldable pub bytes : String → List ℕ
bytes String.[] = []
bytes (String.◌∷◌ c s) = code c ∷ bytes s

abbrev pub Row : Type 0
Row = Words

-- ---- the table of kinds

-- a field: whether it names a node, and its range
pub record Field : Type 0 where
  pub names : Bool
  pub low : ℤ
  pub high : ℤ

-- what a kind is: a branch, a source, and a source that fixes its node
pub record Class : Type 0 where
  pub branch : Bool
  pub source : Bool
  pub fixing : Bool

pub record Kind : Type 0 where
  pub spelt : List ℕ
  pub class : Class
  pub fields : List Field

abbrev pub a_head : Class
a_head = record { branch = false; source = false; fixing = false }

abbrev pub a_branch : Class
a_branch = record { branch = true; source = false; fixing = false }

abbrev pub a_fixing : Class
a_fixing = record { branch = false; source = true; fixing = true }

abbrev pub an_injecting : Class
an_injecting = record { branch = false; source = true; fixing = false }

abbrev pub node : Field
node = record { names = true; low = pos Limits.node_low; high = pos Limits.node_end }

abbrev pub number : ℕ → ℕ → Field
number low high = record { names = false; low = pos low; high = pos high }

-- the only fields that may be negative
abbrev pub peak_to : ℕ → Field
peak_to most = record { names = false; low = neg_ℤ (pos most); high = pos most }

-- a minus may stand before it
abbrev pub signed : Field → Bool
signed f = lt_z f.low z

abbrev pub ohmic : Field
ohmic = number Limits.ohms_low Limits.ohms_end

abbrev pub kind_of : String → Class → List Field → Kind
kind_of s c f = record { spelt = bytes s; class = c; fields = f }

unfoldable pub kinds : List Kind
unfolding bytes
kinds =
    kind_of "study" a_head (number Limits.step_length_low Limits.step_length_end ∷ number Limits.steps_low Limits.steps_end ∷ number Limits.limit_low Limits.limit_end ∷ [])
    ∷ kind_of "R" a_branch (node ∷ node ∷ ohmic ∷ [])
    ∷ kind_of "L" a_branch (node ∷ node ∷ number Limits.henry_low Limits.henry_end ∷ [])
    ∷ kind_of "C" a_branch (node ∷ node ∷ number Limits.farad_low Limits.farad_end ∷ [])
    ∷ kind_of "LINE" a_branch (node ∷ node ∷ ohmic ∷ number Limits.travel_low Limits.travel_end ∷ [])
    ∷ kind_of "SW" a_branch (node ∷ node ∷ ohmic ∷ number Limits.close_low Limits.open_end ∷ number Limits.close_low Limits.open_end ∷ [])
    ∷ kind_of "VS" a_fixing (node ∷ peak_to Limits.voltage_end ∷ number Limits.start_low Limits.start_end ∷ number Limits.rise_low Limits.rise_end ∷ [])
    ∷ kind_of "IS" an_injecting (node ∷ peak_to Limits.injection_end ∷ number Limits.start_low Limits.start_end ∷ number Limits.rise_low Limits.rise_end ∷ [])
    ∷ kind_of "VC" a_fixing (node ∷ peak_to Limits.voltage_end ∷ number Limits.start_low Limits.start_end ∷ number Limits.frequency_low Limits.frequency_end ∷ [])
    ∷ kind_of "SWT" a_branch (node ∷ node ∷ ohmic ∷ number Limits.close_low Limits.open_end ∷ number Limits.close_low Limits.open_end ∷ [])
    ∷ []

-- the number of a word that is none of these
abbrev pub no_kind : ℕ
no_kind = length kinds

abbrev pub unknown : Kind
unknown = record { spelt = []; class = a_head; fields = [] }

unfoldable pub word_of : ℕ → List ℕ
word_of k = (get_or kinds k unknown).spelt

unfoldable pub fields_of : ℕ → List Field
fields_of k = (get_or kinds k unknown).fields

unfoldable pub branch_kind : ℕ → Bool
branch_kind k = (get_or kinds k unknown).class.branch

unfoldable pub source_kind : ℕ → Bool
source_kind k = (get_or kinds k unknown).class.source

unfoldable pub fixing_kind : ℕ → Bool
fixing_kind k = (get_or kinds k unknown).class.fixing

-- ---- a row's words

abbrev pub kind_word : ℤ → ℕ
kind_word (pos k) = k
kind_word (negsuc n) = no_kind

abbrev pub kind : Row → ℕ
kind r = kind_word (word r 0)

abbrev pub is : ℕ → Row → Bool
is k r = eqb (kind r) k

abbrev pub is_study : Row → Bool
is_study = is 0

abbrev pub is_r : Row → Bool
is_r = is 1

abbrev pub is_l : Row → Bool
is_l = is 2

abbrev pub is_c : Row → Bool
is_c = is 3

abbrev pub is_line : Row → Bool
is_line = is 4

-- SW, which parts at a current zero (02)
abbrev pub is_breaker : Row → Bool
is_breaker = is 5

abbrev pub is_iS : Row → Bool
is_iS = is 7

abbrev pub is_vC : Row → Bool
is_vC = is 8

-- SWT: "The old behaviour remains as `SWT`."
abbrev pub is_timed : Row → Bool
is_timed = is 9

abbrev pub is_switch : Row → Bool
is_switch r = is_breaker r || is_timed r

-- "Branches are numbered from 1 in table order, sources not counted"
abbrev pub is_branch : Row → Bool
is_branch r = branch_kind (kind r)

abbrev pub is_source : Row → Bool
is_source r = source_kind (kind r)

abbrev pub is_fixing : Row → Bool
is_fixing r = fixing_kind (kind r)

-- `study`: step length, steps, limit
abbrev pub step_length : Row → ℕ
step_length r = nat (word r 1)

abbrev pub steps : Row → ℕ
steps r = nat (word r 2)

abbrev pub limit : Row → ℕ
limit r = nat (word r 3)

-- a branch: from, to, then mΩ, nH or pF, and a line's travel or a switch's close and open
abbrev pub from : Row → ℕ
from r = nat (word r 1)

abbrev pub to : Row → ℕ
to r = nat (word r 2)

abbrev pub size : Row → ℕ
size r = nat (word r 3)

abbrev pub travel : Row → ℕ
travel r = nat (word r 4)

abbrev pub closes : Row → ℕ
closes r = nat (word r 4)

abbrev pub opens : Row → ℕ
opens r = nat (word r 5)

-- a source: node, peak, start, and its rise or a VC's frequency
abbrev pub at : Row → ℕ
at r = nat (word r 1)

abbrev pub start : Row → ℕ
start r = nat (word r 3)

abbrev pub rise : Row → ℕ
rise r = nat (word r 4)

abbrev pub frequency : Row → ℕ
frequency r = nat (word r 4)

abbrev pub peak : Row → ℤ
peak r = word r 2
