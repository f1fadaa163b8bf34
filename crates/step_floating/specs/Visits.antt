-- The search as code has it: at the start, past a leg, from node to node. Assumes nothing.
use Rattle.std.specs.Prelude.{◌+◌, ◌-◌, ◌≤◌, ◌<◌, ◌≡◌, ◌∷◌, Some, None}
use Rattle.std.proofs.Common.{add-one}
use Rattle.whole.specs.Plain.{ℕ, zero, suc, refl, sym, ap, ◌∙◌, List, length, replicate, get_or, drop, length-drop, drop-cons, arith, first}
use Rattle.whole.specs.Named.{named}
use Rattle.paper.specs.Limits as Limits
use Rattle.step_legs.specs.declared.Wire.{Wire}
use Rattle.step_legs.specs.Wires.{leg_of, no_wire, wire_at, Wires}
use Rattle.step_legs.specs.Free.{Free}
use Rattle.step_floating.specs.declared.Search.{Search}
use Rattle.step_floating.specs.Search.{finds, reach, enlist, longer}
use Rattle.step_floating.specs.Answer.{start, floats, State, left, state_next, left_next, state_visit, left_visit, search_on, search_found}

abbrev pub started : List ℕ → Search
started free = record { marks = start free; list = replicate (suc Limits.node_end) 0; listed = 0 }

-- node x found, or none, 0
abbrev pub past : ℕ → Search → Search
past x s = record { marks = reach x s.marks; list = enlist x s.listed s.list; listed = longer x s.listed }

-- the last of the list taken from it
abbrev pub popped : Search → Search
popped s = record s { listed = s.listed - 1 }

-- ---- a number that is 0 for none
pub some_named : (n : ℕ) → (n ≡ 0 → ⊥) → Some n ≡ named n
some_named zero h = absurd (h refl)
some_named (suc n) h = refl

pub none_named : (n : ℕ) → None ≡ named n → n ≡ 0
none_named zero e = refl
none_named (suc n) e = cc

pub named_some : (n : ℕ) {m : ℕ} → named n ≡ Some m → n ≡ m
named_some zero e = cc
named_some (suc n) e = cc

pub named_not : (n : ℕ) {m : ℕ} → named n ≡ Some m → m ≡ 0 → ⊥
named_not zero e = cc
named_not (suc n) {m} e = λ z. let q : suc n ≡ 0 = named_some (suc n) e ∙ z in omega arith

-- ---- the rest of a list, from its first on
module _ {A : Type 0} (d : A) (all : List A) {part more : List A} {x : A} (p : part ≡ drop (length all - length part) all) (e : part ≡ x ∷ more) where
  longer_part : length part ≡ suc (length more)
  longer_part = ap length e

  pub part_there : length all - length part < length all
  part_there = omega (arith, longer_part, ap length p, length-drop (length all - length part) all)

  whole_part : get_or all (length all - length part) d ∷ drop (suc (length all - length part)) all ≡ x ∷ more
  whole_part = sym (drop-cons all (length all - length part) d part_there) ∙ sym p ∙ e

  pub part_first : x ≡ get_or all (length all - length part) d
  part_first = let w = whole_part in cc

  pub part_next : length all - length more ≡ (length all - length part) + 1
  part_next =
      let l : length part ≡ suc (length more) = longer_part in
      let m : length part ≤ length all = omega (arith, ap length p, length-drop (length all - length part) all) in
      omega arith

  pub part_more : more ≡ drop (length all - length more) all
  part_more = let w = whole_part in rw (part_next, add-one) cc

-- ---- the visit of node n, which has these branches left
pub record Visiting (legs : List Wire) (free : List ℕ) (s : Search) (n : ℕ) (branches : List Wire) : Type 0 where
  pub left : branches ≡ drop (length legs - length branches) legs
  pub at : State legs free s.marks s.list s.listed n (length legs - length branches)

-- how much is left of the search
abbrev pub left_of : List Wire → Search → List Wire → ℕ
left_of legs s branches = left (length legs) s.marks s.listed (length legs - length branches)

module _ {legs : List Wire} {free : List ℕ} {s : Search} {n : ℕ} {branches : List Wire} (v : Visiting legs free s n branches) where
  module _ (w : Wires legs) {l : Wire} {more : List Wire} (e : branches ≡ l ∷ more) where
    pub leg_first : l ≡ wire_at legs (length legs - length branches)
    leg_first = part_first no_wire legs v.left e

    pub leg_there : length legs - length branches < length legs
    leg_there = part_there no_wire legs v.left e

    pub visiting_next : Visiting legs free (past (finds (leg_of l) n s.marks) s) n more
    visiting_next = record { left = part_more no_wire legs v.left e; at = rw (part_next no_wire legs v.left e, leg_first) (state_next w v.at leg_there) }

    pub visiting_less : left_of legs (past (finds (leg_of l) n s.marks) s) more < left_of legs s branches
    visiting_less = rw (part_next no_wire legs v.left e, leg_first) (left_next w v.at leg_there)

  module _ (e : length branches ≡ 0) where
    over : length legs ≤ length legs - length branches
    over = omega arith

    module _ (some : s.listed ≡ 0 → ⊥) where
      pub visiting_anew : Visiting legs free (popped s) (get_or s.list (s.listed - 1) 0) legs
      visiting_anew =
          let z : length legs - length legs ≡ 0 = omega arith in
          record { left = rw z; at = rw z (state_visit v.at over some) }

      pub anew_less : left_of legs (popped s) legs < left_of legs s branches
      anew_less =
          let z : length legs - length legs ≡ 0 = omega arith in
          rw z (left_visit v.at over some)

    pub floats_here : {nodes more : List ℕ} {node r : ℕ} → Free free → nodes ≡ drop (length free - length nodes) free → nodes ≡ node ∷ more → r ≡ first (floats legs free) nodes
        → (get_or s.marks node 0 ≡ 0 → ⊥) → s.listed ≡ 0 → r ≡ node
    floats_here {nodes} f p q a x none =
        search_found v.at f (part_there 0 free p q) (a ∙ ap (first (floats legs free)) p) over none (λ z. x (ap (λ (k : ℕ). get_or s.marks k 0) (part_first 0 free p q) ∙ z))
        ∙ sym (part_first 0 free p q)

  pub floats_on : {nodes more : List ℕ} {node r : ℕ} → Free free → nodes ≡ drop (length free - length nodes) free → nodes ≡ node ∷ more → r ≡ first (floats legs free) nodes
      → get_or s.marks node 0 ≡ 0 → r ≡ first (floats legs free) more
  floats_on f p q a z =
      search_on v.at f (part_there 0 free p q) (a ∙ ap (first (floats legs free)) p) (sym (ap (λ (k : ℕ). get_or s.marks k 0) (part_first 0 free p q)) ∙ z)
      ∙ ap (first (floats legs free)) (sym (rw (part_next 0 free p q) at (part_more 0 free p q)))
