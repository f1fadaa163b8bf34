-- An area's step from the tables is the paper's. Assumes nothing.
use Rattle.std.specs.Prelude.{Result, Ok, Err}
use Rattle.whole.specs.Plain.{ℕ, refl, sym, ap, subst, ◌∙◌, Bool, true, false, true≢false, List}
use Rattle.whole.specs.Plain.{pos, ℕ_discrete, arith, Words, z, word}
use Rattle.std.specs.Prelude.{Float, ◌≤◌, ◌<◌, ◌≡◌, ◌≢◌}
use Rattle.paper.specs.Replies.{Advance}
use Rattle.paper.specs.declared.Refusal.{Refusal}
use Rattle.paper.specs.Rows as Rows
use Rattle.paper.specs.Answers.{accepted}
use Rattle.paper.specs.Areas.{Net}
use Rattle.paper.specs.Records.{latch_at}
use Rattle.paper.specs.Legs.{Branch, heard}
use Rattle.paper.specs.Solve.{Step, stop, move, solve}
use Rattle.paper.specs.Advance.{Memory, memory, advanced, new_records, written, finish, take_step, ready}
use Rattle.laws_local.specs.Sound.{sound}
use Rattle.laws_local.specs.Written.{latch_keep}
use Rattle.laws_local.specs.Outcome.{Solving, floats, leaves, tips, exceeds, solves, solving, volts_of}
use Rattle.plan_ends.specs.Own.{Framed, own_nodes}
use Rattle.plan_rows.specs.Planned.{Plan}
use Rattle.step_legs.specs.declared.Wire.{Wire}
use Rattle.step_legs.specs.declared.Source.{Source}
use Rattle.plan_own.specs.declared.Own.{Own}
use Rattle.plan_lay.specs.Grown.{part}
use Rattle.plan_own.specs.Owns.{own_in, prepared, until_put, Ours}
use Rattle.plan_own.specs.Kept.{legs_put, own_put}
use Rattle.step_factors.specs.Blocks.{renewed_none}
use Rattle.step_legs.specs.Written.{SameBut}
use Rattle.step_own.specs.Ends.{Kept}
use Rattle.step_own.specs.Laid.{conducting_same, SameLatches}
use Rattle.step_prepare.specs.Serving.{Serving}
use Rattle.step_try.specs.declared.At.{At}
use Rattle.step_try.specs.Outcomes.{Tried, answered}
use Rattle.step_try.specs.Trying.{Trying, branches, Flowing, Tries}
use Rattle.step_records.specs.Records.{Recordable, records_put, Unparted}
use Rattle.step_send.specs.Stores.{Sendable, sent_by, is_from_end, is_to_end}
use Rattle.step_commit.specs.Asked.{recordable, sendable}
use Rattle.step_commit.specs.Paper.{records_are, written_is}
use Rattle.step_take.specs.declared.Turn.{Turn}
use Rattle.step_keep.specs.Tabled.{own_legs, Tables, area_few, standing, tables_put, put_own, tables_until, tables_latched}

-- the area is one of those in the tables, the step one of the study's, and the state well formed
pub record Stepping (N : Net) (low high : ℕ) (turn : Turn) (m : Memory) : Type 0 where
  pub least : low ≤ turn.area
  pub most : turn.area ≤ high
  pub step : turn.k ≤ Rows.steps N.head
  pub limit : turn.limit ≡ pos (Rows.limit N.head)
  pub kept : Kept m.records m.froms m.tos

-- ---- from what is kept for it

pub record Ready (N : Net) (low high : ℕ) (plan : Plan) (owns : List Own) (legs : List Wire) (nodes : List ℕ) (sources : List Source) (f : List (List Float)) (m : Memory) (o : Own) (turn : Turn) : Type 0 where
  pub tables : Tables N low high turn.k m.records plan owns legs nodes sources f
  pub stepping : Stepping N low high turn m
  pub own : o ≡ own_in owns turn.area
  pub serving : Serving N turn.area turn.k m.records (own_in owns turn.area).base (own_legs owns turn.area legs) f

pub record Movable (plan : Plan) (legs : List Wire) (nodes : List ℕ) (sources : List Source) (f : List (List Float)) (recs froms tos : Words) (o : Own) (turn : Turn) : Type 0 where
  pub net : Net
  pub low : ℕ
  pub high : ℕ
  pub owns : List Own
  pub ready : Ready net low high plan owns legs nodes sources f (memory recs froms tos) o turn

-- the tables and the state that a step leaves
pub record Moved (N : Net) (low high : ℕ) (plan : Plan) (owns : List Own) (nodes : List ℕ) (sources : List Source) (f : List (List Float)) (turn : Turn) (m : Memory) (r : Advance) (legs : List Wire) (m' : Memory) : Type 0 where
  pub tables : Tables N low high turn.k m'.records plan owns legs nodes sources f
  pub step : advanced r m' ≡ ready N turn.area turn.k m

-- what a step that is tried comes to, as the call answers: its own count, where it is taken
abbrev pub step_answer : ℕ → Result Bool Refusal → Advance
step_answer k (Ok parted) = Ok k
step_answer k (Err x) = Err x

-- the same, of a step in which a breaker of the area may have parted: then what was kept for the area serves no more
pub record Came (N : Net) (low high : ℕ) (plan : Plan) (owns : List Own) (nodes : List ℕ) (sources : List Source) (f : List (List Float)) (turn : Turn) (m : Memory) (r : Result Bool Refusal) (legs : List Wire) (m' : Memory) : Type 0 where
  pub whole : (r ≡ Ok true → ⊥) → Moved N low high plan owns nodes sources f turn m (step_answer turn.k r) legs m'
  pub parted : Moved N low high plan (until_put owns turn.area 0) nodes sources f turn m (step_answer turn.k r) legs m'

pub record Moves (plan : Plan) (nodes : List ℕ) (sources : List Source) (f : List (List Float)) (o : Own) (turn : Turn) (legs : List Wire) (m : Memory) (r : Result Bool Refusal) (legs' : List Wire) (m' : Memory) : Type 0 where
  pub of : (N : Net) (low high : ℕ) (owns : List Own) → Ready N low high plan owns legs nodes sources f m o turn → Came N low high plan owns nodes sources f turn m r legs' m'

-- ---- a step that is not taken
refused_by : (N : Net) (a k : ℕ) (m : Memory) (s : Step) → accepted (answered k s) ≡ false → advanced (answered k s) m ≡ finish N a k m s
refused_by N a k m (stop x) e = refl
refused_by N a k m (move bs v) e = let z : ◌≡◌ {A = ℕ} 0 1 = cc in absurd (omega arith)

pub not_taken : (N : Net) (a k : ℕ) (m : Memory) (r : Advance) (v : Words) → Tried k (solve N a k (branches N a k m.records m.froms m.tos)) v r
    → accepted r ≡ false → advanced r m ≡ ready N a k m
unfolding ready take_step
not_taken N a k m r v t e =
    let bs = branches N a k m.records m.froms m.tos in
    rw t.answer (refused_by N a k m (solve N a k bs) (rw t.answer at e))

-- ---- a step that is taken
pub record Taken (k : ℕ) (r : Advance) (bs : List Branch) (v : Words) (s : Step) : Type 0 where
  pub answer : r ≡ Ok k
  pub solved : s ≡ move bs v

module _ (N : Net) (a k : ℕ) (bs : List Branch) (r : Advance) (v : Words) (t : Tried k (solve N a k bs) v r) (e : accepted r ≡ true) where
  refusal : (x : Refusal) → solve N a k bs ≡ stop x → Taken k r bs v (solve N a k bs)
  refusal x q =
      let d : r ≡ Err x = t.answer ∙ ap (answered k) q in
      let z : ◌≡◌ {A = Bool} true false = sym e ∙ ap accepted d in
      absurd (true≢false z)

  pub taken : Taken k r bs v (solve N a k bs)
  taken = go (solving N a k bs)
    where
      go : Solving N a k bs → Taken k r bs v (solve N a k bs)
      go (floats n p q) = refusal _ q
      go (leaves n p o q) = refusal _ q
      go (tips n p o h q) = refusal _ q
      go (exceeds n p o h b q) = refusal _ q
      go (solves p o h b q) = record { answer = t.answer ∙ ap (answered k) q; solved = q ∙ ap (move bs) (sym (t.volts bs (volts_of N a k bs) q)) }

pub taken_step : (N : Net) (a k : ℕ) (m m' : Memory) (r : Advance) (v : Words) → Taken k r (branches N a k m.records m.froms m.tos) v (solve N a k (branches N a k m.records m.froms m.tos))
    → m' ≡ written N a k (branches N a k m.records m.froms m.tos) v m → advanced r m' ≡ ready N a k m
unfolding ready take_step
taken_step N a k m m' r v t e = rw (t.answer, t.solved, e)

-- ---- the parts put together
abbrev pub at_of : Own → Turn → At
at_of o turn = record { base = o.base; k = turn.k; limit = turn.limit }

abbrev pub legs_of' : Own → List Wire → List Wire
legs_of' o legs = part o.legs o.legs_end legs

module _ {N : Net} {low high : ℕ} {plan : Plan} {owns : List Own} {legs : List Wire} {nodes : List ℕ} {sources : List Source} {f : List (List Float)} {m : Memory} {o : Own} {turn : Turn}
    (R : Ready N low high plan owns legs nodes sources f m o turn) where
  abbrev a : ℕ
  a = turn.area

  one : 1 ≤ turn.area
  one = omega (arith, R.tables.least, R.stepping.least)

  pub own_there : Ours N turn.area o legs nodes sources
  own_there = rw R.own (R.tables.ours a R.stepping.least R.stepping.most)

  pub tries : Trying N turn.area plan (part o.sources o.sources_end sources) (part o.base o.free_end nodes) (legs_of' o legs) f m.records m.froms m.tos (at_of o turn)
  tries = rw R.own (record {
    sound = R.tables.sound;
    one = one;
    planned = R.tables.planned;
    sources_are = (R.tables.ours a R.stepping.least R.stepping.most).sources;
    free_are = (R.tables.ours a R.stepping.least R.stepping.most).free;
    room = (standing R.tables a R.stepping.least R.stepping.most).room;
    serving = R.serving;
    kept = R.stepping.kept;
    limit = R.stepping.limit;
    few = omega (arith, R.stepping.step, R.tables.sound.study.steps_in.most);
  })

  pub tries_at : {at : At} → at ≡ at_of o turn
      → Trying N turn.area plan (part o.sources o.sources_end sources) (part o.base o.free_end nodes) (legs_of' o legs) f m.records m.froms m.tos at
  tries_at e = rw e tries

  pub tried_at : {at : At} {lines : List Wire} {answer : Advance} {volts : Words} → at ≡ at_of o turn
      → ((N : Net) (a : ℕ) → Trying N a plan (part o.sources o.sources_end sources) (part o.base o.free_end nodes) (legs_of' o legs) f m.records m.froms m.tos at
      → Tries N a at.k m.records m.froms m.tos lines answer volts)
      → Tries N turn.area turn.k m.records m.froms m.tos lines answer volts
  tried_at {lines = lines} {answer = answer} {volts = volts} e h =
      subst (λ (k : ℕ). Tries N turn.area k m.records m.froms m.tos lines answer volts) (ap (λ (x : At). x.k) e) (h N turn.area (tries_at e))

  module _ {new : List Wire} (same : SameBut (legs_of' o legs) new) where
    same_own : SameBut (own_legs owns turn.area legs) new
    same_own = subst (λ (x : Own). SameBut (legs_of' x legs) new) R.own same

    framed : Framed N turn.area new
    framed = (conducting_same same_own R.serving.conducts).framed

    pub tables_after : Tables N low high turn.k m.records plan owns (legs_put o legs new) nodes sources f
    tables_after =
        rw R.own
        (tables_put R.tables a R.stepping.least R.stepping.most new framed (renewed_none _ _ R.tables.square)
        (λ j x y. let s = R.tables.kept a j R.stepping.least R.stepping.most x y in record { conducts = conducting_same same_own s.conducts; serves = s.serves; grounded = s.grounded }))

    pub legs_after : legs_of' o (legs_put o legs new) ≡ new
    legs_after = rw R.own (put_own R.tables a R.stepping.least R.stepping.most new framed)

  -- with nothing kept for the area
  tables_void : {recs : Words} {legs : List Wire} → Tables N low high turn.k recs plan owns legs nodes sources f → Tables N low high turn.k recs plan (until_put owns turn.area 0) legs nodes sources f
  tables_void t = tables_until t turn.area R.stepping.least R.stepping.most 0 (λ j x y. absurd (omega arith))

  unkept : (b : ℕ) → b ≡ turn.area → 0 < (own_in (until_put owns turn.area 0) b).until → ⊥
  unkept b q z =
      let h = own_put owns turn.area (prepared (own_in owns turn.area) 0) (omega (arith, R.tables.long, area_few R.tables turn.area R.stepping.least R.stepping.most)) in
      omega (arith, ap (λ (x : Own). x.until) h, subst (λ (n : ℕ). 0 < (own_in (until_put owns turn.area 0) n).until) q z)

  -- a step that is not taken
  pub stayed : {new : List Wire} {x : Refusal} → SameBut (legs_of' o legs) new → advanced (Err x) m ≡ ready N turn.area turn.k m
      → Came N low high plan owns nodes sources f turn m (Err x) (legs_put o legs new) m
  stayed same e = record { whole = λ _. record { tables = tables_after same; step = e }; parted = record { tables = tables_void (tables_after same); step = e } }

  -- the lines that a step is written from
  module _ {lines : List Wire} {answer : Advance} {volts : Words} (t : Tries N turn.area turn.k m.records m.froms m.tos lines answer volts) (e : accepted answer ≡ true) where
    abbrev bs : List Branch
    bs = branches N turn.area turn.k m.records m.froms m.tos

    took_it : Taken turn.k answer bs volts (solve N turn.area turn.k bs)
    took_it = taken N a turn.k bs answer volts t.tried e

    flows : Flowing N turn.area turn.k m.records m.froms m.tos volts lines
    flows = t.flowing took_it.answer

    nodes_are : part o.base o.nodes_end nodes ≡ own_nodes N turn.area
    nodes_are = own_there.nodes

    pub records_asked : Recordable lines (part o.base o.nodes_end nodes) volts m.records turn.area turn.k
    records_asked =
        rw (flows.flows, nodes_are)
        (recordable R.tables.sound one R.stepping.kept flows.laid volts flows.volts (omega (arith, R.tables.most, R.stepping.most)) R.stepping.step)

    pub stores_asked : Sendable plan lines m.froms m.tos
    stores_asked = rw flows.flows (sendable R.tables.sound one R.stepping.kept flows.laid volts R.tables.planned)

    records_new : {recs : Words} → recs ≡ records_put plan lines (part o.base o.nodes_end nodes) volts turn.area turn.k m.records → recs ≡ new_records N turn.area turn.k bs volts m.records
    records_new q = q ∙ rw (flows.flows, nodes_are) (records_are one flows.laid R.tables.planned volts R.tables.sound (omega (arith, R.tables.most, R.stepping.most)) R.stepping.kept.records_long)

    -- no other area's switch parts
    pub others_latched : {recs : Words} → recs ≡ records_put plan lines (part o.base o.nodes_end nodes) volts turn.area turn.k m.records → (b : ℕ) → b ≢ turn.area → SameLatches N b m.records recs
    others_latched q b n = record {
      latch = λ i h x y.
          sym (ap (λ (w : Words). word w (latch_at i)) (records_new q)
          ∙ latch_keep N turn.area turn.k m.records (heard N turn.area turn.k m.froms m.tos) volts (sound N R.tables.sound) m.records R.stepping.kept.records_long i h x (λ e. n (sym y ∙ e)));
    }

    pub taken_written : {m' : Memory}
        → m' ≡ memory (records_put plan lines (part o.base o.nodes_end nodes) volts turn.area turn.k m.records) (sent_by plan turn.k is_from_end lines m.froms) (sent_by plan turn.k is_to_end lines m.tos)
        → advanced answer m' ≡ ready N turn.area turn.k m
    taken_written {m'} q =
        taken_step N a turn.k m m' answer volts took_it (q ∙ rw (flows.flows, nodes_are) (written_is one flows.laid R.tables.planned volts R.tables.sound (omega (arith, R.tables.most, R.stepping.most)) R.stepping.kept.records_long))

  -- ---- from the table that the lines stand in again
  module _ {lines : List Wire} {answer : Advance} {volts : Words} (same : SameBut (legs_of' o legs) lines) (t : Tries N turn.area turn.k m.records m.froms m.tos lines answer volts) (e : accepted answer ≡ true) where
    pub asked : Recordable (legs_of' o (legs_put o legs lines)) (part o.base o.nodes_end nodes) volts m.records turn.area turn.k × Sendable plan (legs_of' o (legs_put o legs lines)) m.froms m.tos
    asked = rw (legs_after same) (records_asked t e, stores_asked t e)

    pub moved : {recs froms tos : Words} → recs ≡ records_put plan (legs_of' o (legs_put o legs lines)) (part o.base o.nodes_end nodes) volts turn.area turn.k m.records
        → froms ≡ sent_by plan turn.k is_from_end (legs_of' o (legs_put o legs lines)) m.froms → tos ≡ sent_by plan turn.k is_to_end (legs_of' o (legs_put o legs lines)) m.tos
        → advanced answer (memory recs froms tos) ≡ ready N turn.area turn.k m
    moved x y w = taken_written t e (rw (x, y, w, legs_after same))

    -- ---- the tables after it

    module _ {recs froms tos : Words} (x : recs ≡ records_put plan (legs_of' o (legs_put o legs lines)) (part o.base o.nodes_end nodes) volts turn.area turn.k m.records)
        (y : froms ≡ sent_by plan turn.k is_from_end (legs_of' o (legs_put o legs lines)) m.froms) (w : tos ≡ sent_by plan turn.k is_to_end (legs_of' o (legs_put o legs lines)) m.tos)
        {parted : Bool} (u : Unparted parted m.records recs) where
      others : (b : ℕ) → b ≢ turn.area → SameLatches N b m.records recs
      others = others_latched t e (rw (legs_after same) at x)

      by_area : (b : ℕ) → (b ≡ turn.area → SameLatches N b m.records recs) → SameLatches N b m.records recs
      by_area b own = elim (ℕ_discrete b turn.area) [ yes q ↦ own q | no q ↦ others b q ]

      it_is : advanced (Ok turn.k) (memory recs froms tos) ≡ ready N turn.area turn.k m
      it_is = rw (took_it t e).answer at (moved x y w)

      whole : (◌≡◌ {A = Result Bool Refusal} (Ok parted) (Ok true) → ⊥) → parted ≡ false
      whole q = elim parted as (λ b. parted ≡ b → b ≡ false) [ true ↦ λ d. absurd (q (ap (λ (b : Bool). Ok b) d)) | false ↦ λ d. refl ] refl

      pub came : Came N low high plan owns nodes sources f turn m (Ok parted) (legs_put o legs lines) (memory recs froms tos)
      came = record {
        whole = λ q. record { tables = tables_latched (λ b _ _ _. by_area b (λ _. record { latch = λ i _ _ _. sym (u.latch (whole q) i) })) (tables_after same); step = it_is };
        parted = record { tables = tables_latched (λ b _ _ z. by_area b (λ q. absurd (unkept b q z))) (tables_void (tables_after same)); step = it_is };
      }
