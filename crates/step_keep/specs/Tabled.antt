-- The tables of a network's areas: what stands in each, and what of it is kept from step to step. Assumes nothing.
use Rattle.whole.specs.Plain.{ℕ, sym, ap, subst, ◌∙◌, inl, inr, List, length, length-set}
use Rattle.whole.specs.Plain.{ℕ_discrete, dec_lt, arith, Words}
use borrow.Rule.Slice.PartMut.{mid_len}
use Rattle.std.specs.Prelude.{Float, Result, Ok, Err, ◌+◌, ◌-◌, ◌≤◌, ◌<◌, ◌≡◌, ◌⊎◌}
use Rattle.paper.specs.Limits as Limits
use Rattle.paper.specs.Areas.{Net, area_count, free_of}
use Rattle.laws_facts.specs.Nets.{NetSound, area_count_most}
use Rattle.plan_ends.specs.Own.{Framed}
use Rattle.plan_rows.specs.Planned.{Plan, Planned}
use Rattle.step_legs.specs.declared.Wire.{Wire}
use Rattle.step_legs.specs.declared.Source.{Source}
use Rattle.plan_own.specs.declared.Own.{Own}
use Rattle.plan_lay.specs.Grown.{part}
use Rattle.plan_own.specs.Owns as Owns
use Rattle.plan_own.specs.Owns.{own_in, prepared, until_put, Ours, Apart}
use Rattle.plan_own.specs.Kept.{legs_put, tables_legs, ours_legs, other_below, other_above, end_in, new_long, put_here, put_below, put_above, own_put, own_other}
use Rattle.step_factors.specs.Factors.{Square}
use Rattle.step_factors.specs.Blocks.{Renewed, serves_beside}
use Rattle.step_prepare.specs.declared.Floating.{Floating}
use Rattle.step_own.specs.Laid.{SameLatches}
use Rattle.step_prepare.specs.Serving.{unless_floating, unless_none, unless_ok, unless_err, Serving, Standing, Prepares, floats, serving_latched}

-- an area's own lines
abbrev pub own_legs : List Own → ℕ → List Wire → List Wire
own_legs owns a legs = part (own_in owns a).legs (own_in owns a).legs_end legs

-- of areas low to high, with what is kept from step k on by the latches in the records
pub record Tables (N : Net) (low high k : ℕ) (recs : Words) (plan : Plan) (owns : List Own) (legs : List Wire) (nodes : List ℕ) (sources : List Source) (f : List (List Float)) : Type 0 where
  pub sound : NetSound N
  pub planned : Planned N plan
  pub least : 1 ≤ low
  pub most : high ≤ area_count N
  pub long : length owns ≡ 33
  pub tables : Owns.Tables legs nodes sources
  pub square : Square f
  pub ours : (a : ℕ) → low ≤ a → a ≤ high → Ours N a (own_in owns a) legs nodes sources
  pub apart : (a b : ℕ) → low ≤ a → a < b → b ≤ high → Apart (own_in owns a) (own_in owns b)
  pub kept : (a j : ℕ) → low ≤ a → a ≤ high → k ≤ j → j < (own_in owns a).until → Serving N a j recs (own_in owns a).base (own_legs owns a legs) f

-- a later step
pub tables_later : {N : Net} {low high k : ℕ} {recs : Words} {plan : Plan} {owns : List Own} {legs : List Wire} {nodes : List ℕ} {sources : List Source} {f : List (List Float)} (i : ℕ) → k ≤ i
    → Tables N low high k recs plan owns legs nodes sources f → Tables N low high i recs plan owns legs nodes sources f
tables_later i h t = record {
  sound = t.sound;
  planned = t.planned;
  least = t.least;
  most = t.most;
  long = t.long;
  tables = t.tables;
  square = t.square;
  ours = t.ours;
  apart = t.apart;
  kept = λ a j l m q r. t.kept a j l m (omega arith) r;
}

module _ {N : Net} {low high k : ℕ} {recs : Words} {plan : Plan} {owns : List Own} {legs : List Wire} {nodes : List ℕ} {sources : List Source} {f : List (List Float)}
    (t : Tables N low high k recs plan owns legs nodes sources f) (a : ℕ) (l : low ≤ a) (m : a ≤ high) where
  abbrev o : Own
  o = own_in owns a

  pub area_few : a < 33
  area_few = omega (arith, area_count_most N t.sound, t.sound.node_most, t.most)

  free_length : length (free_of N a) ≡ o.free_end - o.base
  free_length =
      let w = t.ours a l m in
      ap length (sym w.free) ∙ mid_len o.base o.free_end nodes (omega (arith, w.nodes_in.1, w.nodes_in.2, t.tables.nodes_long))

  -- what an area's preparation goes by
  pub standing : Standing N a plan (own_legs owns a legs) (part o.base o.free_end nodes) o.base
  standing =
      let w = t.ours a l m in
      record {
        sound = t.sound;
        one = omega (arith, t.least);
        planned = t.planned;
        framed = w.framed;
        free_is = w.free;
        room = omega (arith, ap length w.free, free_length, w.nodes_in.0, w.nodes_in.1, w.nodes_in.2);
      }

-- other records: what is kept of an area serves on, where none of its switches has parted
pub tables_latched : {N : Net} {low high k : ℕ} {recs recs' : Words} {plan : Plan} {owns : List Own} {legs : List Wire} {nodes : List ℕ} {sources : List Source} {f : List (List Float)}
    → ((a : ℕ) → low ≤ a → a ≤ high → 0 < (own_in owns a).until → SameLatches N a recs recs') → Tables N low high k recs plan owns legs nodes sources f → Tables N low high k recs' plan owns legs nodes sources f
tables_latched same t = record {
  sound = t.sound;
  planned = t.planned;
  least = t.least;
  most = t.most;
  long = t.long;
  tables = t.tables;
  square = t.square;
  ours = t.ours;
  apart = t.apart;
  kept = λ a j l m q r. serving_latched t.sound (omega (arith, t.least)) (same a l m (omega arith)) (t.kept a j l m q r);
}

-- ---- one area's lines written anew, and its part of the factors
module _ {N : Net} {low high k : ℕ} {recs : Words} {plan : Plan} {owns : List Own} {legs : List Wire} {nodes : List ℕ} {sources : List Source} {f : List (List Float)}
    (t : Tables N low high k recs plan owns legs nodes sources f) (a : ℕ) (l : low ≤ a) (m : a ≤ high) where
  block_end : (b : ℕ) → low ≤ b → b ≤ high → (own_in owns b).base + length (free_of N b) ≤ (own_in owns b).nodes_end
  block_end b p q = let w = t.ours b p q in omega (arith, free_length t b p q, w.nodes_in.0, w.nodes_in.1)

  -- another area's factors stay where this one's are renewed
  beside : {f' : List (List Float)} → Renewed (own_in owns a).base (length (free_of N a)) f f' → (b j : ℕ) → low ≤ b → b ≤ high → (b ≡ a → ⊥) → {x : List Wire} → Serving N b j recs (own_in owns b).base x f
      → Serving N b j recs (own_in owns b).base x f'
  beside r b j p q n s = record { conducts = s.conducts; serves = serves_beside r (by (dec_lt b a)) s.serves; grounded = s.grounded }
    where
      by : Dec (b < a) → ((own_in owns b).base + length (free_of N b) ≤ (own_in owns a).base) ⊎ ((own_in owns a).base + length (free_of N a) ≤ (own_in owns b).base)
      by (yes h) = inl (omega (arith, (t.apart b a p h m).nodes, block_end b p q))
      by (no h) = inr (omega (arith, (t.apart a b l (omega arith) q).nodes, block_end a l m))

  module _ (new : List Wire) (fr : Framed N a new) where
    w : Ours N a (own_in owns a) legs nodes sources
    w = t.ours a l m

    abbrev put : List Wire
    put = legs_put (own_in owns a) legs new

    pub put_own : own_legs owns a put ≡ new
    put_own = put_here legs new (own_in owns a).legs (own_in owns a).legs_end w.legs_in.0 (end_in t.tables w new fr) (new_long t.tables w new fr)

    other : (b : ℕ) → low ≤ b → b ≤ high → (b ≡ a → ⊥) → own_legs owns b put ≡ own_legs owns b legs
    other b p q n = by (dec_lt b a)
      where
        by : Dec (b < a) → own_legs owns b put ≡ own_legs owns b legs
        by (yes h) =
            put_below legs new (own_in owns a).legs (own_in owns a).legs_end w.legs_in.0 (end_in t.tables w new fr) (new_long t.tables w new fr) (own_in owns b).legs (own_in owns b).legs_end
            (t.ours b p q).legs_in.0 (t.apart b a p h m).legs
        by (no h) =
            put_above legs new (own_in owns a).legs (own_in owns a).legs_end w.legs_in.0 (end_in t.tables w new fr) (new_long t.tables w new fr) (own_in owns b).legs (own_in owns b).legs_end
            (t.apart a b l (omega arith) q).legs

    pub tables_put : {f' : List (List Float)} → Renewed (own_in owns a).base (length (free_of N a)) f f' → ((j : ℕ) → k ≤ j → j < (own_in owns a).until → Serving N a j recs (own_in owns a).base new f')
        → Tables N low high k recs plan owns put nodes sources f'
    tables_put {f'} r s = record {
      sound = t.sound;
      planned = t.planned;
      least = t.least;
      most = t.most;
      long = t.long;
      tables = tables_legs t.tables w new fr;
      square = r.square;
      ours = λ b p q. ours b p q (dec_lt b a) (dec_lt a b);
      apart = t.apart;
      kept = λ b j p q x y. kept b j p q x y (ℕ_discrete b a);
    }
      where
        ours : (b : ℕ) → low ≤ b → b ≤ high → Dec (b < a) → Dec (a < b) → Ours N b (own_in owns b) put nodes sources
        ours b p q (yes h) d = other_below t.tables w new fr (t.apart b a p h m) (t.ours b p q)
        ours b p q (no h) (yes d) = other_above t.tables w new fr (t.apart a b l d q) (t.ours b p q)
        ours b p q (no h) (no d) = let e : b ≡ a = omega arith in rw e (ours_legs t.tables w new fr)

        kept : (b j : ℕ) → low ≤ b → b ≤ high → k ≤ j → j < (own_in owns b).until → Dec (b ≡ a) → Serving N b j recs (own_in owns b).base (own_legs owns b put) f'
        kept b j p q x y (yes e) = rw (e, put_own) (s j x (rw e at y))
        kept b j p q x y (no e) = rw (other b p q e) (beside r b j p q e (t.kept b j p q x y))

  -- and the step until which it serves
  pub tables_until : (u : ℕ) → ((j : ℕ) → k ≤ j → j < u → Serving N a j recs (own_in owns a).base (own_legs owns a legs) f) → Tables N low high k recs plan (until_put owns a u) legs nodes sources f
  tables_until u s = record {
    sound = t.sound;
    planned = t.planned;
    least = t.least;
    most = t.most;
    long = length-set owns a _ ∙ t.long;
    tables = t.tables;
    square = t.square;
    ours = λ b p q. same (λ o. Ours N b o legs nodes sources) (λ o w. record { legs_in = w.legs_in; nodes_in = w.nodes_in; sources_in = w.sources_in; framed = w.framed; free = w.free; nodes = w.nodes; sources = w.sources }) b (t.ours b p q);
    apart = λ b c p h q. same (λ o. Apart o (own_in (until_put owns a u) c)) (λ o w. record { legs = w.legs; nodes = w.nodes; sources = w.sources }) b
        (same (λ o. Apart (own_in owns b) o) (λ o w. record { legs = w.legs; nodes = w.nodes; sources = w.sources }) c (t.apart b c p h q));
    kept = λ b j p q x y. kept b j p q x y (ℕ_discrete b a);
  }
    where
      here : own_in (until_put owns a u) a ≡ prepared (own_in owns a) u
      here = own_put owns a (prepared (own_in owns a) u) (omega (arith, t.long, area_few t a l m))

      other : (b : ℕ) → (b ≡ a → ⊥) → own_in (until_put owns a u) b ≡ own_in owns b
      other b n = own_other owns a b (prepared (own_in owns a) u) n

      same : (P : Own → Type 0) → ((o : Own) → P o → P (prepared o u)) → (b : ℕ) → P (own_in owns b) → P (own_in (until_put owns a u) b)
      same P keep b x = elim (ℕ_discrete b a) [
        | yes e ↦ subst (λ (n : ℕ). P (own_in (until_put owns a u) n)) (sym e) (subst P (sym here) (keep (own_in owns a) (subst (λ (n : ℕ). P (own_in owns n)) e x)))
        | no e ↦ subst P (sym (other b e)) x
      ]

      kept : (b j : ℕ) → low ≤ b → b ≤ high → k ≤ j → j < (own_in (until_put owns a u) b).until → Dec (b ≡ a) → Serving N b j recs (own_in (until_put owns a u) b).base (own_legs (until_put owns a u) b legs) f
      kept b j p q x y (yes e) =
          subst (λ (n : ℕ). Serving N n j recs (own_in (until_put owns a u) n).base (own_legs (until_put owns a u) n legs) f) (sym e)
          (subst (λ (o : Own). Serving N a j recs o.base (part o.legs o.legs_end legs) f) (sym here) (s j x (subst (λ (o : Own). j < o.until) here (subst (λ (n : ℕ). j < (own_in (until_put owns a u) n).until) e y))))
      kept b j p q x y (no e) =
          subst (λ (o : Own). Serving N b j recs o.base (part o.legs o.legs_end legs) f) (sym (other b e)) (t.kept b j p q x (subst (λ (o : Own). j < o.until) (other b e) y))

-- ---- what is kept, renewed where it does not serve step k

pub record Known (k : ℕ) (recs : Words) (plan : Plan) (owns : List Own) (legs : List Wire) (nodes : List ℕ) (f : List (List Float)) (a : ℕ) : Type 0 where
  pub net : Net
  pub low : ℕ
  pub high : ℕ
  pub sources : List Source
  pub tables : Tables net low high k recs plan owns legs nodes sources f
  pub least : low ≤ a
  pub most : a ≤ high
  pub few : k ≤ Limits.steps_end
  pub long : length recs ≡ Limits.record_words

pub record Renewing (N : Net) (low high k a : ℕ) (recs : Words) (plan : Plan) (nodes : List ℕ) (sources : List Source) (r : Result (Unit {0}) Floating) (owns : List Own) (legs : List Wire) (f : List (List Float)) : Type 0 where
  pub answer : r ≡ unless_floating (floats N a k recs) tt
  pub tables : Tables N low high k recs plan owns legs nodes sources f
  pub serving : r ≡ Ok tt → Serving N a k recs (own_in owns a).base (own_legs owns a legs) f

pub record Renews (k a : ℕ) (recs : Words) (plan : Plan) (nodes : List ℕ) (owns : List Own) (legs : List Wire) (f : List (List Float)) (r : Result (Unit {0}) Floating) (owns' : List Own) (legs' : List Wire) (f' : List (List Float)) : Type 0 where
  pub of : (N : Net) (low high : ℕ) (sources : List Source) → Tables N low high k recs plan owns legs nodes sources f → low ≤ a → a ≤ high → Renewing N low high k a recs plan nodes sources r owns' legs' f'

-- ---- of the own that was read
module _ {k a : ℕ} {recs : Words} {plan : Plan} {owns : List Own} {legs : List Wire} {nodes : List ℕ} {f : List (List Float)} {o : Own} (e : o ≡ own_in owns a) where
  pub ours_read : {N : Net} {low high : ℕ} {sources : List Source} → Tables N low high k recs plan owns legs nodes sources f → low ≤ a → a ≤ high → Ours N a o legs nodes sources
  ours_read t l m = rw e (t.ours a l m)

  pub stands_read : {N : Net} {low high : ℕ} {sources : List Source} → Tables N low high k recs plan owns legs nodes sources f → low ≤ a → a ≤ high
      → Standing N a plan (part o.legs o.legs_end legs) (part o.base o.free_end nodes) o.base
  stands_read {N} t l m = subst (λ (x : Own). Standing N a plan (part x.legs x.legs_end legs) (part x.base x.free_end nodes) x.base) (sym e) (standing t a l m)

  -- what was prepared goes on serving
  pub renews_none : k < o.until → Renews k a recs plan nodes owns legs f (Ok tt) owns legs f
  renews_none h = record {
    of = λ N low high sources t l m.
        let s = t.kept a k l m (omega arith) (subst (λ (x : Own). k < x.until) e h) in
        record { answer = unless_none _ tt s.grounded; tables = t; serving = λ z. s };
  }

  module _ {p : Result ℕ Floating} {new : List Wire} {f' : List (List Float)} (late : o.until ≤ k)
      (r : (N : Net) (n : ℕ) → Standing N n plan (part o.legs o.legs_end legs) (part o.base o.free_end nodes) o.base → Prepares N n k recs o.base p new f')
      (w : Renewed o.base (length (part o.base o.free_end nodes)) f f') where
    module _ {N : Net} {low high : ℕ} {sources : List Source} (t : Tables N low high k recs plan owns legs nodes sources f) (l : low ≤ a) (m : a ≤ high) where
      found : Prepares N a k recs (own_in owns a).base p new f'
      found = subst (λ (x : Own). Prepares N a k recs x.base p new f') e (r N a (stands_read t l m))

      anew : Tables N low high k recs plan owns (legs_put (own_in owns a) legs new) nodes sources f'
      anew =
          tables_put t a l m new found.framed
          (rw (t.ours a l m).free at (subst (λ (x : Own). Renewed x.base (length (part x.base x.free_end nodes)) f f') e w))
          (λ j x y. absurd (omega (arith, ap (λ (x : Own). x.until) e)))

    pub renews_stop : {d : Floating} → p ≡ Err d → Renews k a recs plan nodes owns legs f (Err d) owns (legs_put o legs new) f'
    renews_stop {d} q = record {
      of = λ N low high sources t l m.
          record {
            answer = unless_err (floats N a k recs) (found t l m).until tt (sym q ∙ (found t l m).answer);
            tables = subst (λ (x : Own). Tables N low high k recs plan owns (legs_put x legs new) nodes sources f') (sym e) (anew t l m);
            serving = λ z. cc;
          };
    }

    pub renews_on : {owns' : List Own} {u : ℕ} → p ≡ Ok u → owns' ≡ until_put owns a u → Renews k a recs plan nodes owns legs f (Ok tt) owns' (legs_put o legs new) f'
    renews_on {u = u} z q = record { of = λ N low high sources t l m. rw q (renewed t l m) }
      where
        renewed : {N : Net} {low high : ℕ} {sources : List Source} → Tables N low high k recs plan owns legs nodes sources f → low ≤ a → a ≤ high → Renewing N low high k a recs plan nodes sources (Ok tt) (until_put owns a u) (legs_put o legs new) f'
        renewed {N} {low} {high} {sources} t l m =
            let g = found t l m in
            let y = unless_ok (floats N a k recs) (sym z ∙ g.answer) in
            let i = tables_until (anew t l m) a l m u (λ j x b. rw (put_own t a l m new g.framed) (g.serving y.0 j x (rw y.1 at b))) in
            let h = own_put owns a (prepared (own_in owns a) u) (omega (arith, t.long, area_few t a l m)) in
            subst (λ (x : Own). Renewing N low high k a recs plan nodes sources (Ok tt) (until_put owns a u) (legs_put x legs new) f') (sym e)
            (record {
              answer = unless_none (floats N a k recs) tt y.0;
              tables = i;
              serving = λ b. i.kept a k l m (omega arith) (subst (λ (x : Own). k < x.until) (sym h) (rw (sym y.1) at g.on));
            })
