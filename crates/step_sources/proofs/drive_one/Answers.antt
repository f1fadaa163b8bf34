-- `step_sources::drive_one` meets its contract: one answer for each kind of source. Assumes nothing.
use Rattle.std.specs.Prelude.{◌-◌, ◌^◌, ◌≤◌, ◌<◌, ◌≡◌, ◌≢◌, ◌+ℤ◌, ◌-ℤ◌}
use Rattle.whole.specs.Plain.{ℕ, refl, sym, ap, ◌∙◌, Bool, true, false, true≢false, eqb, ℤ, pos, nat_abs, mag, set}
use Rattle.whole.specs.Plain.{le_trans, arith, Words, word, nat}
use mir.Syntax.{w64}
use mir.Val.{SFits, to_z, of_z}
use mir.Facts.{to_z-of_z, to_z_pos}
use Rattle.whole.specs.Int.{read64, fits64}
use Rattle.paper.specs.Limits as Limits
use Rattle.paper.specs.declared.kinds.Kind.{Kind}
use Rattle.paper.specs.declared.kinds.Kind.TheVariants.{Study, R, L, C, Line, Sw, Vs, Is, Vc, Swt}
use Rattle.paper.specs.Kinds.{number}
use Rattle.paper.specs.Rows.{kinds, source_kind, fixing_kind}
use Rattle.step_legs.specs.declared.Source.{Source}
use Rattle.step_sources.specs.Table.{is_fixing, is_iS, is_vC, LineSound, Room, pace, since, ramp_of, swing_of, value_of, give}
use Rattle.step_sources.specs.Values.{since_most, ramp_size, ramps, swinging, value_size}
use Rattle.step_sources.specs.Given.{give_is, give_not, room_adds}
use Rattle.step_sources.proofs.drive_one.Goals as goal

-- a class, by the kind
fixes-by : (s : Source) (k : Kind) (b : Bool) → s.kind ≡ k → fixing_kind (number k) ≡ b → is_fixing s ≡ b
fixes-by s k b e f = ap (λ (x : Kind). fixing_kind (number x)) e ∙ f

number-by : (s : Source) (k : Kind) (n : ℕ) (b : Bool) → s.kind ≡ k → eqb (number k) n ≡ b → eqb (number s.kind) n ≡ b
number-by s k n b e f = ap (λ (x : Kind). eqb (number x) n) e ∙ f

-- a source that is no VS and no IS is a VC
the-third : (k : Kind) → source_kind (number k) ≡ true → k ≢ Vs → k ≢ Is → k ≡ Vc
unfolding source_kind kinds
the-third Study s f g = absurd (true≢false (sym s))
the-third R s f g = absurd (true≢false (sym s))
the-third L s f g = absurd (true≢false (sym s))
the-third C s f g = absurd (true≢false (sym s))
the-third Line s f g = absurd (true≢false (sym s))
the-third Sw s f g = absurd (true≢false (sym s))
the-third Vs s f g = absurd (f refl)
the-third Is s f g = absurd (g refl)
the-third Vc s f g = refl
the-third Swt s f g = absurd (true≢false (sym s))

-- a source at step k: its numbers as the machine reads them, and what it gives to the node that it names
module _ {k : ℕ} {s : Source} (sound : LineSound s) (steps : k ≤ Limits.steps_end) where
  peak-fits : SFits w64 s.peak
  peak-fits = fits64 s.peak (omega (arith, sound.peak_most))

  start_fits : SFits w64 s.start
  start_fits = fits64 s.start (omega (arith, sound.start_in.most))

  pace-fits : SFits w64 s.pace
  pace-fits = fits64 s.pace (omega (arith, sound.pace_most))

  step_is : to_z w64 k ≡ pos k
  step_is = to_z_pos w64 (omega (arith, steps))

  since-end : nat_abs (since k s) ≤ Limits.steps_end
  since-end = rw sound.start_in.is_nat (since_most k (nat s.start) Limits.steps_end steps sound.start_in.most)

  since-fits : SFits w64 (since k s)
  since-fits = fits64 (since k s) (omega (arith, since-end))

  module _ {x : ℤ} (e : x ≡ value_of k s) where
    fit : {w : Words} → Room (Limits.source_end - 1) w → (s.node < 33) × SFits w64 (word w s.node) × SFits w64 (word w s.node +ℤ x)
    fit r = room_adds r (omega arith) s.node x sound.at_in.1 (rw e (le_trans (value_size k s) sound.peak_most))

    gave : (p : Source → Bool) (w : Words) → p s ≡ true → set w s.node (word w s.node +ℤ x) ≡ give p k w s
    gave p w = give_is p k w s s.node x refl e

  -- what it ramps to
  module _ (x : ℤ) (m : mag x < 2 ^ 63) (e : x ≡ ramp_of (to_z w64 (of_z w64 s.peak)) (to_z w64 (of_z w64 (to_z w64 k -ℤ to_z w64 (of_z w64 s.start)))) (to_z w64 (of_z w64 s.pace))) where
    ramp-is : to_z w64 (of_z w64 x) ≡ ramp_of s.peak (since k s) s.pace
    ramp-is = read64 _ m ∙ simp (to_z-of_z, peak-fits, start_fits, pace-fits, step_is, since-fits) at e

    ramp-value : is_vC s ≡ false → to_z w64 (of_z w64 x) ≡ value_of k s
    ramp-value f = ramp-is ∙ ramps k s f

  -- a VC: any other source
  module _ (vc : is_vC s ≡ true) {m : ℕ} (turned : m ≡ nat_abs (to_z w64 (of_z w64 s.pace))) where
    -- its pace, without the sign
    turned-is : m ≡ pace s
    turned-is = turned ∙ simp (to_z-of_z, pace-fits) refl

    -- what it swings to
    module _ (x : ℤ) (g : mag x < 2 ^ 63) (e : x ≡ ramp_of (to_z w64 (of_z w64 s.peak)) (to_z w64 (of_z w64 (to_z w64 k -ℤ to_z w64 (of_z w64 s.start)))) (to_z w64 (of_z w64 s.pace))) where
      swing-value : (y : ℤ) → mag y < 2 ^ 63 → y ≡ swing_of (to_z w64 (of_z w64 x)) (to_z w64 (of_z w64 (to_z w64 k -ℤ to_z w64 (of_z w64 s.start)))) m → to_z w64 (of_z w64 y) ≡ value_of k s
      swing-value y t f =
          read64 _ t ∙ (simp (to_z-of_z, start_fits, step_is, since-fits) at (rw (ramp-is x g e, turned-is) at f)) ∙ swinging k s vc (sound.pace_is vc)

-- so, of a source in its ranges
swings : {s : Source} → LineSound s → s.kind ≢ Vs → s.kind ≢ Is → s.kind ≡ Vc
swings {s} h f g = the-third s.kind h.kind_in f g

pub returns-in-Vs-clause-v_value : goal.returns-in-Vs-clause-v_value
unfolding fixing_kind kinds
returns-in-Vs-clause-v_value c =
    let h = c.requires.sound in
    c.add.ensures ∙ gave h.0 h.1 (ramp-value h.0 h.1 c.ramp-x.result c.ramp-x.type_inv c.ramp-x.ensures (number-by c.args.s Vs 8 false c.in-Vs.is refl)) is_fixing _ (fixes-by c.args.s Vs true c.in-Vs.is refl)

pub returns-in-Vs-clause-inject_value : goal.returns-in-Vs-clause-inject_value
returns-in-Vs-clause-inject_value c = give_not is_iS _ _ _ (number-by c.args.s Vs 7 false c.in-Vs.is refl)

pub returns-in-Is-clause-v_value : goal.returns-in-Is-clause-v_value
unfolding fixing_kind kinds
returns-in-Is-clause-v_value c = give_not is_fixing _ _ _ (fixes-by c.args.s Is false c.in-Is.is refl)

pub returns-in-Is-clause-inject_value : goal.returns-in-Is-clause-inject_value
returns-in-Is-clause-inject_value c =
    let h = c.requires.sound in
    c.add-in-Is.ensures ∙ gave h.0 h.1 (ramp-value h.0 h.1 c.ramp-x.result c.ramp-x.type_inv c.ramp-x.ensures (number-by c.args.s Is 8 false c.in-Is.is refl)) is_iS _ (number-by c.args.s Is 7 true c.in-Is.is refl)

pub returns-in_default-clause-v_value : goal.returns-in_default-clause-v_value
unfolding fixing_kind kinds
returns-in_default-clause-v_value c =
    let h = c.requires.sound in
    let vc = number-by c.args.s Vc 8 true (swings c.requires.sound.0 c.in_default.not-Vs c.in_default.not-Is) refl in
    let w = swing-value h.0 h.1 vc c.magnitude.ensures c.ramp-x.result c.ramp-x.type_inv c.ramp-x.ensures c.swing-swung.result c.swing-swung.type_inv c.swing-swung.ensures in
    c.add-in_default.ensures ∙ gave h.0 h.1 w is_fixing _ (fixes-by c.args.s Vc true (swings c.requires.sound.0 c.in_default.not-Vs c.in_default.not-Is) refl)

pub returns-in_default-clause-inject_value : goal.returns-in_default-clause-inject_value
returns-in_default-clause-inject_value c = give_not is_iS _ _ _ (number-by c.args.s Vc 7 false (swings c.requires.sound.0 c.in_default.not-Vs c.in_default.not-Is) refl)

pub add-requires : goal.add-requires
add-requires c =
    let h = c.requires.sound in
    fit h.0 h.1 (ramp-value h.0 h.1 c.ramp-x.result c.ramp-x.type_inv c.ramp-x.ensures (number-by c.args.s Vs 8 false c.in-Vs.is refl)) c.requires.room.0

pub add-requires-in-Is : goal.add-requires-in-Is
add-requires-in-Is c =
    let h = c.requires.sound in
    fit h.0 h.1 (ramp-value h.0 h.1 c.ramp-x.result c.ramp-x.type_inv c.ramp-x.ensures (number-by c.args.s Is 8 false c.in-Is.is refl)) c.requires.room.1

pub swing-swung-requires-clause-peak_bound : goal.swing-swung-requires-clause-peak_bound
swing-swung-requires-clause-peak_bound c =
    let h = c.requires.sound in
    let s = c.args.s in
    let vc = number-by s Vc 8 true (swings c.requires.sound.0 c.in_default.not-Vs c.in_default.not-Is) refl in
    rw (ramp-is h.0 h.1 c.ramp-x.result c.ramp-x.type_inv c.ramp-x.ensures, turned-is h.0 h.1 vc c.magnitude.ensures)
    (le_trans (ramp_size s.peak (since c.args.k s) s.pace) (h.0.volt_most vc), h.0.pace_most)

pub add-requires-in_default : goal.add-requires-in_default
add-requires-in_default c =
    let h = c.requires.sound in
    let vc = number-by c.args.s Vc 8 true (swings c.requires.sound.0 c.in_default.not-Vs c.in_default.not-Is) refl in
    fit h.0 h.1 (swing-value h.0 h.1 vc c.magnitude.ensures c.ramp-x.result c.ramp-x.type_inv c.ramp-x.ensures c.swing-swung.result c.swing-swung.type_inv c.swing-swung.ensures) c.requires.room.0
