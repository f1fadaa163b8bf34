-- `step_area::ready` meets its contract: 14, or the step from what is kept for it. Assumes nothing.
use Rattle.std.proofs.lemmas.Result.{err_from_is_err_and}
use Rattle.std.specs.Prelude.{◌≡◌}
use Rattle.whole.specs.Plain.{refl, sym, ◌∙◌, Bool, true, false, true≢false, arith}
use Rattle.step_area.specs.Going.{unless_node, floating_step}
use Rattle.step_area.proofs.ready.Goals as goal

pub renew-requires : goal.renew-requires
renew-requires c =
    let p = c.requires in
    record {
      net = p.net;
      low = p.low;
      high = p.high;
      sources = c.args.sources.now;
      tables = p.tables;
      least = p.stepping.least;
      most = p.stepping.most;
      few = omega (arith, p.stepping.step, p.tables.sound.study.steps_in.most);
      long = p.stepping.kept.records_long;
    }

pub returns-in_err-renew : goal.returns-in_err-renew
returns-in_err-renew c =
    let p = err_from_is_err_and c.from_residual.result c.from_residual.ensures.1 in
    record {
      of = λ N low high t s.
          let w = c.renew.ensures.of N low high _ t s.least s.most in
          let n = unless_node _ tt (sym c.in_err-renew.was ∙ w.answer) in
          rw (p.1, p.2) (record { tables = w.tables; step = floating_step N _ _ _ _ (omega (arith, t.least, s.least)) n.0 n.1 });
    }

pub stepped-requires : goal.stepped-requires
stepped-requires c =
    let p = c.requires in
    let w = c.renew.ensures.of _ _ _ _ p.tables p.stepping.least p.stepping.most in
    record { net = p.net; low = p.low; high = p.high; owns = c.renew.new.owns; ready = record { tables = w.tables; stepping = p.stepping; own = refl; serving = w.serving c.in_ok-renew.was } }

pub returns-in_err-parted : goal.returns-in_err-parted
returns-in_err-parted c =
    let p = err_from_is_err_and c.from_residual-in_err-parted.result c.from_residual-in_err-parted.ensures.1 in
    record {
      of = λ N low high t s.
          let w = c.renew.ensures.of N low high _ t s.least s.most in
          let r = c.stepped.ensures.of N low high c.renew.new.owns (record { tables = w.tables; stepping = s; own = refl; serving = w.serving c.in_ok-renew.was }) in
          rw (p.1, p.2) (rw c.in_err-parted.was at (r.whole (λ q. cc (q, c.in_err-parted.was))));
    }

pub returns-then-parted : goal.returns-then-parted
returns-then-parted c = record {
  of = λ N low high t s.
      let w = c.renew.ensures.of N low high _ t s.least s.most in
      let r = c.stepped.ensures.of N low high c.renew.new.owns (record { tables = w.tables; stepping = s; own = refl; serving = w.serving c.in_ok-renew.was }) in
      rw c.in_ok-parted.was at r.parted;
}

pub returns-else-parted : goal.returns-else-parted
returns-else-parted c = record {
  of = λ N low high t s.
      let w = c.renew.ensures.of N low high _ t s.least s.most in
      let r = c.stepped.ensures.of N low high c.renew.new.owns (record { tables = w.tables; stepping = s; own = refl; serving = w.serving c.in_ok-renew.was }) in
      rw c.in_ok-parted.was at (r.whole (λ q. let z : ◌≡◌ {A = Bool} true false = cc (q, c.in_ok-parted.was, c.if-parted.false) in absurd (true≢false z)));
}
