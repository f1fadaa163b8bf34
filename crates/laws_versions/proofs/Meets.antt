-- What demands 1 and 2 ask of any version of `advance`: its answers are exact, its accepted steps are the paper's, its refusals change nothing. The
-- paper's definition meets this, and no other version does. Assumes nothing.
use Rattle.std.specs.Prelude.{Ok, Err}
use Rattle.std.specs.Prelude.{◌≡◌}
use Rattle.whole.specs.Plain.{ℕ, refl, sym, ap, ◌∙◌, false, Words}
use Rattle.paper.specs.Replies.{Advance}
use Rattle.paper.specs.declared.Refusal.TheVariants.{Store, Network, State, Area, Done, Wait, Floating, Range, Unbalanced, History}
use Rattle.paper.specs.Answers.{accepted}
use Rattle.paper.specs.Advance.{Memory, advanced, advance_of}
use Rattle.paper.proofs.Kept.{advance_refused}
use Rattle.laws_facts.specs.Nets.{net_in}
use Rattle.laws_facts.proofs.Nets.{net_sound}
use Rattle.laws_stays.specs.Stays.{Long}
use Rattle.laws_stays.proofs.Stays.{stays}
use Rattle.laws_demands.specs.Judged.{fits_long, call_of}
use Rattle.laws_demands.proofs.Exact.{exactly}
use Rattle.laws_demands.proofs.Step.{step}
use Rattle.laws_versions.specs.Result.{result_one}
use Rattle.laws_versions.specs.Meets.{Version, Meets, version}

long_after : (net : Words) (a : ℕ) (m : Memory) (x : ℕ) → (advance_of net a m).answer ≡ Ok x → Long (advance_of net a m).after
long_after net a m x e =
    let j = ((exactly net a m (Ok x)).0 e).0.next.judged in
    rw (call_of net a m j) (stays (net_in net) (net_sound net j.network) a m (fits_long net m j.lengths) j.formed).0

pub meets : Meets version
meets = record { answers = exactly; stepped = step; lengths = long_after; kept = advance_refused }

-- ---- no other version does

module _ (F G : Version) (M : Meets F) (M' : Meets G) (net : Words) (a : ℕ) (m : Memory) where
  same_answer : (F net a m).answer ≡ (G net a m).answer
  same_answer = sym ((M'.answers net a m _).1 ((M.answers net a m _).0 refl))

  refused_both : accepted (F net a m).answer ≡ false → (F net a m).after ≡ (G net a m).after
  refused_both e = M.kept net a m e ∙ sym (M'.kept net a m (ap accepted (sym same_answer) ∙ e))

  took_both : (x : ℕ) → (F net a m).answer ≡ Ok x → (F net a m).after ≡ (G net a m).after
  took_both x e =
      let e' : (G net a m).answer ≡ Ok x = sym same_answer ∙ e in
      let r = ((M.answers net a m (Ok x)).0 e).0 in
      result_one (net_in net) (net_sound net r.next.judged.network) a x r.next.area m (F net a m).after (G net a m).after
      (M.stepped net a m x e).offered (M'.stepped net a m x e').offered (M.lengths net a m x e) (M'.lengths net a m x e')

  same_after : (F net a m).after ≡ (G net a m).after
  same_after = go (F net a m).answer refl
    where
      go : (x : Advance) → (F net a m).answer ≡ x → (F net a m).after ≡ (G net a m).after
      go (Ok x) e = took_both x e
      go (Err Network) e = refused_both (rw e)
      go (Err Store) e = refused_both (rw e)
      go (Err State) e = refused_both (rw e)
      go (Err Area) e = refused_both (rw e)
      go (Err Done) e = refused_both (rw e)
      go (Err (Wait b)) e = refused_both (rw e)
      go (Err (Floating n)) e = refused_both (rw e)
      go (Err (Range n)) e = refused_both (rw e)
      go (Err (Unbalanced n)) e = refused_both (rw e)
      go (Err (History b)) e = refused_both (rw e)

  -- two versions that meet demand 2 are one: in the answer and in every lent word, on all inputs
  pub one_version : F net a m ≡ G net a m
  one_version = λ x. advanced (same_answer x) (same_after x)
