-- Moves with the diamond: two areas whose calls are accepted may be called in either order. An accepted call can then be pulled to the front of
-- a run. Assumes nothing.
use Prim.Native.Nat.{ℕ, suc, ◌≤◌}
use Rattle.std.proofs.Math.Nat.{suc_inj}
use native.Mathlib.Omega.{arith}
use Rattle.std.specs.Prelude.{◌≡◌, ◌≢◌, Bool, ◌&&◌, ◌||◌}
use Rattle.std.proofs.Math.Path.{refl, sym, ap}
use Rattle.std.proofs.Common.{◌∙◌, true≢false}
use Rattle.std.proofs.Math.Bool.{true, false, and-true, and-false}
use mathlib.Core.List.{List, [], ◌∷◌}
use Rattle.std.proofs.Math.ListN.{length}
use Rattle.laws_order.specs.Same.{same, same_eq, same_refl, same_ne}
use Rattle.laws_order.specs.Calls as C
use Rattle.laws_order.specs.Calls.{Moves, put}

pub record Laws (M : Moves) (Inv : M.S → Type 0) : Type 0 where
  pub acc_firm : (x : M.Ans) → M.acc x ≡ true → M.firm x ≡ true
  pub stay : (a : ℕ) (s : M.S) → M.acc (M.call a s) ≡ false → M.after a s ≡ s
  pub keep : (a : ℕ) (s : M.S) → Inv s → Inv (M.after a s)
  pub hold : (a b : ℕ) (s : M.S) → Inv s → a ≢ b → M.acc (M.call a s) ≡ true → M.firm (M.call b s) ≡ true → M.call b (M.after a s) ≡ M.call b s
  pub swap : (a b : ℕ) (s : M.S) → Inv s → a ≢ b → M.acc (M.call a s) ≡ true → M.acc (M.call b s) ≡ true
      → M.after b (M.after a s) ≡ M.after a (M.after b s)

-- ---- lists of areas
abbrev cut : Bool → ℕ → List ℕ → List ℕ → List ℕ
cut true c w r = w
cut false c w r = c ∷ r

-- w without its first a
pub erase : ℕ → List ℕ → List ℕ
erase a [] = []
erase a (c ∷ w) = cut (same a c) c w (erase a w)

pub has : ℕ → List ℕ → Bool
has a [] = false
has a (c ∷ w) = same a c || has a w

put_comm : {A : Type 0} (p q : Bool) (x y : A) (l : List A) → p && q ≡ false → put p x (put q y l) ≡ put q y (put p x l)
put_comm true true x y l e = absurd (true≢false e)
put_comm true false x y l e = refl
put_comm false q x y l e = refl

put_len : {A : Type 0} (p : Bool) (x y : A) (l m : List A) → length (put p x l) ≡ length (put p y m) → length l ≡ length m
put_len true x y l m e = suc_inj e
put_len false x y l m e = e

put_le : {A : Type 0} (p : Bool) (x y : A) (l m : List A) → length l ≤ length m → length (put p x l) ≤ length (put p y m)
put_le true x y l m h = omega arith
put_le false x y l m h = h

put_le' : {A : Type 0} (p h : Bool) (x y : A) (l m : List A) → length l ≤ length m → length (put (p && h) x l) ≤ length (put p y m)
put_le' true true x y l m q = omega arith
put_le' true false x y l m q = omega arith
put_le' false h x y l m q = q

not_both : (b a c : ℕ) (h : Bool) → a ≢ c → same b c && (same b a && h) ≡ false
not_both b a c h n =
    elim (same b c) as (λ x. same b c ≡ x → x && (same b a && h) ≡ false) [
      | true ↦ λ p. elim (same b a) as (λ y. same b a ≡ y → y && h ≡ false) [ true ↦ λ q. absurd (n (sym (same_eq b a q) ∙ same_eq b c p)) | false ↦ λ q. refl ] refl
      | false ↦ λ p. refl
    ] refl

module _ (M : Moves) where
  open M use {S, Ans, call, after, acc, firm}

  abbrev run : List ℕ → S → S
  run = C.run M

  abbrev told : ℕ → List ℕ → S → List Ans
  told = C.told M

  abbrev Good : List ℕ → S → Type 0
  Good = C.Good M

  abbrev strip : List ℕ → S → List ℕ
  strip = C.strip M

  abbrev Full : S → Type 0
  Full = C.Full M

  abbrev Agree : List ℕ → List ℕ → S → Type 0
  Agree = C.Agree M

  module _ (Inv : S → Type 0) (Y : Laws M Inv) where
    open Y use {acc_firm, stay, keep, hold, swap}

    pub strip_all : (w : List ℕ) (s : S) → Good (strip w s) s × (run (strip w s) s ≡ run w s) × ((a : ℕ) → told a (strip w s) s ≡ told a w s)
    unfolding C.run C.told C.strip
    strip_all [] s = (tt, refl, λ a. refl)
    strip_all (c ∷ w) s =
        let h = strip_all w (after c s) in
        let v = strip w (after c s) in
        elim (acc (call c s)) as (λ x. acc (call c s) ≡ x → Good (put x c v) s × (run (put x c v) s ≡ run w (after c s))
        × ((a : ℕ) → told a (put x c v) s ≡ put (x && same a c) (call c s) (told a w (after c s))))
        [ true ↦ λ e. ((e, h.0), h.1, λ a. rw (e, h.2 a)) | false ↦ λ e. rw (stay c s e) (rw (stay c s e) at h) ] refl

    abbrev fin : ℕ → Bool → S → S
    fin a true t = t
    fin a false t = after a t

    -- what becomes of an accepted run w from s if the accepted call a is made first: its first a, if it has one, goes
    abbrev Pulled : Bool → ℕ → List ℕ → List ℕ → S → Type 0
    Pulled h a w r s = Good r (after a s) × (run r (after a s) ≡ fin a h (run w s)) × ((b : ℕ) → told b w s ≡ put (same b a && h) (call a s) (told b r (after a s)))

    pull : (a : ℕ) (w : List ℕ) (s : S) → Inv s → acc (call a s) ≡ true → Good w s → Pulled (has a w) a w (erase a w) s
    unfolding C.run C.told has erase
    pull a [] s i ok g = (tt, refl, λ b. rw and-false)
    pull a (c ∷ w) s i ok g =
        elim (same a c) as (λ x. same a c ≡ x → Pulled (x || has a w) a (c ∷ w) (cut x c w (erase a w)) s) [
          | true ↦ λ e. rw (same_eq a c e) (g.1, refl, λ b. rw (g.0, and-true))
          | false ↦ λ e.
              let n : a ≢ c = same_ne a c e in
              let hc : call c (after a s) ≡ call c s = hold a c s i n ok (acc_firm _ g.0) in
              let ha : call a (after c s) ≡ call a s = hold c a s i (λ q. n (sym q)) g.0 (acc_firm _ ok) in
              let sw : after c (after a s) ≡ after a (after c s) = swap a c s i n ok g.0 in
              let p : Pulled (has a w) a w (erase a w) (after c s) = pull a w (after c s) (keep c s i) (rw ha ok) g.1 in (
                (rw hc g.0, rw sw p.0),
                ap (run (erase a w)) sw ∙ p.1,
                λ b. rw (hc, g.0, p.2 b, ha, sw) (put_comm (same b c) (same b a && has a w) (call c s) (call a s) _ (not_both b a c (has a w) n)),
              )
        ] refl

    -- a firm answer stays while others move
    persist : (a : ℕ) (w : List ℕ) (s : S) → Inv s → firm (call a s) ≡ true → Good w s → has a w ≡ false → call a (run w s) ≡ call a s
    unfolding C.run has
    persist a [] s i f g h = refl
    persist a (c ∷ w) s i f g h =
        elim (same a c) as (λ x. same a c ≡ x → x || has a w ≡ false → call a (run w (after c s)) ≡ call a s) [
          | true ↦ λ e q. absurd (true≢false q)
          | false ↦ λ e q. let ha : call a (after c s) ≡ call a s = hold c a s i (λ o. same_ne a c e (sym o)) g.0 f in persist a w (after c s) (keep c s i) (rw ha f) g.1 q ∙ ha
        ] refl h

    -- an area that is firmly refused is in no accepted run
    stuck : (a : ℕ) (w : List ℕ) (s : S) → Inv s → firm (call a s) ≡ true → acc (call a s) ≡ false → Good w s → has a w ≡ false
    unfolding has
    stuck a [] s i f r g = refl
    stuck a (c ∷ w) s i f r g =
        elim (same a c) as (λ x. same a c ≡ x → x || has a w ≡ false) [
          | true ↦ λ e. absurd (true≢false (sym g.0 ∙ rw (same_eq a c e) at r))
          | false ↦ λ e. let ha : call a (after c s) ≡ call a s = hold c a s i (λ q. same_ne a c e (sym q)) g.0 f in stuck a w (after c s) (keep c s i) (rw ha f) (rw ha r) g.1
        ] refl

    untold : (a : ℕ) (w : List ℕ) (s : S) → has a w ≡ false → told a w s ≡ []
    unfolding has C.told
    untold a [] s h = refl
    untold a (c ∷ w) s h =
        elim (same a c) as (λ x. x || has a w ≡ false → put (acc (call c s) && x) (call c s) (told a w (after c s)) ≡ [])
        [ true ↦ λ q. absurd (true≢false q) | false ↦ λ q. rw (and-false, untold a w (after c s) q) ] h

    has_told : (a : ℕ) (w : List ℕ) (s : S) → Good w s → length (told a w s) ≡ 0 → has a w ≡ false
    unfolding has C.told
    has_told a [] s g l = refl
    has_told a (c ∷ w) s g l =
        elim (same a c) as (λ x. length (put x (call c s) (told a w (after c s))) ≡ 0 → x || has a w ≡ false)
        [ true ↦ λ l. absurd (omega arith) | false ↦ λ l. has_told a w (after c s) g.1 l ] (rw g.0 at l)

    pub keep_run : (w : List ℕ) (s : S) → Inv s → Inv (run w s)
    unfolding C.run
    keep_run [] s i = i
    keep_run (a ∷ w) s i = keep_run w (after a s) (keep a s i)

    pub agree_good : (w v : List ℕ) (s : S) → Inv s → Good w s → Good v s → ((a : ℕ) → length (told a w s) ≡ length (told a v s)) → Agree w v s
    unfolding C.run C.told
    agree_good [] [] s i g k l = (refl, λ a. refl)
    agree_good [] (c ∷ v) s i g k l =
        let l' : 0 ≡ suc (length (told c v (after c s))) = rw (k.0, same_refl c) at (l c) in absurd (omega arith)
    agree_good (a ∷ w) v s i g k l =
        elim (has a v) as (λ h. has a v ≡ h → Pulled h a v (erase a v) s → Agree (a ∷ w) v s) [
          | true ↦ λ e p.
              let q = agree_good w (erase a v) (after a s) (keep a s i) g.1 p.0 (λ b. put_len (same b a) (call a s) (call a s) _ _ (rw (g.0, p.2 b, and-true) at (l b))) in
              (q.0 ∙ p.1, λ b. rw (g.0, p.2 b, and-true, q.1 b))
          | false ↦ λ e p. let l' : suc (length (told a w (after a s))) ≡ 0 = rw (g.0, same_refl a, untold a v s e) at (l a) in absurd (omega arith)
        ] refl (pull a v s i g.0 k)

    pub most : (w v : List ℕ) (s : S) → Inv s → Good w s → Good v s → Full (run v s) → (b : ℕ) → length (told b w s) ≤ length (told b v s)
    unfolding C.run C.told
    most [] v s i g k f b = omega arith
    most (a ∷ w) v s i g k f b =
        elim (has a v) as (λ h. has a v ≡ h → Pulled h a v (erase a v) s → length (told b (a ∷ w) s) ≤ length (told b v s)) [
          | true ↦ λ e p. rw (g.0, p.2 b, and-true) (put_le (same b a) (call a s) (call a s) _ _ (most w (erase a v) (after a s) (keep a s i) g.1 p.0 (rw p.1 f) b))
          | false ↦ λ e p. absurd (true≢false (sym g.0 ∙ ap acc (sym (persist a v s i (acc_firm _ g.0) k e)) ∙ f a))
        ] refl (pull a v s i g.0 k)

    -- a firm refusal of a bounds the accepted advances of a in every order
    pub stop_good : (a : ℕ) (w v : List ℕ) (s : S) → Inv s → Good w s → Good v s → firm (call a (run w s)) ≡ true → acc (call a (run w s)) ≡ false
        → length (told a v s) ≤ length (told a w s)
    unfolding C.run C.told
    stop_good a [] v s i g k f r = rw (untold a v s (stuck a v s i f r k)) (omega arith)
    stop_good a (b ∷ w) v s i g k f r =
        let p : Pulled (has b v) b v (erase b v) s = pull b v s i g.0 k in
        rw (g.0, p.2 a) (put_le' (same a b) (has b v) (call b s) (call b s) _ _ (stop_good a w (erase b v) (after b s) (keep b s i) g.1 p.0 f r))

    -- two orders that advanced a as often, and in which a is not told to wait, give it the same answer
    pub meet_good : (a : ℕ) (w v : List ℕ) (s : S) → Inv s → Good w s → Good v s → length (told a w s) ≡ length (told a v s)
        → firm (call a (run w s)) ≡ true → firm (call a (run v s)) ≡ true → call a (run v s) ≡ call a (run w s)
    unfolding C.run C.told
    meet_good a [] v s i g k l f f' = persist a v s i f k (has_told a v s k (sym l))
    meet_good a (b ∷ w) v s i g k l f f' =
        elim (has b v) as (λ h. has b v ≡ h → Pulled h b v (erase b v) s → call a (run v s) ≡ call a (run w (after b s))) [
          | true ↦ λ h p.
              rw p.1 at (meet_good a w (erase b v) (after b s) (keep b s i) g.1 p.0 (put_len (same a b) (call b s) (call b s) _ _ (rw (g.0, p.2 a, and-true) at l)) f (rw p.1 f'))
          | false ↦ λ h p. elim (same a b) as (λ x. same a b ≡ x → call a (run v s) ≡ call a (run w (after b s))) [
            | true ↦ λ e. let l' : suc (length (told a w (after b s))) ≡ 0 = rw (g.0, e, untold a v s (rw (same_eq a b e) h)) at l in absurd (omega arith)
            | false ↦ λ e.
                let hb : call b (run v s) ≡ call b s = persist b v s i (acc_firm _ g.0) k h in
                let ha : call a (after b (run v s)) ≡ call a (run v s) = hold b a (run v s) (keep_run v s i) (λ q. same_ne a b e (sym q)) (rw hb g.0) f' in
                let ha' : call a (run (erase b v) (after b s)) ≡ call a (run v s) = rw p.1 ha in
                sym ha' ∙ meet_good a w (erase b v) (after b s) (keep b s i) g.1 p.0 (rw (g.0, p.2 a, e) at l) f (rw ha' f')
          ] refl
        ] refl (pull b v s i g.0 k)
