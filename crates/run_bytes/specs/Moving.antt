-- What calls that are made again come to, and what is read. Assumes nothing.
use Rattle.whole.specs.Plain.{ℕ, List, length, take}
use Rattle.std.specs.Prelude.{Result, Ok, Err, IfOk, IsErr, ◌-◌, ◌≤◌, ◌≡◌}
use Rattle.std.specs.List.{All, FoldsTo}
use Rattle.std.proofs.lemmas.Fn.{chained_keeps}

-- calls one after another, of which the last answers r: each before it failed, so that no answer which moved bytes is dropped
abbrev pub Answers : {F E : Type 0} → (F → Result ℕ E → F → Type 0) → F → Result ℕ E → F → Type 0
Answers {F} {E} step f r g = (before : List (Result ℕ E)) × (at : F) × All IsErr before × FoldsTo step f before at × step at r g

-- what each call keeps holds when the last is made, and after it, whatever those before it answered
pub kept_at_last : {F R : Type 0} (step : F → R → F → Type 0) (J : F → F → Type 0) → ((f : F) → J f f) → ((f at : F) (r : R) (g : F) → J f at → step at r g → J f g)
    → {f g : F} {r : R} → (before : List R) × (at : F) × FoldsTo step f before at × step at r g → (at : F) × J f at × step at r g × J f g
kept_at_last step J starts keeps {f} {g} {r} a =
    let j = chained_keeps step (λ xs q. J f q) (λ xs q x v i k. keeps f q x v i k) a.0 f a.1 (starts f) a.2 in
    (a.1, j, a.3, keeps f a.1 r g j a.3)

-- no more bytes than there is room for; a failure is no count of bytes, nor the end, which is a count of 0
abbrev pub Most : {E : Type 0} → ℕ → Result ℕ E → Type 0
Most room r = IfOk r (λ n. n ≤ room)

-- a read from a place on: what stands before it stays
pub record Brings {E : Type 0} (was : List ℕ) (from : ℕ) (r : Result ℕ E) (is : List ℕ) : Type 0 where
  pub most : Most (length was - from) r
  pub kept : take from is ≡ take from was

-- what is read stands at the start of the buffer
abbrev pub Held : {E : Type 0} → List ℕ → Result ℕ E → Type 0
Held text (Ok n) = (n ≤ length text) × (n ≡ length (take n text))
Held text (Err e) = Unit {0}
