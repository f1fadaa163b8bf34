-- Two studies worked to their end, in several orders. Assumes nothing.
use Rattle.std.specs.Prelude.{Err}
use Rattle.std.specs.Prelude.{◌≡◌, ◌∷◌}
use Rattle.whole.specs.Plain.{ℕ, refl, List, [], map, length, replicate, z, numbers}
use Rattle.paper.specs.Replies.{Advance}
use Rattle.paper.specs.declared.Refusal.TheVariants.{Done, Wait, Floating}
use Rattle.paper.specs.Limits as Limits
use Rattle.paper.specs.Reading.{read_of}
use Rattle.paper.specs.Resetting.{fresh}
use Rattle.paper.proofs.Examples.{lines, tabbed}
use Rattle.paper.specs.Computing.{computing}
use Rattle.paper.specs.Records.{count_of}
use Rattle.paper.specs.Advance.{advance_of}
use Rattle.laws_runs.specs.Runs.{after}

-- where the areas of a study stand after these calls from rest, and what each then answers
unfoldable pub Ends : List ℕ → List ℕ → List ℕ → List Advance → Type 0
Ends text order counts said =
    let net = (read_of text (replicate Limits.network_words z)).network in
    let m = after net order fresh in
    let areas = numbers 1 (length counts) in
    (map (count_of m.records) areas ≡ counts) × (map (λ a. (advance_of net a m).answer) areas ≡ said)

-- area 1 stops at its step 3, area 2 is tied to it and waits, area 3 is tied to neither and takes all six
abbrev pub tied : List ℕ
tied = lines ("study 1000 6 0" ∷ "VS 1 1000 1 0" ∷ "SW 1 2 2000 1 3" ∷ "LINE 1 3 400000 1000" ∷ "VS 4 7 1 0" ∷ "R 4 0 1000" ∷ [])

pub in_rounds : Ends tied (1 ∷ 2 ∷ 3 ∷ 1 ∷ 2 ∷ 3 ∷ 1 ∷ 2 ∷ 3 ∷ 1 ∷ 2 ∷ 3 ∷ 3 ∷ 3 ∷ []) (2 ∷ 3 ∷ 6 ∷ []) ((Err (Floating 2)) ∷ (Err (Wait 2)) ∷ (Err Done) ∷ [])
unfolding computing lines tabbed after Ends numbers
in_rounds = (refl, refl)

pub in_bursts : Ends tied (3 ∷ 3 ∷ 3 ∷ 3 ∷ 3 ∷ 3 ∷ 2 ∷ 2 ∷ 1 ∷ 1 ∷ 1 ∷ 2 ∷ 2 ∷ 2 ∷ []) (2 ∷ 3 ∷ 6 ∷ []) ((Err (Floating 2)) ∷ (Err (Wait 2)) ∷ (Err Done) ∷ [])
unfolding computing lines tabbed after Ends numbers
in_bursts = (refl, refl)

-- two areas and nothing that stops either
pub unstopped : Ends (lines ("study 1000 3 0" ∷ "VS 1 1000 1 0" ∷ "LINE 1 2 400000 1000" ∷ [])) (2 ∷ 2 ∷ 1 ∷ 1 ∷ 1 ∷ 2 ∷ 1 ∷ 2 ∷ []) (3 ∷ 3 ∷ []) ((Err Done) ∷ (Err Done) ∷ [])
unfolding computing lines tabbed after Ends numbers
unstopped = (refl, refl)
