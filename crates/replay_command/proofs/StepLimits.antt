-- The limits that a line sets keep to their range, and a step has the block that its line has.
use Rattle.std.proofs.Common.{◌≡◌, ℕ, ◌+◌, ◌^◌, ◌<◌, ◌≤◌, Bool, true, false, List, [], ◌∷◌, Option, None, Some, length, refl, sym, ap, subst, ◌∙◌, arith}
use Rattle.std.specs.Prelude.{IfSome, nat_le, nat_lt, ◌&&◌, bytes_eq, codes, if◌then◌else◌, option_and_then, unwrap_or}
use Rattle.std.proofs.lemmas.Bool.{leb-true, ltb-true}
use Rattle.base_names.specs.Decimal.{number_of}
use Rattle.hub_core.specs.declared.setup.Limits.{Limits as Limits'}
use Rattle.script_text.specs.Steps.{block_of, block_wanted, command_words, number_within, seat_number, owner_of, role_of, no_more, image_of, at_step, limits_step, seat_step, hang_step, fault_step, stop_step, open_step, plain_step, step_of}
use Rattle.script_text.specs.declared.limits.TheConstants.{LEAST_JOURNAL, MOST_JOURNAL}
use Rattle.script_text.specs.declared.step.Step.{Step}
use Rattle.script_text.specs.declared.step.Step.TheVariants.{Limits, Seat, At, Hang, Fault, Stop, Open}
use Rattle.wire_text.specs.Line.{words_of}
use Rattle.replay_command.specs.Script.{limits_of}

-- what the journal's limit keeps to
abbrev pub Ranged : Step → Type 0
Ranged (Limits commands bytes journal) = (8 ≤ journal) × (journal ≤ 10 ^ 12)
Ranged step = Unit {0}

abbrev pub IsRanged : Option Step → Type 0
IsRanged found = IfSome found Ranged

-- ---- choices and parts

either : (test : Bool) (first second : Option Step) → IsRanged first → IsRanged second → IsRanged (if test then first else second)
either true first second a b = a
either false first second a b = b

behind_any : {A : Type 0} (told : Option A) (later : A → Option Step) → ((x : A) → IsRanged (later x)) → IsRanged (option_and_then later told)
behind_any {A} None later holds = tt
behind_any {A} (Some x) later holds = holds x

behind_bound : (low high n : ℕ) (later : ℕ → Option Step) → (low ≤ n → n < high → IsRanged (later n)) → (from below : Bool) → nat_le low n ≡ from → nat_lt n high ≡ below
    → IsRanged (option_and_then later (if from && below then Some n else None))
behind_bound low high n later holds true true is from = holds (leb-true low n is) (ltb-true n high from)
behind_bound low high n later holds true false is from = tt
behind_bound low high n later holds false below is from = tt

behind_number : (low high : ℕ) (found : Option ℕ) (later : ℕ → Option Step) → ((n : ℕ) → low ≤ n → n < high → IsRanged (later n))
    → IsRanged (option_and_then later (option_and_then (λ n. if nat_le low n && nat_lt n high then Some n else None) found))
behind_number low high None later holds = tt
behind_number low high (Some n) later holds = behind_bound low high n later (holds n) (nat_le low n) (nat_lt n high) refl refl

behind_within : (low high : ℕ) (word : List ℕ) (later : ℕ → Option Step) → ((n : ℕ) → low ≤ n → n < high → IsRanged (later n)) → IsRanged (option_and_then later (number_within low high word))
behind_within low high word later holds = behind_number low high (number_of word) later holds

-- ---- the steps

limits_ranged : (words : List (List ℕ)) → IsRanged (limits_step words)
limits_ranged [] = tt
limits_ranged (first ∷ []) = tt
limits_ranged (first ∷ second ∷ []) = tt
limits_ranged (first ∷ second ∷ third ∷ rest) =
    behind_any (no_more rest) _ (λ end. behind_any (number_within 0 (2 ^ 32) first) _ (λ commands. behind_any (number_within 0 (2 ^ 64) second) _ (λ bytes.
    behind_within LEAST_JOURNAL (MOST_JOURNAL + 1) third _ (λ n low high. (omega (arith, low), omega (arith, high))))))

seat_ranged : (words : List (List ℕ)) → IsRanged (seat_step words)
seat_ranged [] = tt
seat_ranged (first ∷ []) = tt
seat_ranged (first ∷ second ∷ []) = tt
seat_ranged (first ∷ second ∷ third ∷ rest) =
    behind_any (no_more rest) _ (λ end. behind_any (seat_number first) _ (λ number. behind_any (owner_of second) _ (λ owner. behind_any (role_of third) _ (λ role. tt))))

hang_ranged : (words : List (List ℕ)) → IsRanged (hang_step words)
hang_ranged [] = tt
hang_ranged (word ∷ []) = behind_any (seat_number word) _ (λ number. tt)
hang_ranged (word ∷ other ∷ words) = tt

fault_ranged : (words : List (List ℕ)) → IsRanged (fault_step words)
fault_ranged [] = tt
fault_ranged (word ∷ []) = behind_any (number_within 1 (2 ^ 64) word) _ (λ k. tt)
fault_ranged (word ∷ other ∷ words) = tt

stop_ranged : (words : List (List ℕ)) → IsRanged (stop_step words)
stop_ranged [] = tt
stop_ranged (word ∷ words) = behind_any (number_within 0 (2 ^ 64) word) _ (λ k. behind_any (image_of words) _ (λ image. tt))

open_ranged : (words : List (List ℕ)) → IsRanged (open_step words)
open_ranged [] = tt
open_ranged (word ∷ words) = tt

at_ranged : (words : List (List ℕ)) → IsRanged (at_step words)
at_ranged [] = tt
at_ranged (word ∷ words) = behind_any (seat_number word) _ (λ number. tt)

plain_ranged : (word : List ℕ) (words : List (List ℕ)) → IsRanged (plain_step word words)
plain_ranged word words =
    either (bytes_eq word (codes "LIMITS")) _ _ (limits_ranged words) (
    either (bytes_eq word (codes "SEAT")) _ _ (seat_ranged words) (
    either (bytes_eq word (codes "HANG")) _ _ (hang_ranged words) (
    either (bytes_eq word (codes "FAULT")) _ _ (fault_ranged words) (
    either (bytes_eq word (codes "STOP")) _ _ (stop_ranged words) (
    either (bytes_eq word (codes "OPEN")) _ _ (open_ranged words) tt)))))

step_ranged : (words : List (List ℕ)) → IsRanged (step_of words)
step_ranged [] = tt
step_ranged (word ∷ words) = either (bytes_eq word (codes "AT")) (at_step words) (plain_step word words) (at_ranged words) (plain_ranged word words)

-- ---- a step that a line is

limits_by : (found : Option Step) → IsRanged found → IfSome (limits_of found) (λ limits. (8 ≤ limits.journal) × (limits.journal ≤ 10 ^ 12))
limits_by None ranged = tt
limits_by (Some (Limits commands bytes journal)) ranged = ranged
limits_by (Some (Fault k)) ranged = tt
limits_by (Some (Seat number owner role)) ranged = tt
limits_by (Some (At number)) ranged = tt
limits_by (Some (Hang number)) ranged = tt
limits_by (Some (Stop k image)) ranged = tt
limits_by (Some Open) ranged = tt

-- the limits that a line sets
pub journal_between : (words : List (List ℕ)) (found : Option Step) (limits : Limits') → found ≡ step_of words → limits_of found ≡ Some limits → (8 ≤ limits.journal) × (limits.journal ≤ 10 ^ 12)
journal_between words found limits is sets =
    let ranged : IsRanged found = subst IsRanged (sym is) (step_ranged words) in
    subst (λ (l : Option Limits'). IfSome l (λ limits. (8 ≤ limits.journal) × (limits.journal ≤ 10 ^ 12))) sets (limits_by found ranged)

-- it has the block that its line has
pub is_block : (line command block : List ℕ) (step : Step) → Some step ≡ step_of (words_of line) → words_of command ≡ command_words (words_of line) → length block ≡ unwrap_or (block_wanted line) 0
    → length block ≡ unwrap_or (block_of step (words_of command)) 0
is_block line command block step is words len =
    len
    ∙ (ap (λ (found : Option Step). unwrap_or (option_and_then (λ s. block_of s (command_words (words_of line))) found) 0) (sym is)
    ∙ ap (λ (ws : List (List ℕ)). unwrap_or (block_of step ws) 0) (sym words))
