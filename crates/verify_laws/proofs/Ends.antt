-- How `verify` ends over a source that tells what it has left.
use Rattle.std.proofs.Common.{◌≡◌, refl, sym, ◌∙◌, ap, subst, ℕ, ◌+◌, ◌<◌, ◌≤◌, List, [], ◌++◌, length, Option, Some, None, arith}
use Rattle.std.specs.Option.{option_map}
use Rattle.std.proofs.lemmas.List.{append-nil, length-append}
use Rattle.base_names.specs.Outside.{IsAtEnd, Reads}
use Rattle.solve_defs.specs.declared.verdict.Place.{Place}
use Rattle.solve_defs.specs.declared.verdict.Verdict.{Verdict}
use Rattle.solve_defs.specs.declared.verdict.Verdict.TheVariants as verdict
use Rattle.verify_command.specs.Findings.{IsFinding}
use Rattle.verify_command.specs.Verify.{IsWhole, VerifySays}
use Rattle.verify_command.specs.declared.command.VerifyEnd.{VerifyEnd}
use Rattle.verify_command.specs.declared.command.VerifyEnd.TheVariants.{Invalid, NoMemory, NoModel, ReadFault, Refused, TooLong, TooWide, Valid, WriteFault}
use Rattle.verify_command.specs.declared.command.TheConstants.{VERIFY_LIMIT}
use Rattle.verify_command.specs.declared.finding.Finding.{Finding}
use Rattle.verify_command.specs.declared.finding.Finding.TheVariants as found
use Rattle.verify_laws.specs.Joined.{EndsChecked, EndsTooLong, IsNotInvalid}

-- ---- what was taken

some_same : (xs ys : List ℕ) → ◌≡◌ {A = Option (List ℕ)} (Some xs) (Some ys) → xs ≡ ys
some_same xs ys h = cc

whole_is : (input taken : List ℕ) (left : Option (List ℕ)) → Reads (Some input) left taken → IsAtEnd left → input ≡ taken
whole_is input taken None reads end = absurd cc
whole_is input taken (Some rest) reads end = some_same input (taken ++ rest) reads ∙ (ap (λ l. taken ++ l) end ∙ append-nil taken)

taken_whole : (input taken : List ℕ) (left : Option (List ℕ)) → IsWhole (Some input) left taken → input ≡ taken
taken_whole input taken left whole = whole_is input taken left whole.takes.read whole.at_end

taken_within : (input taken : List ℕ) (left : Option (List ℕ)) → Reads (Some input) left taken → length taken ≤ length input
taken_within input taken None reads = absurd cc
taken_within input taken (Some rest) reads =
    let all : length input ≡ length (taken ++ rest) = ap length (some_same input (taken ++ rest) reads) in
    omega (arith, all, length-append taken rest)

-- ---- how it ended

checked_same : (v w : Verdict) → found.Checked v ≡ found.Checked w → v ≡ w
checked_same v w h = cc

-- a finding of what was taken is that of the input
same_finding : (input taken : List ℕ) (left : Option (List ℕ)) (f g : Finding) → IsFinding input f → IsWhole (Some input) left taken → IsFinding taken g → f ≡ g
same_finding input taken left f g finding whole other = other.only f (subst (λ text. IsFinding text f) (taken_whole input taken left whole) finding).finds

pub ends_checked : (input : List ℕ) (end : VerifyEnd) (left contents contents' : Option (List ℕ)) (v : Verdict) → IsFinding input (found.Checked v) → IsNotInvalid v → length input ≤ VERIFY_LIMIT
    → VerifySays end (Some input) left contents contents' → EndsChecked end
ends_checked input Valid left contents contents' v finding not short says = tt
ends_checked input (TooWide wide) left contents contents' v finding not short says = tt
ends_checked input ReadFault left contents contents' v finding not short says = tt
ends_checked input WriteFault left contents contents' v finding not short says = tt
ends_checked input NoMemory left contents contents' v finding not short says = tt
ends_checked input Invalid left contents contents' v finding not short (taken, whole, (place, other, wrote)) =
    subst IsNotInvalid (checked_same v (verdict.Invalid place) (same_finding input taken left (found.Checked v) (found.Checked (verdict.Invalid place)) finding whole other)) not
ends_checked input (NoModel fault) left contents contents' v finding not short (taken, whole, (other, wrote)) =
    let same = same_finding input taken left (found.Checked v) (found.NoModel fault) finding whole other in absurd cc
ends_checked input (Refused line) left contents contents' v finding not short (taken, whole, (other, wrote)) =
    let same = same_finding input taken left (found.Checked v) (found.Refused line) finding whole other in absurd cc
ends_checked input TooLong left contents contents' v finding not short (taken, takes, long, wrote) =
    absurd (omega (arith, short, long, taken_within input taken left takes.read))

too_long : (input taken : List ℕ) (left : Option (List ℕ)) → VERIFY_LIMIT < length input → IsWhole (Some input) left taken → ⊥
too_long input taken left long whole =
    let all : length input ≡ length taken = ap length (taken_whole input taken left whole) in
    absurd (omega (arith, all, long, whole.allowed))

pub ends_too_long : (input : List ℕ) (end : VerifyEnd) (left contents contents' : Option (List ℕ)) → VERIFY_LIMIT < length input → VerifySays end (Some input) left contents contents' → EndsTooLong end
ends_too_long input TooLong left contents contents' long says = tt
ends_too_long input ReadFault left contents contents' long says = tt
ends_too_long input NoMemory left contents contents' long says = tt
ends_too_long input Valid left contents contents' long says = too_long input says.0 left long says.1
ends_too_long input Invalid left contents contents' long says = too_long input says.0 left long says.1
ends_too_long input (TooWide wide) left contents contents' long says = too_long input says.0 left long says.1
ends_too_long input (NoModel fault) left contents contents' long says = too_long input says.0 left long says.1
ends_too_long input (Refused line) left contents contents' long says = too_long input says.0 left long says.1
ends_too_long input WriteFault left contents contents' long says = too_long input says.0 left long says.1
