-- A solve's certificate is found in its input, and no place fails.
use Rattle.std.proofs.Common.{◌≡◌, refl, sym, ◌∙◌, ap, subst, ℕ, ◌+◌, ◌<◌, List, [], ◌∷◌, ◌++◌, length, All, arith}
use Rattle.std.specs.Prelude.{◌↔◌}
use Rattle.std.proofs.lemmas.List.Elements.{All-head}
use Rattle.model_data.specs.declared.model.Model.{Model}
use Rattle.model_data.specs.declared.params.Params.{Params}
use Rattle.model_data.specs.declared.solution.Cert.{Cert}
use Rattle.model_data.specs.declared.solution.Outcome.{Outcome}
use Rattle.cert_check.specs.Failures.{FailsAt, Fits, IsFirst, Passes}
use Rattle.solve_defs.proofs.LeafBounds.{All-right}
use Rattle.solve_defs.specs.Certificates.{IsValid, looks, verdict}
use Rattle.solve_defs.specs.Looks.{Holds, Look, verdict_of}
use Rattle.solve_defs.specs.Plain.{plain_cut}
use Rattle.solve_defs.specs.declared.verdict.Place.{Place}
use Rattle.solve_defs.specs.declared.verdict.Verdict.{Verdict}
use Rattle.solve_defs.specs.declared.verdict.Verdict.TheVariants as verdict
use Rattle.verify_command.specs.Findings.{Finds, IsFinding, in_parts}
use Rattle.verify_command.specs.Input.{HasParts}
use Rattle.verify_command.specs.declared.finding.Finding.TheVariants.{Checked}
use Rattle.verify_command.proofs.OneFinding.{is_finding}
use Rattle.verify_laws.specs.Joined.{AllFit, IsNotInvalid, IsSolve}

-- ---- what is found

pub found : (m : Model) (p : Params) (k : ℕ) (block answer input : List ℕ) → IsSolve m p k block answer → HasParts input block answer
    → IsFinding input (Checked (verdict m (plain_cut m p k).outcome (plain_cut m p k).cert))
found m p k block answer input solve parts =
    let o = (plain_cut m p k).outcome in
    let c = (plain_cut m p k).cert in
    is_finding input (Checked (verdict m o c)) (in_parts block answer (Checked (verdict m o c)) parts (m, solve.spells, (o, c, solve.answers, refl)))

-- ---- verdicts on a valid certificate

no_place : (xs : List Look) (place : Place) → All Holds xs → IsFirst (FailsAt place) xs → ⊥
no_place xs place all first =
    first.here.fails (All-head Holds first.look first.after (All-right Holds first.before (first.look ∷ first.after) (subst (λ ys. All Holds ys) first.parts all)))

pub not_invalid : (m : Model) (o : Outcome) (c : Cert) → ((xs : List Look) (place : Place) → (verdict_of xs ≡ verdict.Invalid place) ↔ IsFirst (FailsAt place) xs) → IsValid m o c → IsNotInvalid (verdict m o c)
unfolding verdict
not_invalid m o c law valid = by_verdict (verdict_of (looks m o c)) refl
  where
    by_verdict : (v : Verdict) → verdict_of (looks m o c) ≡ v → IsNotInvalid v
    by_verdict verdict.Valid is = tt
    by_verdict (verdict.Invalid place) is = no_place (looks m o c) place valid ((law (looks m o c) place).0 is)
    by_verdict (verdict.TooWide wide) is = tt

pub valid_where_all_fit : (m : Model) (o : Outcome) (c : Cert) → ((xs : List Look) → (verdict_of xs ≡ verdict.Valid) ↔ All Passes xs) → IsValid m o c → All Fits (looks m o c) → verdict m o c ≡ verdict.Valid
unfolding verdict
valid_where_all_fit m o c law valid fit = (law (looks m o c)).1 (λ n d l. (fit n d l, valid n d l))
