-- One thing is found in an input; and what a certificate shows that is found valid.
use Rattle.std.proofs.Common.{◌≡◌, refl, sym, ◌∙◌, ap, ap₂, subst, ℕ, suc, List, Result, Err}
use Rattle.model_data.specs.declared.model.Model.{Model}
use Rattle.model_data.specs.declared.solution.Cert.{Cert}
use Rattle.model_data.specs.declared.solution.Outcome.{Outcome}
use Rattle.lp_defs.specs.Symbols.{spot_of}
use Rattle.lp_defs.specs.Text.{Spells, Stops, seen}
use Rattle.lp_defs.specs.Tokens.{end_of}
use Rattle.lp_defs.specs.declared.fault.ModelFault.{ModelFault}
use Rattle.lp_defs.proofs.Agreement.{never_both, one_model}
use Rattle.lp_defs.proofs.Sound.{lawful}
use Rattle.lp_defs.proofs.SoundText.{spelled_sound}
use Rattle.cert_text.specs.Spelling as cert
use Rattle.cert_text.proofs.FirstBadLine.{one_value}
use Rattle.solve_defs.specs.Certificates.{IsValid, looks, verdict}
use Rattle.solve_defs.specs.declared.verdict.Verdict.{Verdict}
use Rattle.solve_defs.specs.declared.verdict.Verdict.TheVariants.{Valid}
use Rattle.solve_defs.proofs.LeafLooks.{valid_holds}
use Rattle.solve_defs.proofs.ValidOutcomes.{valid_optimal, valid_point}
use Rattle.solve_defs.proofs.ValidRays.{valid_unbounded}
use Rattle.solve_defs.proofs.ValidTrees.{valid_infeasible}
use Rattle.verify_command.specs.Findings.{Finds, FindsBehind, FindsIn, IsFinding, IsShown, IsVerified, in_parts, without_parts}
use Rattle.verify_command.specs.Input.{HasParts}
use Rattle.verify_command.specs.declared.finding.Finding.{Finding}
use Rattle.verify_command.specs.declared.finding.Finding.TheVariants.{Checked, NoModel, Refused}
use Rattle.verify_command.proofs.OneBadLine.{one_bad_line, spelled_or_bad}
use Rattle.verify_command.proofs.InputParts.{one_parts}

-- ---- behind the model

one_behind : (m : Model) (text : List ℕ) (f g : Finding) → FindsBehind m text f → FindsBehind m text g → f ≡ g
one_behind m text (NoModel fault) g h k = absurd h
one_behind m text (Refused line) (NoModel fault) h k = absurd k
one_behind m text (Checked v) (NoModel fault) h k = absurd k
one_behind m text (Refused line) (Refused other) h k = ap (λ n. Refused n) (h.2 ∙ (ap suc (one_bad_line text h.0 k.0 h.1 k.1) ∙ sym k.2))
one_behind m text (Refused line) (Checked v) h k = absurd (spelled_or_bad text h.0 k.0 k.1 k.2 h.1)
one_behind m text (Checked v) (Refused line) h k = absurd (spelled_or_bad text k.0 h.0 h.1 h.2 k.1)
one_behind m text (Checked v) (Checked w) h k =
    let same = one_value text h.0 k.0 h.1 k.1 h.2 k.2 in
    ap (λ x. Checked x) (h.3 ∙ (ap₂ (verdict m) same.0 same.1 ∙ sym k.3))

-- ---- the parts

one_fault : (f g : ModelFault) → ◌≡◌ {A = Result Model ModelFault} (Err f) (Err g) → f ≡ g
one_fault f g h = cc

never : (block : List ℕ) (m : Model) (fault : ModelFault) → Spells block m → Stops block fault → ⊥
never block m fault spells stops = never_both (seen block) (spot_of (end_of block)) m fault spells stops

one_of : (block text : List ℕ) (m n : Model) (f g : Finding) → Spells block m → Spells block n → FindsBehind m text f → FindsBehind n text g → f ≡ g
one_of block text m n f g spells others h k = one_behind m text f g h (subst (λ x. FindsBehind x text g) (one_model (seen block) n m others spells) k)

one_in : (block text : List ℕ) (f g : Finding) → FindsIn block text f → FindsIn block text g → f ≡ g
one_in block text (NoModel fault) (NoModel other) h k = ap (λ x. NoModel x) (one_fault fault other (sym h ∙ k))
one_in block text (NoModel fault) (Refused line) h k = absurd (never block k.0 fault k.1 h)
one_in block text (NoModel fault) (Checked v) h k = absurd (never block k.0 fault k.1 h)
one_in block text (Refused line) (NoModel fault) h k = absurd (never block h.0 fault h.1 k)
one_in block text (Checked v) (NoModel fault) h k = absurd (never block h.0 fault h.1 k)
one_in block text (Refused line) (Refused other) h k = one_of block text h.0 k.0 (Refused line) (Refused other) h.1 k.1 h.2 k.2
one_in block text (Refused line) (Checked v) h k = one_of block text h.0 k.0 (Refused line) (Checked v) h.1 k.1 h.2 k.2
one_in block text (Checked v) (Refused line) h k = one_of block text h.0 k.0 (Checked v) (Refused line) h.1 k.1 h.2 k.2
one_in block text (Checked v) (Checked w) h k = one_of block text h.0 k.0 (Checked v) (Checked w) h.1 k.1 h.2 k.2

-- what is found of the block's model is found in the parts
pub of_model : (block text : List ℕ) (m : Model) (f : Finding) → Spells block m → FindsBehind m text f → FindsIn block text f
of_model block text m (NoModel fault) spells h = absurd h
of_model block text m (Refused line) spells h = (m, spells, h)
of_model block text m (Checked v) spells h = (m, spells, h)

pub one_finding : (input : List ℕ) (f g : Finding) → Finds input f → Finds input g → f ≡ g
one_finding input _ _ (without_parts none) (without_parts other) = refl
one_finding input _ _ (without_parts none) (in_parts block text g parts k) = absurd (none block text parts)
one_finding input _ _ (in_parts block text f parts h) (without_parts none) = absurd (none block text parts)
one_finding input _ _ (in_parts a s f p h) (in_parts b t g q k) =
    let same = one_parts input b a t s q p in
    one_in a s f g h (subst (λ x. FindsIn x s g) same.0 (subst (λ x. FindsIn b x g) same.1 k))

pub is_finding : (input : List ℕ) (f : Finding) → Finds input f → IsFinding input f
is_finding input f h = record { finds = h; only = λ g k. one_finding input g f k h }

-- ---- a valid certificate

abbrev pub is_checked : Finding → Type 0
is_checked f = f ≡ Checked Valid

shown : (block : List ℕ) (m : Model) (o : Outcome) (c : Cert) → Spells block m → IsValid m o c → IsShown m o
shown block m o c spells valid =
    let law = lawful m (spelled_sound block m spells) in
    record {
      best = λ optimal. let best = valid_optimal m o c law valid optimal in (best.point, best.is_kept, best.best);
      no_point = valid_infeasible m o c law valid;
      unbounded = valid_unbounded m o c valid;
      feasible = λ p. valid_point m o c p valid;
    }

verified : (input block text : List ℕ) (m : Model) (o : Outcome) (c : Cert) → HasParts input block text → Spells block m → cert.Spells text o c → verdict m o c ≡ Valid → IsVerified input
unfolding verdict
verified input block text m o c parts spells proof is =
    let valid = valid_holds (looks m o c) is in
    record {
      model = m;
      outcome = o;
      cert = c;
      read = record { block = block; text = text; parts = parts; model = spells; proof = proof };
      valid = valid;
      shown = shown block m o c spells valid;
    }

checked_same : (v w : Verdict) → Checked v ≡ Checked w → v ≡ w
checked_same v w h = cc

in_verified : (input block text : List ℕ) (f : Finding) → HasParts input block text → FindsIn block text f → is_checked f → IsVerified input
in_verified input block text (NoModel fault) parts h is = absurd cc
in_verified input block text (Refused line) parts h is = absurd cc
in_verified input block text (Checked v) parts (m, spells, h) is =
    verified input block text m h.0 h.1 parts spells h.2 (sym h.3 ∙ checked_same v Valid is)

finds_verified : (input : List ℕ) (f : Finding) → Finds input f → is_checked f → IsVerified input
finds_verified input _ (without_parts none) is = absurd cc
finds_verified input _ (in_parts block text f parts h) is = in_verified input block text f parts h is

pub valid_verified : (input : List ℕ) → Finds input (Checked Valid) → IsVerified input
valid_verified input h = finds_verified input (Checked Valid) h refl
