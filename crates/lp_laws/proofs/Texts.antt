-- The laws, of texts.
use Rattle.std.proofs.Common.{◌≡◌, sym, ◌∙◌, ◌↔◌, ◌⊎◌, inl, inr, ℕ, List, Err}
use Rattle.model_data.specs.declared.model.Model.{Model}
use Rattle.lp_defs.specs.declared.fault.ModelFault.{ModelFault}
use Rattle.lp_defs.specs.Symbols.{spot_of}
use Rattle.lp_defs.specs.Text.{Spells, Stops, seen}
use Rattle.lp_defs.specs.Tokens.{end_of}
use Rattle.lp_defs.proofs.Agreement as agreement
use Rattle.lp_laws.specs.Faults.{IsFaultOf}
use Rattle.lp_laws.specs.Places.{IsPlaced}
use Rattle.lp_laws.proofs.Decide.{found, told}
use Rattle.lp_defs.proofs.SoundTokens.{text_sound}
use Rattle.lp_laws.proofs.Stands.{stands}

pub exactly : (text : List ℕ) (f : ModelFault) → Stops text f ↔ IsFaultOf text f
exactly text f = (found (seen text) (spot_of (end_of text)) f (text_sound text), told (seen text) (spot_of (end_of text)) f (text_sound text))

pub either : (text : List ℕ) → ((m : Model) × Spells text m) ⊎ ((f : ModelFault) × IsFaultOf text f)
either text = elim (agreement.either (seen text) (spot_of (end_of text))) [ inl p ↦ inl p | inr p ↦ inr (p.0, (exactly text p.0).0 p.1) ]

pub never_both : (text : List ℕ) (m : Model) (f : ModelFault) → Spells text m → IsFaultOf text f → ⊥
never_both text m f s h = agreement.never_both (seen text) (spot_of (end_of text)) m f s ((exactly text f).1 h)

pub one : (text : List ℕ) (f g : ModelFault) → IsFaultOf text f → IsFaultOf text g → f ≡ g
one text f g a b = let same : Err f ≡ Err g = sym ((exactly text f).1 a) ∙ (exactly text g).1 b in cc

pub place : (text : List ℕ) (f : ModelFault) → IsFaultOf text f → IsPlaced (seen text) (spot_of (end_of text)) f
place text f h = stands (seen text) (spot_of (end_of text)) f (text_sound text) h
