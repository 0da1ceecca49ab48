-- What a text is read as, in the forms that crates above cite.
use Rattle.std.proofs.Common.{◌≡◌, refl, sym, ◌∙◌, ap, subst, ℕ, List, [], ◌∷◌, map, Option, Ok}
use Rattle.std.specs.Prelude.{All}
use Rattle.std.proofs.lemmas.List.Elements.{All-head, All-tail}
use Rattle.model_data.specs.Kept.{HasKeptNumbers}
use Rattle.model_data.specs.Lawful.{IsLawful}
use Rattle.model_data.specs.declared.model.Model.{Model}
use Rattle.model_data.specs.declared.model.Var.{Var}
use Rattle.lp_defs.specs.Canonical.{canonical_text, untagged, untagged_var}
use Rattle.lp_defs.specs.Symbols.{spot_of}
use Rattle.lp_defs.specs.Text.{Spells, reading, seen}
use Rattle.lp_defs.specs.Tokens.{end_of}
use Rattle.lp_defs.proofs.Agreement.{agreement, one_model}
use Rattle.lp_defs.proofs.Sound.{IsSoundVar, kept, lawful}
use Rattle.lp_defs.proofs.SoundText.{spelled_sound}
use Rattle.lp_defs.proofs.WrittenModel.{text_spelled}

pub read_spells : (text : List ℕ) (m : Model) → reading text ≡ Ok m → Spells text m
read_spells text m h = (agreement (seen text) (spot_of (end_of text)) m).0 h

pub spelled_reads : (text : List ℕ) (m : Model) → Spells text m → reading text ≡ Ok m
spelled_reads text m h = (agreement (seen text) (spot_of (end_of text)) m).1 h

pub read_lawful : (text : List ℕ) (m : Model) → reading text ≡ Ok m → IsLawful m
read_lawful text m h = lawful m (spelled_sound text m (read_spells text m h))

-- The text that is written for a model

pub told : (m : Model) (text : List ℕ) → text ≡ canonical_text m → IsLawful m → HasKeptNumbers m → Spells text (untagged m)
told m text is lawful kept = subst (λ text. Spells text (untagged m)) (sym is) (text_spelled m lawful kept)

pub told_alone : (m : Model) (text : List ℕ) → text ≡ canonical_text m → IsLawful m → HasKeptNumbers m → (n : Model) → Spells text n → n ≡ untagged m
told_alone m text is lawful kept n spelled = one_model (seen text) n (untagged m) spelled (told m text is lawful kept)

-- A text tells no tags.
no_tag : (vars : List Var) → All IsSoundVar vars → map untagged_var vars ≡ vars
no_tag [] all = refl
no_tag (v ∷ vars) all =
    ap (λ (tag : Option (List ℕ)). record v { tag = tag } ∷ map untagged_var vars) (sym (All-head IsSoundVar v vars all).untagged)
    ∙ ap (λ vars. v ∷ vars) (no_tag vars (All-tail IsSoundVar v vars all))

pub written_again : (text : List ℕ) (m : Model) → Spells text m → Spells (canonical_text m) m
written_again text m h =
    let sound = spelled_sound text m h in
    subst (λ n. Spells (canonical_text m) n) (ap (λ vars. record m { vars = vars }) (no_tag m.vars sound.vars))
    (text_spelled m (lawful m sound) (kept m sound))
