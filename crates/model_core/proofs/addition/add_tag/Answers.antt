use Rattle.std.proofs.Common.{◌≡◌, refl, sym, ◌∙◌, ap, [], ◌∷◌, ◌||◌, Bool, true, false, bytes_eq, List, ℕ, Option, Some, None, Vec, Global}
use Rattle.std.specs.List.{list_any}
use Rattle.std.specs.Option.{option_map_or}
use Rattle.std.proofs.lemmas.List.Folds.{list_any-append}
use Rattle.model_core.proofs.addition.add_tag.Goals as goal

or_false : (b : Bool) → (b || false) ≡ b
or_false true = refl
or_false false = refl

no_tag : (text : List ℕ) (o : Option (Vec ℕ Global)) → ((t : Vec ℕ Global) → o ≡ Some t → ⊥) → option_map_or (λ t. bytes_eq text t.items) o false ≡ false
no_tag text (Some t) h = absurd (h t refl)
no_tag text None h = refl

pub returns-in-Some : goal.returns-in-Some
returns-in-Some c = λ text.
    ap (list_any (bytes_eq text)) c.add_reserved.ensures
    ∙ list_any-append (bytes_eq text) c.args.tags.now.texts (c.in-Some.tag.items ∷ [])
    ∙ ap (λ b. list_any (bytes_eq text) c.args.tags.now.texts || b) (or_false (bytes_eq text c.in-Some.tag.items)
    ∙ ap (λ (o : Option (Vec ℕ Global)). option_map_or (λ t. bytes_eq text t.items) o false) (sym c.in-Some.is))

pub returns-in_default : goal.returns-in_default
returns-in_default c = λ text. sym (ap (λ b. list_any (bytes_eq text) c.args.tags.now.texts || b) (no_tag text c.args.tag c.in_default.not-Some)
    ∙ or_false (list_any (bytes_eq text) c.args.tags.now.texts))
