-- One more item of a list, as a loop comes to it.
use Rattle.std.proofs.Common.{◌≡◌, ◌∙◌, subst, ℕ, ◌+◌, ◌<◌, List, length, get_or}
use Rattle.std.specs.List.{AllWithin}
use Rattle.std.proofs.lemmas.List.{get_or_default}
use Rattle.std.proofs.lemmas.List.Elements.{AllWithin-more}

pub AllWithin-item : {X : Type 0} (P : X → Type 0) (xs : List X) (i : ℕ) (x : X) → i < length xs → x ≡ get_or xs i x → P x →
    AllWithin P xs 0 i → AllWithin P xs 0 (i + 1)
AllWithin-item P xs i x within is own before =
    AllWithin-more P xs 0 i before (λ d. subst P (is ∙ get_or_default xs i x d within) own)
