-- What the words for the outside say of calls one after another, and of calls that did nothing.
use Rattle.std.proofs.Common.{◌≡◌, ℕ, ◌≤◌, List, [], ◌++◌, refl, ap, sym, ◌∙◌, arith, append_assoc, Option, Some, None}
use Rattle.std.proofs.lemmas.List.{append-nil}
use Rattle.std.specs.Option.{option_map}
use Rattle.base_names.specs.Outside.{Rose, Reads, Writes, IsAtEnd}

-- a count that rose, and then was not lowered, rose
pub Rose-later : (before now later : ℕ) → Rose before now → now ≤ later → Rose before later
Rose-later before now later rose h = omega (arith, rose, h)

-- a count that was not lowered, and then rose, rose
pub Rose-earlier : (before now later : ℕ) → before ≤ now → Rose now later → Rose before later
Rose-earlier before now later h rose = omega (arith, rose, h)

pub Reads-none : (left : Option (List ℕ)) → Reads left left []
Reads-none None = refl
Reads-none (Some rest) = refl

pub Reads-more : (old mid new : Option (List ℕ)) (first then : List ℕ) → Reads old mid first → Reads mid new then → Reads old new (first ++ then)
Reads-more old mid None first then a b = a ∙ ap (option_map (λ left. first ++ left)) b
Reads-more old mid (Some rest) first then a b =
    a ∙ (ap (option_map (λ left. first ++ left)) b ∙ ap Some (sym (append_assoc first then rest)))

pub Writes-none : (contents : Option (List ℕ)) → Writes contents contents []
Writes-none None = refl
Writes-none (Some bytes) = ap Some (sym (append-nil bytes))

pub Writes-more : (old mid new : Option (List ℕ)) (first then : List ℕ) → Writes old mid first → Writes mid new then → Writes old new (first ++ then)
Writes-more None mid new first then a b = b ∙ ap (option_map (λ contents. contents ++ then)) a
Writes-more (Some bytes) mid new first then a b =
    b ∙ (ap (option_map (λ contents. contents ++ then)) a ∙ ap Some (append_assoc bytes first then))

-- a source that tells what it has left, and is at its end, has nothing left
pub IsAtEnd-at : (left : Option (List ℕ)) (rest : List ℕ) → IsAtEnd left → left ≡ Some rest → rest ≡ []
IsAtEnd-at left rest ended is = rw is at ended
