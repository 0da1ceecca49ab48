-- Names and tags that are not among those of the items in front.
use Rattle.std.proofs.Common.{◌≡◌, refl, sym, ◌∙◌, ap, subst, arith, ℕ, zero, suc, ◌+◌, ◌<◌, Bool, true, false, ◌||◌, List, [], ◌∷◌, length, map, take, drop, get_or, bytes_eq}
use Rattle.std.specs.List.{AllWithin, list_any}
use Rattle.std.proofs.lemmas.Bool.{false_from_ne_true}
use Rattle.std.proofs.lemmas.List.{get_or-take, get_or_default, length-map, length-take-le, take-map}
use Rattle.std.proofs.lemmas.List.Elements.{AllWithin-more}
use Rattle.std.proofs.lemmas.List.Folds.{list_any-append, list_any_none}
use Rattle.std.proofs.lemmas.Slice.Eq.{bytes_eq-Decides}
use Rattle.model_data.specs.Lawful.{AreDistinct}
use Rattle.model_data.specs.declared.model.Var.{Var}
use Rattle.model_core.specs.Indexed.{HasDistinctTags}
use Rattle.model_core.specs.Named.{has_tag}
use Rattle.model_core.proofs.Tags.{tags_apart}

name_step : {X : Type 0} (name_of : X → List ℕ) (xs : List X) (i : ℕ) (d : List ℕ) (x : X) → i < length xs → get_or (map name_of xs) i d ≡ name_of (get_or xs i x)
name_step name_of [] i d x within = absurd (omega (arith, within))
name_step name_of (y ∷ xs) zero d x within = refl
name_step name_of (y ∷ xs) (suc i) d x within = name_step name_of xs i d x (omega (arith, within))

pub new_name : {X : Type 0} (name_of : X → List ℕ) (xs : List X) (i : ℕ) (x : X) → x ≡ get_or xs i x → AreDistinct (map name_of xs) → i < length xs
    → list_any (bytes_eq (name_of x)) (map name_of (take i xs)) ≡ false
new_name name_of xs i x read distinct within =
    let names = map name_of xs in
    let name = name_of x in
    let count = length-map xs name_of in
    subst (λ (l : List (List ℕ)). list_any (bytes_eq name) l ≡ false) (take-map name_of i xs)
    (list_any_none (bytes_eq name) (take i names) (λ k d below. false_from_ne_true (bytes_eq name (get_or (take i names) k d)) (λ e.
    let before = short k below in
    distinct k i d before (omega (arith, within, count))
    (sym (get_or-take i names k d before) ∙ sym ((bytes_eq-Decides name (get_or (take i names) k d)).0 e)
    ∙ ap name_of read ∙ sym (name_step name_of xs i d x within))))) where
      short : (k : ℕ) → k < length (take i (map name_of xs)) → k < i
      short k below = let count = length-map xs name_of in let most = length-take-le i (map name_of xs) (omega (arith, within, count)) in omega (arith, below, most)

-- a tag of a variable is that of none in front
pub new_tag : (vars : List Var) (i : ℕ) (v : Var) (tag : List ℕ) → v ≡ get_or vars i v → HasDistinctTags vars → i < length vars → has_tag tag v ≡ true
    → list_any (has_tag tag) (take i vars) ≡ false
new_tag vars i v tag read distinct within has =
    or_left (list_any (has_tag tag) (take i vars)) (list_any (has_tag tag) (drop (suc i) vars))
    (sym (list_any-append (has_tag tag) (take i vars) (drop (suc i) vars)) ∙ tags_apart tag vars i v distinct within (ap (has_tag tag) (sym read) ∙ has)) where
      or_left : (a b : Bool) → (a || b) ≡ false → a ≡ false
      or_left true b e = absurd cc
      or_left false b e = refl

-- one more item, as a loop comes to it
pub AllWithin-item : {X : Type 0} (P : X → Type 0) (xs : List X) (i : ℕ) (x : X) → i < length xs → x ≡ get_or xs i x → P x →
    AllWithin P xs 0 i → AllWithin P xs 0 (i + 1)
AllWithin-item P xs i x within is own before =
    AllWithin-more P xs 0 i before (λ d. subst P (is ∙ get_or_default xs i x d within) own)
