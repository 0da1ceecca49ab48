-- The last item of a list, and those before it.
use Rattle.std.proofs.Common.{◌≡◌, refl, sym, ◌∙◌, ap, List, [], ◌∷◌, ◌++◌}

pub last_or : {A : Type 0} → A → List A → A
last_or d [] = d
last_or d (a ∷ xs) = last_or a xs

pub before_last : {A : Type 0} → A → List A → List A
before_last d [] = []
before_last d (a ∷ xs) = d ∷ before_last a xs

pub last_is : {A : Type 0} (xs : List A) (x d : A) → last_or d (xs ++ x ∷ []) ≡ x
unfolding last_or
last_is [] x d = refl
last_is (y ∷ xs) x d = last_is xs x y

pub before_is : {A : Type 0} (xs : List A) (x d : A) → before_last d (xs ++ x ∷ []) ≡ d ∷ xs
unfolding before_last
before_is [] x d = refl
before_is (y ∷ xs) x d = ap (λ xs. d ∷ xs) (before_is xs x y)

pub same_last : {A : Type 0} (xs ys : List A) (x y : A) → xs ++ x ∷ [] ≡ ys ++ y ∷ [] → x ≡ y
same_last xs ys x y e = sym (last_is xs x x) ∙ (ap (last_or x) e ∙ last_is ys y x)

pub same_before : {A : Type 0} (xs ys : List A) (x y : A) → xs ++ x ∷ [] ≡ ys ++ y ∷ [] → xs ≡ ys
same_before xs ys x y e = let both : x ∷ xs ≡ x ∷ ys = sym (before_is xs x x) ∙ (ap (before_last x) e ∙ before_is ys y x) in cc

pub never_empty : {A : Type 0} (xs : List A) (x : A) → [] ≡ xs ++ x ∷ [] → ⊥
never_empty [] x e = absurd cc
never_empty (y ∷ xs) x e = absurd cc
