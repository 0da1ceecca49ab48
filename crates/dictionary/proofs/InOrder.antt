-- `each` and `each_pair` with what is done so far, as a loop goes on.
use Rattle.std.proofs.Common.{◌≡◌, ◌∙◌, refl, sym, ap, List, [], ◌∷◌, ◌++◌, append_assoc, append-nil, Result, Ok, Err}
use Rattle.frac128.specs.Checked.{◌>>=◌}
use Rattle.dictionary.specs.Dictionary.{each, each_pair}

abbrev pub each_onto : {A B E : Type 0} → List B → (A → Result B E) → List A → Result (List B) E
each_onto done f [] = Ok done
each_onto done f (x ∷ xs) = do
  y ← f x
  each_onto (done ++ y ∷ []) f xs

abbrev pub each_pair_onto : {A B C E : Type 0} → List C → (A → B → Result C E) → List A → List B → Result (List C) E
each_pair_onto done f [] ys = Ok done
each_pair_onto done f (x ∷ xs) [] = Ok done
each_pair_onto done f (x ∷ xs) (y ∷ ys) = do
  z ← f x y
  each_pair_onto (done ++ z ∷ []) f xs ys

-- what is made of the rest behind what is done
abbrev behind : {C E : Type 0} → List C → Result (List C) E → Result (List C) E
behind done (Ok rest) = Ok (done ++ rest)
behind done (Err e) = Err e

-- one more, and then the rest
one_more : {C E : Type 0} (done : List C) (z : C) (rest : Result (List C) E) → behind (done ++ z ∷ []) rest ≡ behind done (◌>>=◌ rest (λ zs. Ok (z ∷ zs)))
one_more done z (Ok zs) = ap Ok (append_assoc done (z ∷ []) zs)
one_more done z (Err e) = refl

each_onto-is : {A B E : Type 0} (done : List B) (f : A → Result B E) (xs : List A) → each_onto done f xs ≡ behind done (each f xs)
each_onto-is done f [] = ap Ok (sym (append-nil done))
each_onto-is {A} {B} {E} done f (x ∷ xs) =
    let after : (r : Result B E) → ◌>>=◌ r (λ y. each_onto (done ++ y ∷ []) f xs) ≡ behind done (◌>>=◌ r (λ y. ◌>>=◌ (each f xs) (λ ys. Ok (y ∷ ys)))) =
    elim [ Ok y ↦ each_onto-is (done ++ y ∷ []) f xs ∙ one_more done y (each f xs) | Err e ↦ refl ] in
    after (f x)

each_pair_onto-is : {A B C E : Type 0} (done : List C) (f : A → B → Result C E) (xs : List A) (ys : List B) → each_pair_onto done f xs ys ≡ behind done (each_pair f xs ys)
each_pair_onto-is done f [] ys = ap Ok (sym (append-nil done))
each_pair_onto-is done f (x ∷ xs) [] = ap Ok (sym (append-nil done))
each_pair_onto-is {A} {B} {C} {E} done f (x ∷ xs) (y ∷ ys) =
    let after : (r : Result C E) → ◌>>=◌ r (λ z. each_pair_onto (done ++ z ∷ []) f xs ys) ≡ behind done (◌>>=◌ r (λ z. ◌>>=◌ (each_pair f xs ys) (λ zs. Ok (z ∷ zs)))) =
    elim [ Ok z ↦ each_pair_onto-is (done ++ z ∷ []) f xs ys ∙ one_more done z (each_pair f xs ys) | Err e ↦ refl ] in
    after (f x y)

behind_none : {C E : Type 0} (r : Result (List C) E) → behind [] r ≡ r
behind_none (Ok zs) = refl
behind_none (Err e) = refl

-- nothing is done at the start
pub each_onto-nil : {A B E : Type 0} (f : A → Result B E) (xs : List A) → each_onto [] f xs ≡ each f xs
each_onto-nil f xs = each_onto-is [] f xs ∙ behind_none (each f xs)

pub each_pair_onto-nil : {A B C E : Type 0} (f : A → B → Result C E) (xs : List A) (ys : List B) → each_pair_onto [] f xs ys ≡ each_pair f xs ys
each_pair_onto-nil f xs ys = each_pair_onto-is [] f xs ys ∙ behind_none (each_pair f xs ys)

pub each_onto-next : {A B E : Type 0} (done : List B) (f : A → Result B E) (x : A) (xs : List A) (y : B) → f x ≡ Ok y → each_onto done f (x ∷ xs) ≡ each_onto (done ++ y ∷ []) f xs
each_onto-next done f x xs y h = ap (λ r. ◌>>=◌ r (λ z. each_onto (done ++ z ∷ []) f xs)) h

pub each_onto-stopped : {A B E : Type 0} (done : List B) (f : A → Result B E) (x : A) (xs : List A) (e : E) → f x ≡ Err e → each_onto done f (x ∷ xs) ≡ Err e
each_onto-stopped done f x xs e h = ap (λ r. ◌>>=◌ r (λ z. each_onto (done ++ z ∷ []) f xs)) h
