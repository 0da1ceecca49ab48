-- What is done to a list of items, and by one.
use Rattle.std.specs.Prelude.{Bool, not, List, [], ◌∷◌, ◌++◌, filter, map, if◌then◌else◌}

-- the items that pass are changed, and each stays in its place
abbrev pub changed : {A : Type 0} → (A → Bool) → (A → A) → List A → List A
changed test f xs = map (λ x. if test x then f x else x) xs

-- x in place of the items that pass, at the end
abbrev pub put : {A : Type 0} → (A → Bool) → A → List A → List A
put test x xs = filter (λ y. not (test y)) xs ++ x ∷ []

-- what comes of a by one item after the other
abbrev pub each : {X A : Type 0} → (X → A → A) → List X → A → A
each f [] a = a
each f (x ∷ xs) a = each f xs (f x a)
