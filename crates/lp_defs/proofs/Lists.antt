-- Lists of which each item, or each pair of items, has something.
use Rattle.std.proofs.Common.{subst, suc, List, [], ◌∷◌, ◌++◌, map, arith, get_or}
use Rattle.std.specs.Prelude.{All, AllPairs}
use Rattle.std.proofs.lemmas.List.{length-map}
use Rattle.std.proofs.lemmas.List.Elements.{All-cons, All-head, All-nil, All-tail}
use Rattle.std.proofs.Math.ListN.{get_or-map}

AllPairs-head : {X : Type 0} (R : X → X → Type 0) (x : X) (xs : List X) → AllPairs R (x ∷ xs) → All (R x) xs
AllPairs-head R x xs all = λ k d within. all 0 (suc k) d (omega arith) (omega (arith, within))

AllPairs-tail : {X : Type 0} (R : X → X → Type 0) (x : X) (xs : List X) → AllPairs R (x ∷ xs) → AllPairs R xs
AllPairs-tail R x xs all = λ i j d less within. all (suc i) (suc j) d (omega (arith, less)) (omega (arith, within))

pub AllPairs-from_map : {X Y : Type 0} (R : Y → Y → Type 0) (f : X → Y) (xs : List X) → AllPairs R (map f xs) →
    AllPairs (λ x y. R (f x) (f y)) xs
AllPairs-from_map R f xs all = λ i j d less within.
    let len = length-map xs f in
    subst (λ y. R (f (get_or xs i d)) y) (get_or-map f xs j d)
    (subst (λ x. R x (get_or (map f xs) j (f d))) (get_or-map f xs i d) (all i j (f d) less (omega (arith, within, len))))

-- An item in the middle of a list

pub All-middle : {X : Type 0} (P : X → Type 0) (front : List X) (x : X) (rest : List X) → All P (front ++ x ∷ rest) → P x
All-middle P [] x rest all = All-head P x rest all
All-middle P (y ∷ front) x rest all = All-middle P front x rest (All-tail P y (front ++ x ∷ rest) all)

pub AllPairs-before : {X : Type 0} (R : X → X → Type 0) (front : List X) (x : X) (rest : List X) → AllPairs R (front ++ x ∷ rest) →
    All (λ y. R y x) front
AllPairs-before R [] x rest all = All-nil (λ y. R y x)
AllPairs-before R (y ∷ front) x rest all =
    All-cons (λ y. R y x) y front (All-middle (R y) front x rest (AllPairs-head R y (front ++ x ∷ rest) all))
    (AllPairs-before R front x rest (AllPairs-tail R y (front ++ x ∷ rest) all))

pub AllPairs-behind : {X : Type 0} (R : X → X → Type 0) (front : List X) (x : X) (rest : List X) → AllPairs R (front ++ x ∷ rest) →
    All (R x) rest
AllPairs-behind R [] x rest all = AllPairs-head R x rest all
AllPairs-behind R (y ∷ front) x rest all = AllPairs-behind R front x rest (AllPairs-tail R y (front ++ x ∷ rest) all)
