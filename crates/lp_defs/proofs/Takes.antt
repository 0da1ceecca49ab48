-- How symbols, wherever their tokens stand, lead from what was told before them to what is told behind them.
use Rattle.std.proofs.Common.{◌≡◌, refl, sym, ◌∙◌, ap, subst, ℕ, zero, suc, List, [], ◌∷◌, ◌++◌, map, append_assoc, append-nil}
use Rattle.std.specs.List.{flat_map}
use Rattle.std.proofs.lemmas.Grind.{flat_map-append}
use Rattle.lp_defs.specs.Symbols.{Seen, Spot, Symbol}
use Rattle.lp_defs.proofs.Sight.{tokens}

-- the symbols of all entries
abbrev pub flat : List (List Symbol) → List Symbol
flat entries = flat_map (λ entry. entry) entries

pub flat-append : (a b : List (List Symbol)) (rest : List Symbol) → flat (a ++ b) ++ rest ≡ flat a ++ (flat b ++ rest)
flat-append a b rest = ap (λ s. s ++ rest) (flat_map-append (λ entry. entry) a b) ∙ append_assoc (flat a) (flat b) rest

pub flat-flat_map : {X : Type 0} (f : X → List (List Symbol)) (xs : List X) → flat (flat_map f xs) ≡ flat (map (λ x. flat (f x)) xs)
flat-flat_map f [] = refl
flat-flat_map f (x ∷ xs) = flat_map-append (λ entry. entry) (f x) (flat_map f xs) ∙ ap (λ s. flat (f x) ++ s) (flat-flat_map f xs)

-- the spots behind the first so many
abbrev pub past : ℕ → (ℕ → Spot) → ℕ → Spot
past zero spots = spots
past (suc n) spots = past n (λ i. spots (suc i))

-- Wherever the symbols stand, P leads over them from m to n and leaves the rest.
abbrev pub Takes : {A B : Type 0} → (List Seen → A → List Seen → B → Type 0) → List Symbol → A → List Symbol → B → Type 0
Takes P symbols m rest n = (spots : ℕ → Spot) → (left : ℕ → Spot) × P (tokens spots symbols) m (tokens left rest) n

-- P leads on over the symbols from m to n: what it takes from n behind them, it takes from m with them.
abbrev pub GoesOn : {A B : Type 0} → (List Seen → A → List Seen → B → Type 0) → List Symbol → A → A → Type 0
GoesOn {A} {B} P symbols m n = (rest behind : List Symbol) (whole : B) → Takes P rest n behind whole → Takes P (symbols ++ rest) m behind whole

-- All items of a list are taken where each is taken from a state that depends on the items before and behind it. What holds of
-- the whole list is known at each.
module _ {X A B : Type 0} (P : List Seen → A → List Seen → B → Type 0) (own : X → List Symbol) (state : List X → List X → A)
    (Holds : List X → Type 0)
    (one : (front : List X) (x : X) (rest : List X) → Holds (front ++ x ∷ rest) →
    GoesOn P (own x) (state front (x ∷ rest)) (state (front ++ x ∷ []) rest)) where
  from_here : (front rest : List X) → Holds (front ++ rest) → GoesOn P (flat (map own rest)) (state front rest) (state (front ++ rest) [])
  from_here front [] holds = λ symbols behind whole next.
      subst (λ xs. Takes P symbols (state xs []) behind whole) (append-nil front) next
  from_here front (x ∷ rest) holds = λ symbols behind whole next.
      let is = append_assoc front (x ∷ []) rest in
      let next_there = subst (λ xs. Takes P symbols (state xs []) behind whole) (sym is) next in
      let others = from_here (front ++ x ∷ []) rest (subst Holds (sym is) holds) symbols behind whole next_there in
      subst (λ s. Takes P s (state front (x ∷ rest)) behind whole) (sym (append_assoc (own x) (flat (map own rest)) symbols))
      (one front x rest holds (flat (map own rest) ++ symbols) behind whole others)

  pub each_goes_on : (xs : List X) → Holds xs → GoesOn P (flat (map own xs)) (state [] xs) (state xs [])
  each_goes_on xs holds = from_here [] xs holds
