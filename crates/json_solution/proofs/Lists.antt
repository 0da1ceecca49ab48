-- One variable more.
use Rattle.std.proofs.Common.{◌≡◌, ℕ, ap₂, ◌+◌, ◌<◌, List, [], ◌∷◌, ◌++◌, map, length, take, get_or, sym, ap, ◌∙◌, min, arith}
use Rattle.std.specs.Prelude.{zip}
use Rattle.std.specs.List.{filter_map}
use Rattle.std.proofs.Math.Seq.{take-length}
use Rattle.std.proofs.lemmas.List.{take_more, map-append}
use Rattle.std.proofs.lemmas.List.Elements.{filter_map-append}
use Rattle.std.proofs.lemmas.Slice.Zip.{get_or-zip, length-zip}
use Rattle.frac128.specs.Fraction.{Fraction}
use Rattle.model_data.specs.declared.model.Var.{Var}
use Rattle.json_solution.specs.Solution.{listed_var}
use Rattle.json_solution.specs.Built.{var_data}

pub listed_more : (detail : ℕ) (vars : List Var) (xs : List Fraction) (i : ℕ) (v : Var) (x : Fraction) → i < length vars → i < length xs
    → v ≡ get_or vars i v → x ≡ get_or xs i x
    → map var_data (filter_map (listed_var detail) (take (i + 1) (zip vars xs)))
    ≡ map var_data (filter_map (listed_var detail) (take i (zip vars xs))) ++ map var_data (filter_map (listed_var detail) ((v, x) ∷ []))
listed_more detail vars xs i v x hv hx v_is x_is =
    let inside : i < length (zip vars xs) = omega (arith, length-zip vars xs) in
    let item : get_or (zip vars xs) i (v, x) ≡ (v, x) = get_or-zip vars xs i (v, x) hv hx ∙ ap₂ (λ (a : Var) (b : Fraction). (a, b)) (sym v_is) (sym x_is) in
    let more : take (i + 1) (zip vars xs) ≡ take i (zip vars xs) ++ (v, x) ∷ [] = take_more (zip vars xs) i (v, x) inside ∙ ap (λ (p : Var × Fraction). take i (zip vars xs) ++ p ∷ []) item in
    ap (λ (ps : List (Var × Fraction)). map var_data (filter_map (listed_var detail) ps)) more
    ∙ (ap (map var_data) (filter_map-append (listed_var detail) (take i (zip vars xs)) ((v, x) ∷ [])) ∙ map-append var_data _ _)

pub listed_whole : (vars : List Var) (xs : List Fraction) → take (min (length vars) (length xs)) (zip vars xs) ≡ zip vars xs
listed_whole vars xs = ap (λ (n : ℕ). take n (zip vars xs)) (sym (length-zip vars xs)) ∙ take-length (zip vars xs)
