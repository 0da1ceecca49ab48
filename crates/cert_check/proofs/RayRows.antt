-- The two looks at a row, and those at the rows behind it.
use Rattle.std.proofs.Common.{◌≡◌, ◌∙◌, sym, ap, ℕ, ◌+◌, ◌<◌, List, [], ◌∷◌, ◌++◌, length, drop, get_or}
use Rattle.std.specs.List.{enumerate_from, flat_map}
use Rattle.std.proofs.lemmas.List.{drop_more}
use Rattle.frac128.specs.Fraction.{Fraction}
use Rattle.model_data.specs.declared.model.Row.{Row}
use Rattle.solve_defs.specs.Certificates.{ray_row}
use Rattle.solve_defs.specs.Looks.{Look}

abbrev pub rows_from : List Fraction → List Fraction → ℕ → List Row → List Look
rows_from point ray place rows = flat_map (ray_row point ray) (enumerate_from (place + 1) (drop place rows))

pub row_first : (point ray : List Fraction) (rows : List Row) (place : ℕ) (row : Row) → place < length rows → row ≡ get_or rows place row
    → rows_from point ray place rows ≡ ray_row point ray (place + 1, row) ++ rows_from point ray (place + 1) rows
row_first point ray rows place row within is =
    ap (λ (rs : List Row). flat_map (ray_row point ray) (enumerate_from (place + 1) rs)) (drop_more rows place row within)
    ∙ ap (λ (r : Row). flat_map (ray_row point ray) (enumerate_from (place + 1) (r ∷ drop (place + 1) rows))) (sym is)
