-- Beginnings of a list.
use Rattle.std.specs.Prelude.{◌≡◌, List, ◌++◌}

-- `whole` is `front`, and then something
abbrev pub IsPrefix : {A : Type 0} → List A → List A → Type 0
IsPrefix {A} front whole = (rest : List A) × (front ++ rest ≡ whole)
