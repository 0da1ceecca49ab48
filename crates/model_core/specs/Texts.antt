-- Texts in a table.
use Rattle.std.specs.Prelude.{ℕ, List}

-- texts, and how many more can be added without memory
pub record Table : Type 0 where
  pub texts : List (List ℕ)
  pub room : ℕ
