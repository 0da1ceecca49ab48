-- The dense representation.
use Rattle.std.specs.Prelude.{◌≡◌, ℕ, suc, ◌*◌, ◌^◌, ◌<◌, ◌≤◌, length, option_map}
use Rattle.std.specs.Option.{ForSome}
use Rattle.dictionary.specs.declared.dense.Dict.TheInside.{Inside}
use Rattle.dictionary.specs.Cells.{rows_of}
use Rattle.dictionary.specs.Dictionary.{Dictionary}

-- how many cells a row has
abbrev pub width_of : Inside → ℕ
width_of d = suc (length d.nonbasic.items)

abbrev pub dictionary_of : Inside → Dictionary
dictionary_of d = record {
  basic = d.basic.items;
  nonbasic = d.nonbasic.items;
  rows = rows_of (width_of d) (length d.basic.items) d.cells.items;
  objective = d.objective.items;
  auxiliary = option_map (λ w. w.items) d.auxiliary;
}

-- no cell is missing, and rows and columns can be numbered
pub record IsFilled (d : Inside) : Type 0 where
  pub cells : length d.cells.items ≡ length d.basic.items * width_of d
  pub objective : length d.objective.items ≡ width_of d
  pub auxiliary : ForSome d.auxiliary (λ w. length w.items ≡ width_of d)
  pub row_limit : length d.basic.items < 2 ^ 31
  pub column_limit : length d.nonbasic.items ≤ 2 ^ 31
