-- What the parser's own types stand for.
use Rattle.std.specs.Prelude.{ℕ, List, codes}
use Rattle.frac128.specs.Fraction.{Fraction}
use Rattle.lp_defs.specs.Objective as objective
use Rattle.lp_defs.specs.Quantity as defs_quantity
use Rattle.lp_defs.specs.Stage as defs
use Rattle.lp_defs.specs.Symbols as seen
use Rattle.lp_parse.specs.declared.draft.Summand.{Summand}
use Rattle.lp_parse.specs.declared.quantity.Limit.{Limit}
use Rattle.lp_parse.specs.declared.quantity.Limit.TheVariants.{Limited, Unlimited}
use Rattle.lp_parse.specs.declared.stage.SecondWord.{SecondWord}
use Rattle.lp_parse.specs.declared.stage.SecondWord.TheVariants.{To, That}
use Rattle.lp_parse.specs.declared.stage.Stage.{Stage}
use Rattle.lp_parse.specs.declared.stage.Stage.TheVariants as at
use Rattle.lp_parse.specs.declared.symbol.Quantity.{Quantity}
use Rattle.lp_parse.specs.declared.symbol.Quantity.TheVariants.{Finite, TooWide, Infinite}
use Rattle.lp_parse.specs.declared.symbol.Spot.{Spot}
use Rattle.lp_parse.specs.declared.symbol.Symbol.{Symbol}
use Rattle.lp_parse.specs.declared.symbol.Symbol.TheVariants.{Sign, Colon, Comparison, Number, Keyword, Label, Name}
use Rattle.lp_parse.specs.declared.told.Told.{Told}

abbrev pub spot_of : Spot → seen.Spot
spot_of spot = record { line = spot.line; column = spot.column }

abbrev pub quantity_of : Quantity → seen.Quantity
quantity_of (Finite x) = seen.finite x.now
quantity_of (TooWide negative huge) = seen.too_wide negative huge
quantity_of (Infinite negative) = seen.infinite negative

-- the limit, with its number
abbrev pub limit_of : Limit → Fraction → defs_quantity.Limit
limit_of Limited x = defs_quantity.limited x
limit_of (Unlimited below) x = defs_quantity.unlimited below

abbrev pub symbol_of : Symbol → seen.Symbol
symbol_of (Sign negative) = seen.sign negative
symbol_of Colon = seen.colon
symbol_of (Comparison sense) = seen.comparison sense
symbol_of (Number signed quantity) = seen.number signed (quantity_of quantity)
symbol_of (Keyword word) = seen.keyword word
symbol_of (Label text) = seen.label text.now
symbol_of (Name text) = seen.name text.now

abbrev pub summand_of : Summand → objective.Summand
summand_of term = record { number_spot = spot_of term.number_spot; coefficient = term.coefficient; name_spot = spot_of term.name_spot; text = term.name.now }

abbrev pub second_word_of : SecondWord → List ℕ
second_word_of To = codes "to"
second_word_of That = codes "that"

-- the stage, with what has been told
abbrev pub stage_of : Stage → Told → defs.Stage
stage_of at.Start told = defs.start
stage_of at.ObjectiveStart told = defs.objective_start told.draft.model
stage_of (at.ObjectiveTitle spot title) told = defs.objective_title (spot_of spot) title.now told.draft.model
stage_of at.ObjectiveFirst told = defs.objective_first told.draft.model
stage_of (at.ObjectiveSign negative) told = defs.objective_sign negative told.draft.model
stage_of (at.ObjectiveNumber spot) told = defs.objective_number (spot_of spot) told.number told.draft.model
stage_of at.ObjectiveNext told = defs.objective_next told.draft.model
stage_of (at.SecondWord wanted) told = defs.second_word (second_word_of wanted) told.draft.model
stage_of at.RowsStart told = defs.rows_start told.draft.model
stage_of at.RowsNext told = defs.rows_next told.draft.model
stage_of (at.RowTitle spot title) told = defs.row_title (spot_of spot) title.now told.draft.model
stage_of at.RowFirst told = defs.row_first told.draft
stage_of (at.RowSign first negative) told = defs.row_sign first negative told.draft
stage_of (at.RowNumber first spot) told = defs.row_number first (spot_of spot) told.number told.draft
stage_of at.RowNext told = defs.row_next told.draft
stage_of (at.RowSide sense) told = defs.row_side sense told.draft
stage_of (at.RowSideSign negative sense) told = defs.row_side_sign negative sense told.draft
stage_of at.Bounds told = defs.bounds told.draft.model
stage_of (at.BoundName text) told = defs.bound_name text.now told.draft.model
stage_of (at.BoundSide sense text) told = defs.bound_side sense text.now told.draft.model
stage_of (at.BoundSideSign negative sense text) told = defs.bound_side_sign negative sense text.now told.draft.model
stage_of (at.BoundSign negative) told = defs.bound_sign negative told.draft.model
stage_of (at.BoundNumber spot limit) told = defs.bound_number (spot_of spot) (limit_of limit told.number) told.draft.model
stage_of (at.BoundMiddle limit sense) told = defs.bound_middle (limit_of limit told.number) sense told.draft.model
stage_of (at.BoundEnd sense text) told = defs.bound_end sense text.now told.draft.model
stage_of (at.Kinds kind) told = defs.kinds kind told.draft.model
stage_of at.Ended told = defs.ended told.draft.model
