-- Tokens read one by one: the model that they spell, or the first place at which no case fits.
use Rattle.std.specs.Prelude.{List, [], ◌∷◌, Result, Ok, Err}
use Rattle.base_names.specs.declared.refusal.FaultWord.TheVariants.{NoSection}
use Rattle.frac128.specs.Checked.{◌>>=◌}
use Rattle.model_data.specs.declared.model.Model.{Model}
use Rattle.lp_defs.specs.declared.fault.ModelFault.{ModelFault}
use Rattle.lp_defs.specs.Objective.{add_to_constant, after_start, after_objective_word, after_objective_title, settle_objective_title, after_objective_label, after_objective_sign, after_objective_number, after_objective_term, after_second_word}
use Rattle.lp_defs.specs.Rows.{after_constraints, after_row, after_row_title, settle_row_title, after_row_label, after_row_sign, after_row_number, after_row_term, after_comparison, after_side_sign}
use Rattle.lp_defs.specs.Sections.{after_bound, after_bound_name, after_bound_side, after_bound_side_sign, after_bound_sign, after_bound_number, after_bound_middle, after_bound_end, after_kind, after_end}
use Rattle.lp_defs.specs.Stage.{Stage, start, objective_start, objective_title, objective_first, objective_sign, objective_number, objective_next, second_word, rows_start, rows_next, row_title, row_first, row_sign, row_number, row_next, row_side, row_side_sign, bounds, bound_name, bound_side, bound_side_sign, bound_sign, bound_number, bound_middle, bound_end, kinds, ended}
use Rattle.lp_defs.specs.Symbols.{Seen, Spot, Symbol, token, no_token, fault_at}

-- the stage behind a token
abbrev pub after : Stage → Spot → Symbol → Result Stage ModelFault
after start spot symbol = after_start spot symbol
after (objective_start m) spot symbol = after_objective_word spot symbol m
after (objective_title title_spot title m) spot symbol = after_objective_title title_spot title spot symbol m
after (objective_first m) spot symbol = after_objective_label spot symbol m
after (objective_sign negative m) spot symbol = after_objective_sign negative spot symbol m
after (objective_number number_spot x m) spot symbol = after_objective_number number_spot x spot symbol m
after (objective_next m) spot symbol = after_objective_term spot symbol m
after (second_word wanted m) spot symbol = after_second_word wanted spot symbol m
after (rows_start m) spot symbol = after_constraints spot symbol m
after (rows_next m) spot symbol = after_row spot symbol m
after (row_title title_spot title m) spot symbol = after_row_title title_spot title spot symbol m
after (row_first u) spot symbol = after_row_label spot symbol u
after (row_sign first negative u) spot symbol = after_row_sign first negative spot symbol u
after (row_number first number_spot x u) spot symbol = after_row_number first number_spot x spot symbol u
after (row_next u) spot symbol = after_row_term spot symbol u
after (row_side sense u) spot symbol = after_comparison sense spot symbol u
after (row_side_sign negative sense u) spot symbol = after_side_sign negative sense spot symbol u
after (bounds m) spot symbol = after_bound spot symbol m
after (bound_name text m) spot symbol = after_bound_name text spot symbol m
after (bound_side sense text m) spot symbol = after_bound_side sense text spot symbol m
after (bound_side_sign negative sense text m) spot symbol = after_bound_side_sign negative sense text spot symbol m
after (bound_sign negative m) spot symbol = after_bound_sign negative spot symbol m
after (bound_number number_spot limit m) spot symbol = after_bound_number number_spot limit spot symbol m
after (bound_middle limit sense m) spot symbol = after_bound_middle limit sense spot symbol m
after (bound_end sense text m) spot symbol = after_bound_end sense text spot symbol m
after (kinds kind m) spot symbol = after_kind kind spot symbol m
after (ended m) spot symbol = after_end spot

-- Where no further token follows, this fault comes, unless what waited for the next token has an earlier one.
abbrev pub stopped : Stage → ModelFault → ModelFault
stopped (objective_title title_spot title m) fault = elim (settle_objective_title title_spot title m) [ Ok told ↦ fault | Err earlier ↦ earlier ]
stopped (objective_number number_spot x m) fault = elim (add_to_constant number_spot x m) [ Ok told ↦ fault | Err earlier ↦ earlier ]
stopped (row_title title_spot title m) fault = elim (settle_row_title title_spot title m) [ Ok told ↦ fault | Err earlier ↦ earlier ]
stopped stage fault = fault

-- the stage behind a token, or behind a run that is none
abbrev pub after_seen : Stage → Seen → Result Stage ModelFault
after_seen stage (token spot symbol) = after stage spot symbol
after_seen stage (no_token fault) = Err (stopped stage fault)

-- A text may end behind `end` alone.
abbrev pub at_the_end : Stage → Spot → Result Model ModelFault
at_the_end (ended m) spot = Ok m
at_the_end stage spot = Err (stopped stage (fault_at spot NoSection))

-- the model that is told from a stage on, with the spot of the text's end
unfoldable pub reading_from : Stage → List Seen → Spot → Result Model ModelFault
reading_from stage [] end = at_the_end stage end
reading_from stage (seen ∷ more) end = after_seen stage seen >>= λ next. reading_from next more end

abbrev pub reading_of : List Seen → Spot → Result Model ModelFault
reading_of seen end = reading_from start seen end

-- the stage behind tokens, where none of them is at fault yet
unfoldable pub stage_behind : Stage → List Seen → Result Stage ModelFault
stage_behind stage [] = Ok stage
stage_behind stage (seen ∷ more) = after_seen stage seen >>= λ next. stage_behind next more
