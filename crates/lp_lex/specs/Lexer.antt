-- What a lexer shows.
use Rattle.std.specs.Prelude.{ℕ, List}
use Rattle.lp_defs.specs.declared.token.Place.{Place}
use Rattle.lp_defs.specs.Items.{Item, items_of}
use Rattle.lp_lex.specs.Ahead.{end_ahead, runs_ahead}
use Rattle.lp_lex.specs.declared.lexer.Lexer.{Lexer}

-- the whole text
abbrev pub text_of : Lexer → List ℕ
text_of lexer = lexer.text.now

-- the items that it hasn't told yet
abbrev pub items_ahead : Lexer → List Item
items_ahead lexer = items_of (runs_ahead lexer.text.now lexer.place)

-- the place of the text's end
abbrev pub end_of : Lexer → Place
end_of lexer = end_ahead lexer.text.now lexer.place

-- how many bytes of the text are behind it
abbrev pub offset_of : Lexer → ℕ
offset_of lexer = lexer.place.offset
