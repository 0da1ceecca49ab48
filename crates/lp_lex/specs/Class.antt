-- A token, and a number's value apart.
use Rattle.std.specs.Prelude.{Option, Some, None, Result, Ok, Err}
use Rattle.frac128.specs.Fraction.{Fraction}
use Rattle.lp_defs.specs.declared.token.LexFault.{LexFault}
use Rattle.lp_defs.specs.declared.token.Token.{Token}
use Rattle.lp_defs.specs.declared.token.TokenKind.{TokenKind}
use Rattle.lp_defs.specs.declared.token.TokenKind.TheVariants as kind
use Rattle.lp_lex.specs.declared.class.ClassedToken.{ClassedToken}
use Rattle.lp_lex.specs.declared.class.TokenClass.{TokenClass}
use Rattle.lp_lex.specs.declared.class.TokenClass.TheVariants.{Colon, Comparison, Infinite, Label, Name, Number, Section, Sign, TooWide}

-- the kind of a token of the class; a number has the value
abbrev pub kind_with : TokenClass → Fraction → TokenKind
kind_with (Sign negative) x = kind.Sign negative
kind_with Colon x = kind.Colon
kind_with (Comparison sense) x = kind.Comparison sense
kind_with Number x = kind.Number x
kind_with (TooWide negative huge) x = kind.TooWide negative huge
kind_with (Infinite negative) x = kind.Infinite negative
kind_with (Section word) x = kind.Section word
kind_with Label x = kind.Label
kind_with Name x = kind.Name

abbrev pub token_with : ClassedToken → Fraction → Token
token_with token x = record { line = token.line; column = token.column; start = token.start; end = token.end; kind = kind_with token.class x }

-- what is told of a kind by a class and a value
abbrev pub class_told : {E : Type 0} → Result TokenClass E → Fraction → Result TokenKind E
class_told (Ok class) x = Ok (kind_with class x)
class_told (Err fault) x = Err fault

-- what is told of the next token by a classed one and a value
abbrev pub next_told : Result (Option ClassedToken) LexFault → Fraction → Result (Option Token) LexFault
next_told (Ok (Some token)) x = Ok (Some (token_with token x))
next_told (Ok None) x = Ok None
next_told (Err fault) x = Err fault
