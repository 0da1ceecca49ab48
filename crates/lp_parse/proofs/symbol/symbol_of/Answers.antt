use Rattle.std.proofs.Common.{sym, subst, IsTrue, List, ℕ}
use Rattle.lp_defs.specs.Tokens.{is_plain}
use Rattle.lp_parse.proofs.Plain.{plain_front}
use Rattle.lp_parse.proofs.symbol.symbol_of.Goals as goal

pub text_of-requires : goal.text_of-requires
text_of-requires c = subst (λ (bytes : List ℕ). IsTrue (is_plain bytes)) (sym c.front_of.ensures) (plain_front c.args.bytes.now c.requires)
