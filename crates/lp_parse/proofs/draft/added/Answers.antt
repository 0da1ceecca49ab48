use Rattle.std.proofs.Common.{rules, ◌≡◌, ◌∙◌, ap, Option}
use Rattle.base_names.specs.declared.refusal.FaultWord.TheVariants.{Number as bad_number}
use Rattle.frac128.specs.Fraction.{Fraction}
use Rattle.lp_defs.specs.Symbols.{or_fault}
use Rattle.lp_parse.specs.Meaning.{spot_of}
use Rattle.lp_parse.proofs.Zero.{added_to}
use Rattle.lp_parse.proofs.draft.added.Goals as goal

pub returns-then-eq : goal.returns-then-eq
returns-then-eq c =
    let none : c.args.so_far ≡ c.zero.result = search rules in
    ap (λ (o : Option Fraction). or_fault (spot_of c.args.spot) bad_number o) (added_to c.args.so_far c.args.number (none ∙ c.zero.ensures) c.kept.ensures)
