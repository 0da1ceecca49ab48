use Rattle.std.proofs.Common.{sym, ◌∙◌}
use Rattle.lp_defs.specs.Canonical.{kind_lines}
use Rattle.lp_print.proofs.Joining.{section_added, section_not_added}
use Rattle.lp_print.proofs.kinds.write_kind.Goals as goal

pub returns-in_ok-write_names : goal.returns-in_ok-write_names
returns-in_ok-write_names c = section_added c.args.heading.now (kind_lines c.args.kind) c.args.vars.now _ _ _ (sym c.has_names.ensures ∙ c.if-has_names.true) c.in_ok-write_line.ensures c.in_ok-write_names.ensures

pub returns-else-has_names : goal.returns-else-has_names
returns-else-has_names c = section_not_added c.args.heading.now (kind_lines c.args.kind) c.args.vars.now _ (sym c.has_names.ensures ∙ c.if-has_names.false)
