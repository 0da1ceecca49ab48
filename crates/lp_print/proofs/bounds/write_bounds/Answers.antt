use Rattle.std.proofs.Common.{sym, ◌∙◌, codes}
use Rattle.lp_defs.specs.Canonical.{bounds_of}
use Rattle.lp_print.proofs.Joining.{section_added, section_not_added}
use Rattle.lp_print.proofs.bounds.write_bounds.Goals as goal

pub returns-in_ok-write_entries : goal.returns-in_ok-write_entries
returns-in_ok-write_entries c = section_added (codes "Bounds") bounds_of c.args.vars.now _ _ _ (sym c.has_lines.ensures ∙ c.if-has_lines.true) c.in_ok-write_line.ensures c.in_ok-write_entries.ensures

pub returns-else-has_lines : goal.returns-else-has_lines
returns-else-has_lines c = section_not_added (codes "Bounds") bounds_of c.args.vars.now _ (sym c.has_lines.ensures ∙ c.if-has_lines.false)
