use Rattle.std.proofs.Common.{refl}
use Rattle.lp_defs.specs.Canonical.{canonical_text}
use Rattle.lp_defs.proofs.Laws.{told_alone, written_again}
use Rattle.lp_defs.proofs.WrittenModel.{text_spelled}
use Rattle.lp_defs.proofs.canonical_laws.written_is_read.Goals as goal

pub returns-clause-spells : goal.returns-clause-spells
returns-clause-spells c = λ m. text_spelled m.model m.lawful m.kept

pub returns-clause-no_other : goal.returns-clause-no_other
returns-clause-no_other c = λ m n. told_alone m.model (canonical_text m.model) refl m.lawful m.kept n

pub returns-clause-again : goal.returns-clause-again
returns-clause-again c = written_again
