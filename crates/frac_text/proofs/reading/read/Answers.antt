use Rattle.std.proofs.Common.{◌≡◌, arith, ◌∙◌}
use Rattle.std.proofs.lemmas.Grind.{common_steps}
use Rattle.frac_text.specs.Reading.{number_of, reading}
use Rattle.frac_text.proofs.Spelled.{reading-spelled, reading-unspelled}
use Rattle.frac_text.proofs.reading.read.Goals as goal
use Rattle.frac_text.proofs.reading.read.Goals.{After-read_unsigned}

pub returns-then-text-gt-MAX_LEN-clause-computed : goal.returns-then-text-gt-MAX_LEN-clause-computed
unfolding number_of
returns-then-text-gt-MAX_LEN-clause-computed c = grind (arith, common_steps)

computed : (c : After-read_unsigned) → c.read_unsigned.result ≡ reading c.args.text.now
unfolding number_of
computed c = grind (arith, common_steps)

pub returns-clause-computed : goal.returns-clause-computed
returns-clause-computed c = computed c

pub returns-clause-spelled : goal.returns-clause-spelled
returns-clause-spelled c = λ n s. computed c ∙ reading-spelled c.args.text.now n s

pub returns-clause-unspelled : goal.returns-clause-unspelled
returns-clause-unspelled c = λ h. computed c ∙ reading-unspelled c.args.text.now h
