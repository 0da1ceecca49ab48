use Rattle.std.proofs.Common.{sym, ◌∙◌, subst, ℕ, take}
use Rattle.std.proofs.lemmas.Bool.{eqb-true}
use Rattle.std.proofs.lemmas.List.Sums.{prefix_len-le-length}
use Rattle.lp_lex.specs.Runs.{IsSimple, is_simple_byte}
use Rattle.lp_lex.proofs.Simple.{all-simple, front-simple}
use Rattle.lp_lex.proofs.runs.front_run.Goals as goal

pub run_len-len-requires-clause-all_of_run : goal.run_len-len-requires-clause-all_of_run
run_len-len-requires-clause-all_of_run c = rw c.simple_len-simple.ensures (front-simple c.args.bytes.now)

pub run_len-len-requires-clause-within : goal.run_len-len-requires-clause-within
run_len-len-requires-clause-within c = rw c.simple_len-simple.ensures (prefix_len-le-length is_simple_byte c.args.bytes.now)

pub returns-clause-simple : goal.returns-clause-simple
returns-clause-simple c = λ whole.
    subst (λ (n : ℕ). IsSimple (take n c.args.bytes.now)) (sym (eqb-true _ _ whole ∙ c.simple_len-simple.ensures)) (all-simple c.args.bytes.now)
