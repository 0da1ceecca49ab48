use Rattle.std.proofs.lemmas.Result.{IfOk-weaker}
use Rattle.lp_defs.proofs.Laws.{told_alone}
use Rattle.lp_print.proofs.printing.print.Goals as goal

pub returns-clause-no_other : goal.returns-clause-no_other
returns-clause-no_other c =
    let m = c.args.m.now in
    IfOk-weaker c.write.result _ _ (λ text is. told_alone m text is c.requires c.kept_numbers.ensures) c.write.ensures
