use Rattle.std.proofs.Common.{sym, subst₂}
use Rattle.cert_text.specs.Spelling.{IsWritable}
use Rattle.solve_defs.specs.Plain.{turn_limit}
use Rattle.solve_command.proofs.Writable.{plain_writable}
use Rattle.solve_command.proofs.certificate.certificate_of.Goals as goal

pub write-requires : goal.write-requires
write-requires c =
    let ended = c.in_ok-outcome.ensures in
    let turns = turn_limit c.args.params.now in
    subst₂ IsWritable (sym ended.0) (sym ended.1) (plain_writable c.args.model c.args.params.now turns (c.solves_are_right.ensures.valid c.args.params.now turns))
