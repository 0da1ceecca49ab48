use Rattle.std.proofs.Common.{◌≡◌, ◌∙◌, ap, arith, Option, None}
use Rattle.std.proofs.lemmas.Grind.{common_steps}
use Rattle.base_names.specs.Id.{id_of, id_at}
use Rattle.base_names.specs.declared.id.BatchId.{BatchId}
use Rattle.base_names.proofs.Ids.{read-spelled, spelled-read}
use Rattle.base_names.proofs.id_text.read_id.Goals as goal

pub returns-in_err-point-clause-only : goal.returns-in_err-point-clause-only
returns-in_err-point-clause-only c = λ id lawful spelled.
    let none : Option BatchId = None in
    let exact : none ≡ id_of c.args.text.now = ap (id_at c.args.text.now) c.in_err-point.ensures in
    c.from_residual.ensures ∙ (exact ∙ spelled-read c.args.text.now id lawful spelled)

pub returns-clause-spelled : goal.returns-clause-spelled
returns-clause-spelled c =
    let exact : c.id_of_parts.result ≡ id_of c.args.text.now = grind (arith, common_steps) in
    rw exact (read-spelled c.args.text.now)

pub returns-clause-only : goal.returns-clause-only
returns-clause-only c = λ id lawful spelled.
    let exact : c.id_of_parts.result ≡ id_of c.args.text.now = grind (arith, common_steps) in
    exact ∙ spelled-read c.args.text.now id lawful spelled
