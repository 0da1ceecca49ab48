use Rattle.std.proofs.Common.{rules, nat_lt, arith, ◌∙◌, ap}
use Rattle.std.proofs.lemmas.Bool.{eqb-false, eqb-true}
use Rattle.std.proofs.lemmas.List.{get_or_default}
use Rattle.std.proofs.lemmas.List.Sorted.{IsPartitionPoint-from_clause}
use Rattle.model_data.specs.declared.model.Term.{Term}
use Rattle.model_core.proofs.Spots.{is-missing, is-there, rising-parted}
use Rattle.model_core.proofs.terms.spot_of.Goals as goal

pub returns-then-place-terms-clause-there : goal.returns-then-place-terms-clause-there
returns-then-place-terms-clause-there c =
    let point = IsPartitionPoint-from_clause (λ t. nat_lt t.var c.args.var) _ _ c.partition_point-place.ensures.partitioned
    (rising-parted c.args.var c.args.terms.now c.requires) (λ a r q k. search rules) in
    λ e. is-there c.args.var c.args.terms.now c.requires c.partition_point-place.result point.0 point.1 c.if-place-terms.true
    c.index-terms-place.result (eqb-true _ _ e)

pub returns-then-place-terms-clause-missing : goal.returns-then-place-terms-clause-missing
returns-then-place-terms-clause-missing c =
    let point = IsPartitionPoint-from_clause (λ t. nat_lt t.var c.args.var) _ _ c.partition_point-place.ensures.partitioned
    (rising-parted c.args.var c.args.terms.now c.requires) (λ a r q k. search rules) in
    let place = c.partition_point-place.result in
    λ e. is-missing c.args.var c.args.terms.now c.requires place point.0 point.1 c.partition_point-place.ensures.bound
    (λ d within same. eqb-false _ _ e (ap (λ (t : Term). t.var) (get_or_default c.args.terms.now place c.index-terms-place.result d within) ∙ same))

pub returns-else-place-terms-clause-missing : goal.returns-else-place-terms-clause-missing
returns-else-place-terms-clause-missing c =
    let point = IsPartitionPoint-from_clause (λ t. nat_lt t.var c.args.var) _ _ c.partition_point-place.ensures.partitioned
    (rising-parted c.args.var c.args.terms.now c.requires) (λ a r q k. search rules) in
    let past = c.if-place-terms.false in
    λ e. is-missing c.args.var c.args.terms.now c.requires c.partition_point-place.result point.0 point.1 c.partition_point-place.ensures.bound
    (λ d within same. omega (arith, within, past))
