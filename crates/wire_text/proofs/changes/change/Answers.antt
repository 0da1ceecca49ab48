use Rattle.model_core.specs.declared.change.Change.TheVariants.{DelConstr, DelVar, SetObj, SetRhs}
use Rattle.wire_text.specs.declared.command.Command.TheVariants.{Queue}
use Rattle.wire_text.proofs.changes.change.Goals as goal

pub returns-in-AddVar : goal.returns-in-AddVar
returns-in-AddVar c = rw c.in-AddVar.is c.add_var.ensures

pub returns-in-AddConstr : goal.returns-in-AddConstr
returns-in-AddConstr c = rw c.in-AddConstr.is c.add_constr.ensures

pub returns-in-ChgCoeff : goal.returns-in-ChgCoeff
returns-in-ChgCoeff c = rw c.in-ChgCoeff.is c.chg_coeff.ensures

pub returns-in-SetLb : goal.returns-in-SetLb
returns-in-SetLb c = rw c.in-SetLb.is c.set_lb.ensures

pub returns-in-SetUb : goal.returns-in-SetUb
returns-in-SetUb c = rw c.in-SetUb.is c.set_ub.ensures

pub returns-in-SetSense : goal.returns-in-SetSense
returns-in-SetSense c = rw c.in-SetSense.is c.set_sense.ensures

pub returns-in-SetType : goal.returns-in-SetType
returns-in-SetType c = rw c.in-SetType.is c.set_type.ensures

pub returns-in-SetVTag : goal.returns-in-SetVTag
returns-in-SetVTag c = rw c.in-SetVTag.is c.set_vtag.ensures

pub returns-in_ok-name-in-SetObj : goal.returns-in_ok-name-in-SetObj
returns-in_ok-name-in-SetObj c = rw c.in-SetObj.is (c.in_ok-name-in-SetObj.ensures (λ n x. Queue (SetObj n x)))

pub returns-in_ok-name-in-SetRhs : goal.returns-in_ok-name-in-SetRhs
returns-in_ok-name-in-SetRhs c = rw c.in-SetRhs.is (c.in_ok-name-in-SetRhs.ensures (λ n x. Queue (SetRhs n x)))

pub returns-in_ok-one_name-in-DelVar : goal.returns-in_ok-one_name-in-DelVar
returns-in_ok-one_name-in-DelVar c = rw c.in-DelVar.is (c.in_ok-one_name-in-DelVar.ensures (λ n. Queue (DelVar n)))

pub returns-in_ok-one_name-in-DelConstr : goal.returns-in_ok-one_name-in-DelConstr
returns-in_ok-one_name-in-DelConstr c = rw c.in-DelConstr.is (c.in_ok-one_name-in-DelConstr.ensures (λ n. Queue (DelConstr n)))
