use Rattle.wire_text.specs.declared.command.Command.TheVariants.{GetCoeff, GetLb, GetObj, GetRhs, GetSense, GetType, GetUb, GetVTag}
use Rattle.wire_text.proofs.queries.question.Goals as goal

pub returns-in_ok-one_name-in-Lb : goal.returns-in_ok-one_name-in-Lb
returns-in_ok-one_name-in-Lb c = rw c.in-Lb.is (c.in_ok-one_name-in-Lb.ensures (λ n. GetLb n))

pub returns-in_ok-one_name-in-Ub : goal.returns-in_ok-one_name-in-Ub
returns-in_ok-one_name-in-Ub c = rw c.in-Ub.is (c.in_ok-one_name-in-Ub.ensures (λ n. GetUb n))

pub returns-in_ok-one_name-in-Obj : goal.returns-in_ok-one_name-in-Obj
returns-in_ok-one_name-in-Obj c = rw c.in-Obj.is (c.in_ok-one_name-in-Obj.ensures (λ n. GetObj n))

pub returns-in_ok-one_name-in-Type : goal.returns-in_ok-one_name-in-Type
returns-in_ok-one_name-in-Type c = rw c.in-Type.is (c.in_ok-one_name-in-Type.ensures (λ n. GetType n))

pub returns-in_ok-one_name-in-Rhs : goal.returns-in_ok-one_name-in-Rhs
returns-in_ok-one_name-in-Rhs c = rw c.in-Rhs.is (c.in_ok-one_name-in-Rhs.ensures (λ n. GetRhs n))

pub returns-in_ok-one_name-in-Sense : goal.returns-in_ok-one_name-in-Sense
returns-in_ok-one_name-in-Sense c = rw c.in-Sense.is (c.in_ok-one_name-in-Sense.ensures (λ n. GetSense n))

pub returns-in_ok-one_name-in-VTag : goal.returns-in_ok-one_name-in-VTag
returns-in_ok-one_name-in-VTag c = rw c.in-VTag.is (c.in_ok-one_name-in-VTag.ensures (λ n. GetVTag n))

pub returns-in_ok-row-in-Coeff : goal.returns-in_ok-row-in-Coeff
returns-in_ok-row-in-Coeff c = rw c.in-Coeff.is (c.in_ok-row-in-Coeff.ensures (λ row n. GetCoeff row n))

pub returns-in-NumVars : goal.returns-in-NumVars
returns-in-NumVars c = rw c.in-NumVars.is c.alone.ensures

pub returns-in-NumConstrs : goal.returns-in-NumConstrs
returns-in-NumConstrs c = rw c.in-NumConstrs.is c.alone-in-NumConstrs.ensures

pub returns-in-Param : goal.returns-in-Param
returns-in-Param c = rw c.in-Param.is c.param.ensures
