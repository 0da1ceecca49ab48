use Rattle.std.proofs.Common.{◌≡◌, ◌+◌, ◌*◌, ◌∙◌, ◌++◌, ◌∷◌, [], sym, ap, ap₂, suc, length, append-nil, arith, rules}
use Rattle.dictionary.specs.Cells.{rows_of}
use Rattle.dictionary.specs.Dictionary.{numbers_from}
use Rattle.dictionary.proofs.Opened.{length-numbers_from, opened_without}
use Rattle.dictionary.proofs.dense.Dict.without_artificial.Goals as goal

pub invariant_of-result : goal.invariant_of-result
invariant_of-result c =
    let rows = c.args.rows in
    let columns = length c.args.obj.now in
    let basic : c.in_ok-basic.basic.items ≡ numbers_from (columns + 1) rows = search rules in
    let nonbasic : c.in_ok-nonbasic.nonbasic.items ≡ numbers_from 1 columns = search rules in
    let basics : length c.in_ok-basic.basic.items ≡ rows = ap length basic ∙ length-numbers_from (columns + 1) rows in
    let nonbasics : length c.in_ok-nonbasic.nonbasic.items ≡ columns = ap length nonbasic ∙ length-numbers_from 1 columns in
    let width : columns + 1 ≡ suc (length c.in_ok-nonbasic.nonbasic.items) = omega arith in record {
      cells = c.requires.cells ∙ ap₂ (λ m w. m * w) (sym basics) width;
      objective = ap length c.in_ok-objective.ensures ∙ ap suc (ap length (append-nil c.args.obj.now) ∙ sym nonbasics);
      auxiliary = λ x h. absurd (cc);
      row_limit = omega arith;
      column_limit = omega arith;
    }

pub returns : goal.returns
returns c s are =
    let count = are.count_is in
    let obj = are.obj_is in
    let constant = are.constant_is in
    let columns = length c.args.obj.now in
    let basic : c.in_ok-basic.basic.items ≡ numbers_from (columns + 1) c.args.rows = search rules in
    let nonbasic : c.in_ok-nonbasic.nonbasic.items ≡ numbers_from 1 columns = search rules in
    let objective : c.in_ok-objective.objective.items ≡ c.args.constant ∷ (c.args.obj.now ++ []) = search rules in
    let width : length s.obj + 1 ≡ columns + 1 + 0 = rw obj (omega arith) in
    opened_without s c.in_ok-basic.basic.items c.in_ok-nonbasic.nonbasic.items c.args.cells.items c.in_ok-objective.objective.items
    (cc) (cc) (ap₂ (λ w n. rows_of w n c.args.cells.items) width count ∙ are.rows_are) (cc)
