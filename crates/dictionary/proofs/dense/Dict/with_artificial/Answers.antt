use Rattle.std.proofs.Common.{◌≡◌, ◌+◌, ◌*◌, ◌∙◌, ◌++◌, ◌∷◌, [], sym, ap, ap₂, suc, length, replicate, add-one, length-append, arith, rules}
use Rattle.std.proofs.lemmas.List.{length-replicate}
use Rattle.frac128.specs.Fraction.{negation, one_value, zero_value}
use Rattle.dictionary.specs.Cells.{rows_of}
use Rattle.dictionary.specs.Dictionary.{numbers_from}
use Rattle.dictionary.proofs.Opened.{for_some, length-numbers_from, opened_with}
use Rattle.dictionary.proofs.dense.Dict.with_artificial.Goals as goal

pub invariant_of-result : goal.invariant_of-result
invariant_of-result c =
    let rows = c.args.rows in
    let columns = length c.args.obj.now in
    let basic : c.in_ok-basic.basic.items ≡ numbers_from (columns + 1) rows = search rules in
    let nonbasic : c.push.new.self.items ≡ numbers_from 1 columns ++ 0 ∷ [] = search rules in
    let basics : length c.in_ok-basic.basic.items ≡ rows = ap length basic ∙ length-numbers_from (columns + 1) rows in
    let nonbasics : length c.push.new.self.items ≡ columns + 1 =
    ap length nonbasic ∙ length-append (numbers_from 1 columns) (0 ∷ []) ∙ ap (λ k. k + 1) (length-numbers_from 1 columns) in
    let width : columns + 2 ≡ suc (length c.push.new.self.items) = omega arith in
    let objective : c.in_ok-objective.objective.items ≡ c.args.constant ∷ (c.args.obj.now ++ zero_value ∷ []) = search rules in
    let auxiliary : c.in_ok-auxiliary.auxiliary.items ≡ replicate (columns + 1) zero_value ++ negation one_value ∷ [] = search rules in record {
      cells = c.requires.cells ∙ ap₂ (λ m w. m * w) (sym basics) width;
      objective = ap length objective ∙ ap suc (length-append c.args.obj.now (zero_value ∷ []) ∙ sym nonbasics);
      auxiliary =
          for_some (λ w. length w.items ≡ suc (length c.push.new.self.items)) c.in_ok-auxiliary.auxiliary
          (ap length auxiliary ∙ length-append (replicate (columns + 1) zero_value) (negation one_value ∷ []) ∙ ap (λ n. n + 1) (length-replicate (columns + 1) zero_value ∙ sym nonbasics) ∙ add-one (length c.push.new.self.items));
      row_limit = omega arith;
      column_limit = omega arith;
    }

pub returns : goal.returns
returns c s are =
    let count = are.count_is in
    let obj = are.obj_is in
    let constant = are.constant_is in
    let columns = length c.args.obj.now in
    let basic : c.in_ok-basic.basic.items ≡ numbers_from (columns + 1) c.args.rows = search rules in
    let nonbasic : c.push.new.self.items ≡ numbers_from 1 columns ++ 0 ∷ [] = search rules in
    let objective : c.in_ok-objective.objective.items ≡ c.args.constant ∷ (c.args.obj.now ++ zero_value ∷ []) = search rules in
    let auxiliary : c.in_ok-auxiliary.auxiliary.items ≡ replicate (columns + 1) zero_value ++ negation one_value ∷ [] = search rules in
    let width : length s.obj + 2 ≡ columns + 1 + 1 = rw obj (omega arith) in
    opened_with s c.in_ok-basic.basic.items c.push.new.self.items c.args.cells.items c.in_ok-objective.objective.items c.in_ok-auxiliary.auxiliary.items
    (cc) (cc) (ap₂ (λ w n. rows_of w n c.args.cells.items) width count ∙ are.rows_are) (cc) (cc)
