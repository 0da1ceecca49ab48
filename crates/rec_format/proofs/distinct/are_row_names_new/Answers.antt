use Rattle.std.proofs.Common.{◌≡◌, ◌+◌, ℕ, Bool, true, false, List, [], ◌∷◌, ◌++◌, bytes_eq, drop, map, ap, sym, subst, ◌∙◌}
use Rattle.std.specs.List.{list_any}
use Rattle.model_data.specs.declared.model.Row.{Row}
use Rattle.rec_format.specs.Orderly as defs
use Rattle.rec_format.proofs.InOrder.{new_end, new_step_at, new_stop_at, not_false, not_true}
use Rattle.rec_format.proofs.distinct.are_row_names_new.Goals as goal

abbrev name_of : Row → List ℕ
name_of x = x.name

pub returns-then-not-is_new : goal.returns-then-not-is_new
returns-then-not-is_new c =
    let known : list_any (bytes_eq c.as_bytes.result.now) c.loop-row.seen ≡ true = not_false (list_any (bytes_eq c.as_bytes.result.now) c.loop-row.seen) (sym (c.in_ok-is_new.ensures).new ∙ c.if-not-is_new.true) in
    let same : c.as_bytes.result.now ≡ c.row-item.result.name = c.as_bytes.ensures in
    sym (new_stop_at name_of c.loop-row.seen c.loop-row.row-index c.args.rows.now c.row-item.result c.loop-row-test.true c.row-item.is
    (subst (λ (t : List ℕ). list_any (bytes_eq t) c.loop-row.seen ≡ true) same known)) ∙ c.loop-row.invariant

pub loop-row-preserved : goal.loop-row-preserved
loop-row-preserved c =
    let unknown : list_any (bytes_eq c.as_bytes.result.now) c.loop-row.seen ≡ false = not_true (list_any (bytes_eq c.as_bytes.result.now) c.loop-row.seen) (sym (c.in_ok-is_new.ensures).new ∙ c.if-not-is_new.false) in
    let same : c.as_bytes.result.now ≡ c.row-item.result.name = c.as_bytes.ensures in
    let grown : c.add.new.self ≡ c.loop-row.seen ++ c.row-item.result.name ∷ [] = (c.in_ok-is_new.ensures).added c.if-not-is_new.false ∙ ap (λ (t : List ℕ). c.loop-row.seen ++ t ∷ []) same in
    ap (λ (s : List (List ℕ)). defs.are_new s (map name_of (drop (c.loop-row.row-index + 1) c.args.rows.now))) grown
    ∙ (sym (new_step_at name_of c.loop-row.seen c.loop-row.row-index c.args.rows.now c.row-item.result c.loop-row-test.true c.row-item.is
    (subst (λ (t : List ℕ). list_any (bytes_eq t) c.loop-row.seen ≡ false) same unknown)) ∙ c.loop-row.invariant)

pub returns : goal.returns
returns c = sym (new_end name_of c.loop-row.seen c.loop-row.row-index c.args.rows.now c.loop-row-test.false) ∙ c.loop-row.invariant
