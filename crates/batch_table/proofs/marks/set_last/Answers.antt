use Rattle.std.proofs.Common.{rules, ◌∙◌, ap, not, List, [], ◌∷◌, ◌++◌, map}
use Rattle.std.proofs.lemmas.Fn.{filter_same}
use Rattle.base_names.specs.declared.id.BatchId.{BatchId}
use Rattle.batch_table.specs.Contents.{mark_of}
use Rattle.batch_table.proofs.Lasts.{marked}
use Rattle.batch_table.proofs.marks.set_last.Goals as goal
use Rattle.table_defs.specs.Names.{is_owner}

pub returns : goal.returns
returns c =
    let kept = filter_same _ (λ (last : BatchId). not (is_owner c.args.id.now.owner last.owner)) _ (λ x b f' k. search rules) _ _ c.retain.ensures.filtered in
    ap (map mark_of) (c.push_reserved.ensures.items ∙ ap (λ (lasts : List BatchId). lasts ++ c.args.id.now ∷ []) kept) ∙ marked c.args.id.now c.args.lasts.now.items
