use Rattle.search_laws.proofs.Grown.{none_to_come, whole_tree}
use Rattle.search_laws.proofs.tree_laws.a_tree_is_whole_where_nothing_is_to_come.Goals as goal

pub returns-clause-whole : goal.returns-clause-whole
returns-clause-whole c = whole_tree

pub returns-clause-ends : goal.returns-clause-ends
returns-clause-ends c = none_to_come
