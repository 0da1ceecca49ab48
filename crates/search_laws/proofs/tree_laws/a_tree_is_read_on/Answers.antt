use Rattle.search_laws.proofs.Grown.{still_open-append}
use Rattle.search_laws.proofs.tree_laws.a_tree_is_read_on.Goals as goal

pub returns : goal.returns
returns c later more tree nodes = still_open-append later tree more nodes
