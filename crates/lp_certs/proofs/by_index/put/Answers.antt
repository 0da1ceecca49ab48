use Rattle.std.proofs.Common.{rules}
use Rattle.lp_certs.proofs.Indexed.{put_at_none, put_in, put_past}
use Rattle.lp_certs.proofs.by_index.put.Goals.{then-variable-eq0-via-then-variable-eq0, then-variable-eq0-via-else-variable-eq0+then-len-variable}
use Rattle.lp_certs.proofs.by_index.put.Goals as goal

pub returns-then-variable-eq0 : goal.returns-then-variable-eq0
returns-then-variable-eq0 c =
    elim c.then-variable-eq0.branch [
      | then-variable-eq0-via-then-variable-eq0 w ↦ λ count f are. rw w.if-variable-eq0.true (put_at_none c.args.values.now.items c.args.value count f are)
      | then-variable-eq0-via-else-variable-eq0+then-len-variable w ↦ put_past c.args.values.now.items c.args.variable c.args.value (search rules)
    ]

pub returns : goal.returns
returns c = put_in c.args.values.now.items c.args.variable c.args.value c.if-variable-eq0.false (search rules)
