use Rattle.std.proofs.Common.{◌+◌, ◌-◌, length}
use Rattle.lp_parse.specs.Terms.{IsLonger}
use Rattle.lp_parse.proofs.terms.make_room.Given as goal

abbrev pub invariant-loop-coefs : goal.invariant-loop-coefs
invariant-loop-coefs l = IsLonger l.initial.coefs.items l.coefs.items

abbrev pub decreases-loop-coefs : goal.decreases-loop-coefs
decreases-loop-coefs l = l.place + 1 - length l.coefs.items
