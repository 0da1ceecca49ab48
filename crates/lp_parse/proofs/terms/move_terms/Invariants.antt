use Rattle.std.proofs.Common.{◌≡◌, ◌+◌, ◌≤◌, ◌++◌, length}
use Rattle.std.specs.Vec.{vec_capacity, vec_len}
use Rattle.lp_parse.specs.Terms.{AreNamedFrom, terms_of}
use Rattle.lp_parse.proofs.terms.move_terms.Given as goal

abbrev pub invariant-loop-var : goal.invariant-loop-var
invariant-loop-var l = record {
  moved : l.terms.items ++ terms_of l.coefs.items ≡ l.initial.terms.items ++ terms_of l.initial.coefs.items;
  named_all : AreNamedFrom l.var-index l.named l.coefs.items;
  same_len : length l.coefs.items ≡ length l.initial.coefs.items;
  room : length (terms_of l.coefs.items) + vec_len l.terms ≤ vec_capacity l.terms;
}
