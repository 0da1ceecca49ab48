use Rattle.std.proofs.Common.{sym, subst, ℕ, List, length}
use Rattle.lp_parse.specs.Terms.{AreBelow, AreNamedFrom, AreRising, IsTable}
use Rattle.lp_parse.proofs.Coefficients.{empty_table, no_terms, sorted_rising, table_sorted}
use Rattle.lp_parse.proofs.terms.Terms.take.Goals as goal
use Rattle.lp_parse.proofs.terms.Terms.take.Goals.{After-sort_unstable}

sorted : (c : After-sort_unstable) → IsTable c.self.inside.coefs.items c.sort_unstable.new.self.items c.self.inside.count
sorted c = table_sorted c.self.inside.coefs.items c.self.inside.named.items c.sort_unstable.new.self.items c.self.inside.count
    c.sort_unstable.ensures.permutation c.self.invariant

pub invariant_of-self : goal.invariant_of-self
invariant_of-self c = sorted (goal.at.invariant_of-self c).After-sort_unstable

pub move_terms-requires-clause-rising : goal.move_terms-requires-clause-rising
move_terms-requires-clause-rising c =
    subst AreRising (sym c.deref.ensures.value) (sorted_rising c.sort_unstable.new.self.items c.sort_unstable.ensures.sorted)

pub move_terms-requires-clause-named_all : goal.move_terms-requires-clause-named_all
move_terms-requires-clause-named_all c =
    let table = sorted (goal.at.move_terms-requires-clause-named_all c).After-sort_unstable in
    subst (λ (l : List ℕ). AreNamedFrom 0 l c.self.inside.coefs.items) (sym c.deref.ensures.value) table.named_all

pub move_terms-requires-clause-below : goal.move_terms-requires-clause-below
move_terms-requires-clause-below c =
    let table = sorted (goal.at.move_terms-requires-clause-below c).After-sort_unstable in
    subst (λ (l : List ℕ). AreBelow (length c.self.inside.coefs.items) l) (sym c.deref.ensures.value) table.below

pub invariant_of-self-2 : goal.invariant_of-self-2
invariant_of-self-2 c =
    subst (λ (l : List ℕ). IsTable c.move_terms.new.coefs.items l 0) (sym c.clear.ensures.items)
    (empty_table c.move_terms.new.coefs.items c.move_terms.ensures.none)

pub returns-clause-none : goal.returns-clause-none
returns-clause-none c = no_terms c.move_terms.new.coefs.items c.move_terms.ensures.none
