use Rattle.std.proofs.Common.{◌≡◌, ◌+◌, ◌<◌, ◌++◌, sym, ◌∙◌, ap, ap₂, subst, arith, List, [], length, set, get_or, append_assoc, append-nil}
use Rattle.std.proofs.lemmas.List.{get_or_default, length-set}
use Rattle.frac128.specs.Fraction.{Fraction, zero_value}
use Rattle.model_data.specs.declared.model.Term.{Term}
use Rattle.lp_defs.specs.Draft.{before_terms}
use Rattle.lp_parse.specs.Terms.{AreNamedFrom, terms_of}
use Rattle.lp_parse.proofs.Coefficients.{emptied, named_next, next_term, no_terms}
use Rattle.lp_parse.proofs.terms.move_terms.Goals as goal

pub move_term-requires-clause-below : goal.move_term-requires-clause-below
move_term-requires-clause-below c =
    let below = c.requires.below c.loop-var.var-index 0 c.loop-var-test.true in
    let same = c.loop-var.invariant.same_len in
    omega (arith, below, same)

pub move_term-requires-clause-room : goal.move_term-requires-clause-room
move_term-requires-clause-room c =
    let below = c.requires.below c.loop-var.var-index 0 c.loop-var-test.true in
    let same = c.loop-var.invariant.same_len in
    let var = get_or c.args.named.now c.loop-var.var-index 0 in
    let room = c.loop-var.invariant.room in
    let without = emptied var c.loop-var.coefs.items (omega (arith, below, same)) in
    omega (arith, room, without)

pub loop-var-preserved : goal.loop-var-preserved
loop-var-preserved c =
    let named = c.args.named.now in
    let k = c.loop-var.var-index in
    let coefs = c.loop-var.coefs.items in
    let terms = c.loop-var.terms.items in
    let var = get_or named k 0 in
    let less = c.requires.below k 0 c.loop-var-test.true in
    let same = c.loop-var.invariant.same_len in
    let below : var < length coefs = omega (arith, less, same) in
    let is : get_or named k var ≡ var = get_or_default named k var 0 c.loop-var-test.true in
    let without = emptied var coefs below in
    let left = ap (λ (l : List Fraction). length (terms_of l)) c.move_term.ensures.coefs in
    let room = c.loop-var.invariant.room in
    let len = c.move_term.ensures.len in
    let capacity = c.move_term.ensures.capacity in
    record {
      moved =
          ap₂ (λ (l : List Term) (m : List Fraction). l ++ terms_of m) c.move_term.ensures.terms c.move_term.ensures.coefs
          ∙ append_assoc terms (before_terms var (get_or coefs var zero_value) []) (terms_of (set coefs var zero_value))
          ∙ ap (λ (l : List Term). terms ++ l)
          (next_term k named coefs var c.loop-var-test.true is c.requires.rising c.loop-var.invariant.named_all below)
          ∙ c.loop-var.invariant.moved;
      named_all =
          subst (λ (m : List Fraction). AreNamedFrom (k + 1) named m) (sym c.move_term.ensures.coefs)
          (named_next k named coefs var c.loop-var-test.true is c.loop-var.invariant.named_all below);
      same_len = ap length c.move_term.ensures.coefs ∙ length-set coefs var zero_value ∙ same;
      room = omega (arith, left, without, len, capacity, room);
    }

pub returns-clause-none : goal.returns-clause-none
returns-clause-none c = λ var. c.loop-var.invariant.named_all var (λ at.
    let least = at.1 in
    let most = at.2 in
    omega (arith, least, most))

pub returns-clause-terms : goal.returns-clause-terms
returns-clause-terms c =
    let terms = c.loop-var.terms.items in
    let none = no_terms c.loop-var.coefs.items (λ var. c.loop-var.invariant.named_all var (λ at.
    let least = at.1 in
    let most = at.2 in
    omega (arith, least, most))) in
    sym (append-nil terms) ∙ ap (λ (l : List Term). terms ++ l) (sym none) ∙ c.loop-var.invariant.moved
