use Rattle.std.proofs.Common.{◌≡◌, ◌-◌, length, map, suc}
use Rattle.frac128.specs.Fraction.{negation}
use Rattle.dictionary.specs.Dictionary.{entry, numbers_from}
use Rattle.lp_certs.specs.ByIndex.{line_at}
use Rattle.lp_certs.proofs.Indexed.{value_from}
use Rattle.lp_certs.proofs.by_index.weights.Given as goal

abbrev pub invariant-loop-place : goal.invariant-loop-place
invariant-loop-place g l =
    let d = g.T.Tableau.meaning l.t in
    l.weights.items ≡ map (value_from (λ k. negation (entry (line_at d l.line) (suc k))) d.nonbasic (length d.nonbasic - l.place)) (numbers_from 1 l.count)
