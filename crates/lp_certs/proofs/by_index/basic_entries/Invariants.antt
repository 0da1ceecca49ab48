use Rattle.std.proofs.Common.{◌≡◌, ◌-◌, length, map, suc}
use Rattle.dictionary.specs.Dictionary.{entry, numbers_from, row_at}
use Rattle.solve_defs.specs.Ends.{structural_count}
use Rattle.lp_certs.proofs.Indexed.{value_from}
use Rattle.lp_certs.proofs.by_index.basic_entries.Given as goal

abbrev pub invariant-loop-place : goal.invariant-loop-place
invariant-loop-place g l =
    let d = g.T.Tableau.meaning l.t in
    l.entries.items ≡ map (value_from (λ k. entry (row_at d.rows (suc k)) l.column) d.basic (length d.basic - l.place)) (numbers_from 1 (structural_count d))
