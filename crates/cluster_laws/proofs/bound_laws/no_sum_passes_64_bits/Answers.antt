use Rattle.cluster_laws.proofs.Bounded.{behind_bounded, bounds_fit}
use Rattle.cluster_laws.proofs.Owners.{few_entries, few_owners}
use Rattle.cluster_laws.proofs.Small.{life_numbers}
use Rattle.cluster_laws.proofs.bound_laws.no_sum_passes_64_bits.Goals as goal

pub returns-clause-bounded : goal.returns-clause-bounded
returns-clause-bounded c = behind_bounded

pub returns-clause-owners : goal.returns-clause-owners
returns-clause-owners c = few_owners

pub returns-clause-entries : goal.returns-clause-entries
returns-clause-entries c = few_entries

pub returns-clause-fit : goal.returns-clause-fit
returns-clause-fit c = bounds_fit

pub returns-clause-numbers : goal.returns-clause-numbers
returns-clause-numbers c = λ k events j life. life_numbers life
