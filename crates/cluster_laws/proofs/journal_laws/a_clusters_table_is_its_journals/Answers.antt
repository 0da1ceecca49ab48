use Rattle.cluster_laws.proofs.Lives.{life_owner, life_table}
use Rattle.cluster_laws.proofs.journal_laws.a_clusters_table_is_its_journals.Goals as goal

pub returns-clause-table : goal.returns-clause-table
returns-clause-table c = λ k events j first last o life becomes legal brings. life_table first last o life becomes legal brings

pub returns-clause-own : goal.returns-clause-own
returns-clause-own c = λ u k events j first last o life becomes legal brings. life_owner u first last o life becomes legal brings
