use Rattle.cluster_laws.proofs.BatchOrder.{by_id_order}
use Rattle.cluster_laws.proofs.Listings.{listed_once, listed_order}
use Rattle.cluster_laws.proofs.SoundOpenings.{by_id_same}
use Rattle.cluster_laws.proofs.OwnRows.{rows_by_number}
use Rattle.cluster_laws.proofs.standing_laws.jobs_are_listed_in_order.Goals as goal

pub returns-clause-once : goal.returns-clause-once
returns-clause-once c = listed_once

pub returns-clause-ordered : goal.returns-clause-ordered
returns-clause-ordered c = listed_order

pub returns-clause-batches : goal.returns-clause-batches
returns-clause-batches c = by_id_same

pub returns-clause-batches_ordered : goal.returns-clause-batches_ordered
returns-clause-batches_ordered c = by_id_order

pub returns-clause-own : goal.returns-clause-own
returns-clause-own c = rows_by_number
