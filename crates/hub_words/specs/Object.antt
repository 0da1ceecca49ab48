-- Which desk this is, and where its history begins: what no call changes.
use Rattle.std.specs.Prelude.{ℕ}
use Rattle.cluster_defs.specs.Journal.{Journal}
use Rattle.cluster_defs.specs.Site.{Setup}

pub record Object : Type 0 where
  -- for a reference its borrow
  pub borrow : ℕ
  -- which disk stands behind it
  pub disk : ℕ
  pub setup : Setup
  -- the records that were there when it was opened, and the disk's count of faults then
  pub start : Journal
  pub faults : ℕ
