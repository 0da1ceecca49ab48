-- What owners have asked since mounting, as a hub counts it.
use Rattle.std.specs.Prelude.{List, map}
use Rattle.cluster_defs.specs.Cluster as cluster
use Rattle.hub_core.specs.declared.counting.Usage.{Usage}

abbrev pub usage_in : Usage → cluster.Usage
usage_in u = record { owner = u.owner; entries = u.entries; charges = u.charges }

abbrev pub usages_in : List Usage → List cluster.Usage
usages_in us = map usage_in us
