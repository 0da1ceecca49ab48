-- What dictionaries say of points: lemmas of the laws in `src/laws.rt`.
pub mod Bounded
pub mod Chosen
pub mod EndPhase
pub mod Exact
pub mod ExactPivot
pub mod Feasible
pub mod FirstPivot
pub mod FreeRise
pub mod Lawful
pub mod Opening
pub mod OwnPoint
pub mod PhaseOne
pub mod PivotLaw
pub mod Sums
pub mod Turned
