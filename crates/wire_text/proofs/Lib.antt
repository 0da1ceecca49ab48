mod Answered
mod Blocks
pub mod LawfulCommands
pub mod LineCuts
mod OneForm
mod Pairs
pub mod Verbs
