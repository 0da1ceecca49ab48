pub mod Agreement
mod AtTheLimits
pub mod CanonicalExamples
mod Digits
mod KeptNumbers
pub mod Labels
pub mod Laws
mod Lists
pub mod Named
pub mod Names
mod Parts
mod ReadObjective
mod ReadRows
mod ReadSections
mod Rest
mod Sight
pub mod Sound
mod SoundRows
pub mod SoundText
pub mod SoundTokens
mod Spelled
mod SpelledRows
mod SpelledSections
mod Takes
pub mod Told
pub mod Words
mod Worked
mod Writable
mod WrittenLines
mod WrittenModel
mod WrittenNumbers
mod WrittenObjective
mod WrittenPieces
mod WrittenRows
mod WrittenSections
mod WrittenText
mod WrittenWords
