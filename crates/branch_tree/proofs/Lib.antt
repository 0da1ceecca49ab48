mod Bounded
mod Finished
mod Relaxing
mod Repeated
mod Stacked
mod Turned
mod Underway
