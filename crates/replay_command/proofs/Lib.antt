mod Believing
mod Counting
mod Firsts
mod Lines
mod Replaying
mod StepLimits
