mod Bytes
mod Lines
mod Told
mod Verbs
mod Words
