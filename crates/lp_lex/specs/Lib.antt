pub mod Ahead
pub mod Class
pub mod Lexer
pub mod Runs
pub mod Words
