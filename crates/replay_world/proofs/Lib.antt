mod Asking
mod Calling
mod Hearing
mod Opening
mod Seats
mod Taking
mod Worlds
mod Lining
