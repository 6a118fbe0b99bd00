mod Promised
mod Sent
mod Sizes
mod Turns
mod Verdicts
