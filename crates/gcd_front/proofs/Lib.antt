mod Queueing
mod Noting
mod Hearing
mod Lefts
