mod Levels
mod Given
mod Calls
mod Steps
mod Shares
mod Opening
mod Reserving
mod Answered
