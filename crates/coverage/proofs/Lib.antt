mod Padding
mod Names
mod Watches
mod Tallied
mod Found
mod Walks
