pub mod Follows
pub mod Counts
pub mod Behind
pub mod Books
pub mod Lists
pub mod UnitsAlike
pub mod OneLedger
pub mod Refusals
