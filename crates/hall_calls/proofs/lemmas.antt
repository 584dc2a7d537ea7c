pub mod NamedValues
pub mod WithHistory
pub mod GoodFiles
pub mod OfOpenUnits
pub mod WaitingLists
pub mod StoreRead
pub mod Replies
