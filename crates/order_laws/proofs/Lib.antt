pub mod OrderLists
pub mod UpTold
pub mod OrdersTold
pub mod NoneWaiting
pub mod Claims
pub mod WorkerAnswers
pub mod StandingOrders
pub mod Rested
