pub mod Handovers
pub mod EachCall
pub mod NotedShips
pub mod ToldLists
pub mod Shipping
pub mod LostFrees
