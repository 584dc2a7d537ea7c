-- The lines of a session one after another: what they come to, and what they make of its private side.
pub mod PlainParts
pub mod OwnSides
pub mod LineCalls
pub mod RowLines
pub mod RegisteredEffects
pub mod SessionCalls
pub mod QuietLines
pub mod OwnPlaces
