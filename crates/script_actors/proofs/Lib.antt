pub mod ReplyTexts
pub mod Numbers
pub mod LineSteps
pub mod ActorLines
