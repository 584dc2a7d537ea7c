mod FullAnswers
mod Lengths
mod Posts
