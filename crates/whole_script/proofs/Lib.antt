mod Adding
mod Ends
mod Loop
mod Numbering
