mod Ends
mod Loop
mod Outcomes
mod Walking
