mod Apart
mod Opened
mod Stocks
