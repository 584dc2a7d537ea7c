mod Lists
mod Script
mod Chains
mod History
