mod Fillings
mod Places
