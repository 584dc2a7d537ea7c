pub mod HeldRows
pub mod LedgerNumbers
pub mod LevelRows
pub mod SettledDoubt
