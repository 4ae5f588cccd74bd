pub mod PhaseStuck
pub mod RowRuns
pub mod RowSound
pub mod RowPasts
mod Lines
