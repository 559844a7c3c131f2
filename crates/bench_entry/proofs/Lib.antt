pub mod TickSums
