-- The least trade that brings a currency within a limit.
pub mod Trade
pub mod Inner
