-- The ladders of one group and the charges on nets, over positions by band; the tables of weights and per cents. No file is known here.
pub mod Position
pub mod Table
pub mod Interest
pub mod Commodity
pub mod Nets
pub mod Rows
pub mod Inner
