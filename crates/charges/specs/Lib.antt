-- What a book costs: bands and weights, the six charges over lists of rows, and the report, the ladders and a small bank's figures of any bytes.
pub mod Bands
pub mod Weights
pub mod Charges
pub mod Report
pub mod SmallBank
pub mod Inner
