-- What is claimed: the accepted books and their parts, joining, order and mirror, the charge of each currency, netting, offsetting, the two in one call, the
-- shortest file that shows a refusal, the dearest book, options, the least trade.
pub mod Zones
pub mod Orders
pub mod Demands
pub mod Currencies
pub mod AddingUp
pub mod SmallBank
pub mod Netting
pub mod Offsetting
pub mod NetOffset
pub mod Bytes
pub mod Shortest
pub mod Dearest
pub mod Options
pub mod Trade
