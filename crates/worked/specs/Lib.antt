-- The books worked by hand, and facts of documents 01 and 02.
pub mod Worked
pub mod Facts
pub mod Tables
pub mod SmallFacts
pub mod PartFacts
pub mod MirrorFacts
pub mod RoomFacts
pub mod TextFacts
pub mod WrittenBooks
pub mod NettingFacts
pub mod OffsettingFacts
pub mod OrderFacts
pub mod ShortestFacts
pub mod DearestFacts
pub mod OptionsFacts
pub mod TradeFacts
