-- The worked books and facts, computed; joining, used once.
pub mod WorkedBooks
pub mod WorkedJoin
pub mod MirrorBooks
pub mod RoomBooks
pub mod TextBooks
pub mod NettingBooks
pub mod OffsettingBooks
pub mod OrderBooks
pub mod ShortestBooks
pub mod DearestBooks
pub mod OptionsBooks
pub mod TradeBooks
