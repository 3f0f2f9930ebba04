pub mod FieldLaws
pub mod AddressLists
pub mod RowLaws
pub mod ReadingLaws
pub mod WritingLaws
