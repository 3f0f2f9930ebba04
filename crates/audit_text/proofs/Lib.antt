pub mod Written
pub mod Numbering
pub mod FieldsRead
pub mod CallsRead
pub mod EntriesRead
pub mod LinesRead
pub mod Memories
pub mod Computed
