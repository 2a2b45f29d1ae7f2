pub mod LineWidths
pub mod NameWidths
pub mod CallWidths
pub mod JournalWidths
